-- A rule of a fact is done with: the fact's next rule is the one that follows it in the thread, and less of the thread is left.
use Prim.Native.Nat.{ℕ, ◌-◌, ◌≤◌, ◌<◌}
use native.Mathlib.Omega.{arith}
use mathlib.Core.Path.{◌≡◌, refl, ◌∙◌}
use mathlib.Core.Bool.{Bool, true, false}
use mathlib.Core.List.{List}
use mathlib.Core.Logic.{◌⊎◌, inl, inr, ⊎_elim}
use borrow.Author.Tests.{eqb-true, eqb-false}
use lib.ListN.{get_or, set, length-set}
use lib.Seq.{get_or-set_same, get_or-set_other}
use lib.Dec.{eqb}
use Rattle.theory.specs.Rule.{up_to, Program, count}
use Rattle.theory.proofs.Lists.{up_to-mem}
use Rattle.theory.proofs.Counted.{sum_less}
use Rattle.items.specs.Item.{narrow, max_facts, max_rules}
use Rattle.threads.specs.Threads.{thread_end}
use Rattle.descent.specs.Standing.{RuleOf, Threads, threads_left}

module _ {P : Program} {todo next : List ℕ} (w : Threads P todo next) (few : P.facts < max_facts narrow) {f i : ℕ} (low : f < P.facts) (is-next : get_or todo f 0 ≡ i) (own : RuleOf P f i) where
  -- what the fact's next rule is now
  now_there : get_or (set todo f (get_or next i 0)) f 0 ≡ get_or next i 0
  now_there = get_or-set_same todo f (get_or next i 0) 0 (omega (arith, w.todo_places))

  pub followed : Threads P (set todo f (get_or next i 0)) next
  followed =
      record {
        todo_places = length-set todo f (get_or next i 0) ∙ w.todo_places;
        next_places = w.next_places;
        todo_rule = λ g l. go g l (eqb g f) refl;
        next_rule = w.next_rule;
        next_least = w.next_least;
      }
    where
      go : (g : ℕ) → g < P.facts → (b : Bool) → eqb g f ≡ b → (get_or (set todo f (get_or next i 0)) g 0 ≡ thread_end) ⊎ RuleOf P g (get_or (set todo f (get_or next i 0)) g 0)
      go g l true e =
          let same : g ≡ f = eqb-true _ _ e in
          rw (same, now_there) (⊎_elim (λ q. inl q) (λ h. inr h.1) (w.next_rule f i own))
      go g l false e = rw (get_or-set_other todo f g (get_or next i 0) 0 (eqb-false _ _ e)) (w.todo_rule g l)

  pub less-followed : count P ≤ max_rules → threads_left P (set todo f (get_or next i 0)) < threads_left P todo
  less-followed few_rules =
      sum_less (λ g. thread_end - get_or (set todo f (get_or next i 0)) g 0) (λ g. thread_end - get_or todo g 0) (λ g. at_most g (eqb g f) refl) (up_to P.facts) f (up_to-mem P.facts f low) falls
    where
      falls : thread_end - get_or (set todo f (get_or next i 0)) f 0 < thread_end - get_or todo f 0
      falls = rw now_there (⊎_elim (λ e. omega (arith, own.known)) (λ h. omega (arith, h.0, h.1.known)) (w.next_rule f i own))

      at_most : (g : ℕ) (b : Bool) → eqb g f ≡ b → thread_end - get_or (set todo f (get_or next i 0)) g 0 ≤ thread_end - get_or todo g 0
      at_most g true e = let same : g ≡ f = eqb-true _ _ e in rw same (omega (arith, falls))
      at_most g false e = rw (get_or-set_other todo f g (get_or next i 0) 0 (eqb-false _ _ e)) (omega arith)
