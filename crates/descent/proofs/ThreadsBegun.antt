-- The conclusion of each rule in force is its key, and the rules of each fact stand in its thread: what is first there, and what follows a rule.
use Prim.Native.Nat.{ℕ, zero, suc, ◌+◌, ◌<◌, ◌≤◌}
use native.Mathlib.Omega.{arith}
use mathlib.Core.Path.{◌≡◌, refl, sym, subst, ◌∙◌}
use mathlib.Core.Bool.{Bool, true, false, cond}
use mathlib.Core.List.{List, [], ◌∷◌}
use mathlib.Core.Logic.{◌⊎◌, inl, inr, ⊎_elim}
use borrow.Author.Tests.{eqb-true, eq-eqb}
use lib.ListN.{get_or}
use lib.Dec.{eqb}
use Rattle.theory.specs.Rule.{mem, keep, range, up_to, Program, withheld, in_force, count, rule}
use Rattle.theory.specs.Conditions.{Bounded}
use Rattle.theory.specs.Places.{places_marked}
use Rattle.theory.proofs.Bools.{never, and_left, and_right, and_both}
use Rattle.theory.proofs.Lists.{mem-here, mem-cases, mem-keep, mem-range, mem-up_to, up_to-mem}
use Rattle.theory.proofs.Withheld.{withheld-off, read_on}
use Rattle.items.specs.Item.{narrow, max_facts}
use Rattle.threads.specs.Threads.{thread_end, Strung, Threaded}
use Rattle.descent.specs.Standing.{rule_key, RuleOf, Threads}

-- what is first in a thread is the end, or one of it
first_of : (next : List ℕ) (from : ℕ) (is : List ℕ) → Strung next from is → (from ≡ thread_end) ⊎ (mem from is ≡ true)
first_of next from [] s = inl s
first_of next from (i ∷ is) s = inr (subst (λ (a : ℕ). mem a (i ∷ is) ≡ true) (sym s.0) (mem-here i is))

-- Of the numbers from a on that pass a test, strung together, one leads to the end or to a higher one.
module _ (p : ℕ → Bool) (next : List ℕ) where
  kept : (a n i : ℕ) → mem i (keep p (range a n)) ≡ true → (mem i (range a n) ≡ true) × (p i ≡ true)
  kept a n i m =
      let both = sym (mem-keep p (range a n) i) ∙ m in
      (and_left (mem i (range a n)) (p i) both, and_right (mem i (range a n)) (p i) both)

  abbrev Leads : ℕ → ℕ → Type 0
  Leads i end = (get_or next i 0 ≡ thread_end) ⊎ ((i < get_or next i 0) × ((get_or next i 0 < end) × (p (get_or next i 0) ≡ true)))

  leads-on : (a n from i : ℕ) → Strung next from (keep p (range a n)) → mem i (keep p (range a n)) ≡ true → Leads i (a + n)
  leads-on a zero from i s m = never m refl
  leads-on a (suc n) from i s m = go (p a) refl (leads-on (suc a) n)
    where
      same_end : (j : ℕ) → Leads j (suc a + n) → Leads j (a + suc n)
      same_end j = ⊎_elim (λ e. inl e) (λ h. inr (h.0, (omega (arith, h.1.0), h.1.1)))

      follows : Strung next (get_or next a 0) (keep p (range (suc a) n)) → Leads a (a + suc n)
      follows rest = ⊎_elim (λ e. inl e) (λ k. let (inside, passes) = kept (suc a) n (get_or next a 0) k in let (low, high) = mem-range (suc a) n (get_or next a 0) inside in inr (omega (arith, low), (omega (arith, high), passes))) (first_of next (get_or next a 0) (keep p (range (suc a) n)) rest)

      go : (b : Bool) → p a ≡ b → ((from i : ℕ) → Strung next from (keep p (range (suc a) n)) → mem i (keep p (range (suc a) n)) ≡ true → Leads i (suc a + n)) → Leads i (a + suc n)
      go true e r =
          let here : Strung next from (a ∷ keep p (range (suc a) n)) = rw e at s in
          ⊎_elim
          (λ is-a. rw is-a (follows here.1))
          (λ later. same_end i (r (get_or next a 0) i here.1 later))
          (mem-cases i a (keep p (range (suc a) n)) (rw e at m))
      go false e r = same_end i (r from i (rw e at s) (rw e at m))

  -- what is first in the thread is the least of it, and what follows one is the least of those that are higher
  first-least : (a n from j : ℕ) → Strung next from (keep p (range a n)) → mem j (keep p (range a n)) ≡ true → from ≤ j
  first-least a zero from j s m = never m refl
  first-least a (suc n) from j s m = go (p a) refl (first-least (suc a) n)
    where
      go : (b : Bool) → p a ≡ b → ((from j : ℕ) → Strung next from (keep p (range (suc a) n)) → mem j (keep p (range (suc a) n)) ≡ true → from ≤ j) → from ≤ j
      go true e r =
          let here : Strung next from (a ∷ keep p (range (suc a) n)) = rw e at s in
          omega (arith, here.0, (mem-range a (suc n) j (kept a (suc n) j m).0).0)
      go false e r = r from j (rw e at s) (rw e at m)

  next_least : (a n from i j : ℕ) → Strung next from (keep p (range a n)) → mem i (keep p (range a n)) ≡ true → mem j (keep p (range a n)) ≡ true → i < j → get_or next i 0 ≤ j
  next_least a zero from i j s m k l = never m refl
  next_least a (suc n) from i j s m k l = go (p a) refl (next_least (suc a) n)
    where
      go : (b : Bool) → p a ≡ b → ((from i j : ℕ) → Strung next from (keep p (range (suc a) n)) → mem i (keep p (range (suc a) n)) ≡ true → mem j (keep p (range (suc a) n)) ≡ true → i < j → get_or next i 0 ≤ j) → get_or next i 0 ≤ j
      go true e r =
          let here : Strung next from (a ∷ keep p (range (suc a) n)) = rw e at s in
          let low : a ≤ i = (mem-range a (suc n) i (kept a (suc n) i m).0).0 in
          ⊎_elim
          (λ is-a. absurd (omega (arith, is-a)))
          (λ later. ⊎_elim (λ is-a. rw is-a (first-least (suc a) n (get_or next a 0) j here.1 later)) (λ both. r (get_or next a 0) i j here.1 both later l) (mem-cases i a (keep p (range (suc a) n)) (rw e at m)))
          (mem-cases j a (keep p (range (suc a) n)) (rw e at k))
      go false e r = r from i j (rw e at s) (rw e at m) (rw e at k) l

-- The key of a rule that is withheld, and of one that is not.
pub withheld-key : (P : Program) (i : ℕ) → withheld P i ≡ true → thread_end ≡ rule_key P i
withheld-key P i e = rw (withheld-off P i e) refl

pub read_key : (P : Program) (i : ℕ) → withheld P i ≡ false → (rule P i).conclusion ≡ rule_key P i
read_key P i e = rw (read_on P i e) refl

-- A fact is the key of its rules, and of no other ones.
own_key : {P : Program} {f i : ℕ} → RuleOf P f i → rule_key P i ≡ f
own_key r = rw r.in-force r.concludes

key_own : (P : Program) (f i : ℕ) → f < max_facts narrow → i < count P → rule_key P i ≡ f → RuleOf P f i
key_own P f i small known = go (in_force P i) refl
  where
    go : (on : Bool) → in_force P i ≡ on → cond on (rule P i).conclusion thread_end ≡ f → RuleOf P f i
    go true on e = record { known = known; in-force = on; concludes = e }
    go false on e = absurd (omega arith)

-- Rules threaded by these keys: each fact's first rule is a rule of it, and so is the next after a rule, with a higher number, and none is passed over.
module _ (P : Program) (keys first next : List ℕ) (b : Bounded P) (few : P.facts < max_facts narrow) (told : (i : ℕ) → i < count P → get_or keys i 0 ≡ rule_key P i) (w : Threaded keys (count P) first next) where
  abbrev has_key : ℕ → ℕ → Bool
  has_key key i = eqb (get_or keys i 0) key

  -- the thread of a fact, and the rules that stand there
  thread_of : (f : ℕ) → f < P.facts → Strung next (get_or first f 0) (keep (has_key f) (up_to (count P)))
  unfolding places_marked
  thread_of f l = w.strung f (omega arith)

  stands-there : (f i : ℕ) → RuleOf P f i → mem i (keep (has_key f) (up_to (count P))) ≡ true
  stands-there f i r = mem-keep (has_key f) (up_to (count P)) i ∙ and_both (up_to-mem (count P) i r.known) (eq-eqb _ _ (told i r.known ∙ own_key r))

  stood_there : (f i : ℕ) → f < P.facts → i < count P → has_key f i ≡ true → RuleOf P f i
  stood_there f i l known has = key_own P f i (omega arith) known (sym (told i known) ∙ eqb-true _ _ has)

  -- a fact that has a rule is one of the program
  low : (f i : ℕ) → RuleOf P f i → f < P.facts
  low f i r = subst (λ g. g < P.facts) r.concludes (b.conclusion_below i r.known)

  pub threads_begin : Threads P first next
  threads_begin =
      record {
        todo_places = w.first-places;
        next_places = w.next_places;
        todo_rule = starts;
        next_rule = follows;
        next_least = λ f i j r s. next_least (has_key f) next 0 (count P) (get_or first f 0) i j (thread_of f (low f i r)) (stands-there f i r) (stands-there f j s);
      }
    where
      starts : (f : ℕ) → f < P.facts → (get_or first f 0 ≡ thread_end) ⊎ RuleOf P f (get_or first f 0)
      starts f l = ⊎_elim (λ e. inl e) (λ m. inr (one_of m)) (first_of next (get_or first f 0) (keep (has_key f) (up_to (count P))) (thread_of f l))
        where
          one_of : mem (get_or first f 0) (keep (has_key f) (up_to (count P))) ≡ true → RuleOf P f (get_or first f 0)
          one_of m =
              let (inside, passes) = kept (has_key f) next 0 (count P) (get_or first f 0) m in
              stood_there f (get_or first f 0) l (mem-up_to (count P) (get_or first f 0) inside) passes

      follows : (f i : ℕ) → RuleOf P f i → (get_or next i 0 ≡ thread_end) ⊎ ((i < get_or next i 0) × RuleOf P f (get_or next i 0))
      follows f i r =
          ⊎_elim (λ e. inl e)
          (λ h. inr (h.0, stood_there f (get_or next i 0) (low f i r) (omega (arith, h.1.0)) h.1.1))
          (leads-on (has_key f) next 0 (count P) (get_or first f 0) i (thread_of f (low f i r)) (stands-there f i r))

  -- no rule of a fact is before its first
  pub none_before : (f i : ℕ) → RuleOf P f i → get_or first f 0 ≤ i
  none_before f i r = first-least (has_key f) next 0 (count P) (get_or first f 0) i (thread_of f (low f i r)) (stands-there f i r)
