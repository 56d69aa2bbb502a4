-- What is derived has grounds: the conclusion of a rule whose body is true is in every set closed under the reduct.
use Prim.Native.Nat.{ℕ, ◌≤◌, ◌<◌}
use native.Mathlib.Omega.{arith}
use mathlib.Core.Path.{◌≡◌, refl, sym, ap, ◌∙◌}
use mathlib.Core.Bool.{Bool, true, false, not, ◌&&◌}
use mathlib.Core.List.{map}
use mathlib.Core.Logic.{⊎_elim}
use borrow.Author.Tests.{not-false, ltb-true}
use lib.Dec.{ltb}
use Rattle.theory.specs.Rule.{all, clear, mem, Program, Mask, FactSet, Sub, count, rule, Closed}
use Rattle.theory.specs.Conditions.{Bounded}
use Rattle.theory.specs.Stable.{reduct}
use Rattle.theory.proofs.Bools.{never, or_right, or_cases}
use Rattle.theory.proofs.Lists.{all-elem, all_of, clear-elem, clear_of, clear-anti, mem-left, mem-append}
use Rattle.theory.proofs.Derive.{out_below}
use Rattle.theory.proofs.Stable.{reduct-has, reduct-on, reduct-clear}
use Rattle.items.specs.Item.{narrow, max_facts}
use Rattle.index.specs.Literal.{outside, body, lacking}
use Rattle.index.proofs.LiteralsBelow.{body_below}
use Rattle.index.proofs.MappedElements.{mem-map, map-mem}
use Rattle.index.proofs.LiteralsCounted.{none_lacking, lacking-none}
use Rattle.propagation.specs.State.{not_held_out, Grounded}

module _ (P : Program) (on : Mask) where
  -- the more is held out, the more rules the reduct has
  closed-before : (yet yet' : ℕ → Bool) → Sub yet yet' → (N : FactSet) → Closed P (reduct P on (not_held_out yet')) N → Closed P (reduct P on (not_held_out yet)) N
  closed-before yet yet' s N c i l t p =
      c i l
      (reduct-has P on (not_held_out yet') i (reduct-on P on (not_held_out yet) i t)
      (clear-anti (not_held_out yet') (not_held_out yet) (rule P i).constraints (λ k h. out_below yet yet' (outside k) s h) (reduct-clear P on (not_held_out yet) i t)))
      p

  pub grounded_still : (yet yet' : ℕ → Bool) → Sub yet yet' → (f : ℕ) → Grounded P on yet f → Grounded P on yet' f
  grounded_still yet yet' s f g N c = g N (closed-before yet yet' s N c)

  module _ (yet : ℕ → Bool) (i : ℕ) where
    pub body-true : i < count P → Bounded P → P.facts ≤ max_facts narrow → lacking P yet i ≡ 0 → (l : ℕ) → mem l (body (rule P i)) ≡ true → yet l ≡ true
    body-true h b few e l m = not-false (yet l) (never_lacks (mem l (body (rule P i))) (not (yet l)) m (none_lacking P yet i e l (body_below P b few i h l m)))
      where
        never_lacks : (a c : Bool) → a ≡ true → a && c ≡ false → c ≡ false
        never_lacks true c p q = q
        never_lacks false c p q = never p refl

    pub none_missing : all yet (rule P i).premises ≡ true → clear (not_held_out yet) (rule P i).constraints ≡ true → lacking P yet i ≡ 0
    none_missing p c = lacking-none P yet i (λ l. unlacked l (mem l (body (rule P i))) refl)
      where
        holds : (l : ℕ) → mem l (body (rule P i)) ≡ true → yet l ≡ true
        holds l m =
            ⊎_elim
            (λ q. all-elem yet (rule P i).premises p l q)
            (λ q. map-mem outside yet (rule P i).constraints (λ k r. not-false (yet (outside k)) (clear-elem (not_held_out yet) (rule P i).constraints c k r)) l q)
            (or_cases (mem l (rule P i).premises) _ (sym (mem-append l (rule P i).premises (map outside (rule P i).constraints)) ∙ m))

        unlacked : (l : ℕ) (b : Bool) → mem l (body (rule P i)) ≡ b → b && not (yet l) ≡ false
        unlacked l true m = ap not (holds l m)
        unlacked l false m = refl

  -- `sure` are the literals that are true, `yet` those and the ones that wait
  pub conclusion_grounded : Bounded P → P.facts ≤ max_facts narrow → (sure yet : ℕ → Bool) → Sub sure yet → ((f : ℕ) → f < max_facts narrow → yet f ≡ true → Grounded P on yet f) → (i : ℕ) → i < count P → on i ≡ true → lacking P sure i ≡ 0 → Grounded P on yet (rule P i).conclusion
  conclusion_grounded b few sure yet s sound i l o e N c =
      c i l
      (reduct-has P on (not_held_out yet) i o (clear_of (not_held_out yet) (rule P i).constraints (λ k m. ap not (s (outside k) (held k m)))))
      (all_of N (rule P i).premises (λ p m. sound p (small p m) (s p (body-true sure i l b few e p (mem-left p (rule P i).premises (map outside (rule P i).constraints) m))) N c))
    where
      held : (k : ℕ) → mem k (rule P i).constraints ≡ true → sure (outside k) ≡ true
      held k m =
          body-true sure i l b few e (outside k)
          (mem-append (outside k) (rule P i).premises (map outside (rule P i).constraints) ∙ or_right (mem (outside k) (rule P i).premises) _ (mem-map outside (rule P i).constraints k m))

      small : (p : ℕ) → mem p (rule P i).premises ≡ true → p < max_facts narrow
      small p m = omega (arith, ltb-true p P.facts (all-elem (λ f. ltb f P.facts) (rule P i).premises (b.premises_below i l) p m))
