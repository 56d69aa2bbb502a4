-- Withheld rules (document 02, wish 6): which rules are in force, and which have mark 4.
use Prim.Native.Nat.{ℕ, ◌<◌}
use mathlib.Core.Path.{◌≡◌, refl, ◌∙◌}
use mathlib.Core.Bool.{Bool, true, false, not, cond}
use mathlib.Core.List.{List, [], ◌∷◌}
use mathlib.Core.Logic.{⊎_elim}
use lib.Dec.{eqb, ltb}
use Rattle.theory.specs.Rule.{all, any, clear, mem, null, Program, Mask, FactSet, count, rule, plain, exception, plain_rules, withheld, in_force}
use Rattle.theory.specs.Run.{set_aside, run, rule_mark}
use Rattle.theory.proofs.Bools.{either, never, and_left, and_right, and_both, false_of_not, false_of, both_ways}
use Rattle.theory.proofs.Lists.{any_of, any-witness, clear_of}
use Rattle.theory.proofs.Run.{Sound, not-both, run_sound}
use Rattle.theory.proofs.Order.{plain-or_exception}

module _ (P : Program) where
  -- A withheld rule is an exception rule, so a plain one is in force.
  pub withheld_exception : (i : ℕ) → withheld P i ≡ true → exception P i ≡ true
  unfolding withheld
  withheld_exception i e = and_left _ _ e

  pub withheld-off : (i : ℕ) → withheld P i ≡ true → in_force P i ≡ false
  unfolding in_force
  withheld-off i e = rw e refl

  pub read_on : (i : ℕ) → withheld P i ≡ false → in_force P i ≡ true
  unfolding in_force
  read_on i e = rw e refl

  pub on_read : (i : ℕ) → in_force P i ≡ true → withheld P i ≡ false
  unfolding in_force
  on_read i e = false_of_not (withheld P i) e

  pub off_withheld : (i : ℕ) → in_force P i ≡ false → withheld P i ≡ true
  off_withheld i e = ⊎_elim (λ t. t) (λ f. never (read_on i f) e) (either (withheld P i))

  pub plain_in_force : (i : ℕ) → plain P i ≡ true → in_force P i ≡ true
  plain_in_force i p = read_on i (false_of (withheld P i) (λ e. not-both P (λ _. true) i p (withheld_exception i e)))

  -- The plain rules in force are the plain rules.
  pub plain-rules : (i : ℕ) → plain_rules P (in_force P) i ≡ plain P i
  unfolding plain_rules
  plain-rules i = both_ways _ _ (and_right (in_force P i) _) (λ p. and_both (plain_in_force i p) p)

  -- Of a rule of the program it is enough to look at its constraints.
  pub withheld-any : (i : ℕ) → i < count P → withheld P i ≡ any P.unread (rule P i).constraints
  unfolding withheld plain
  withheld-any i l =
      both_ways _ _ (and_right (exception P i) _)
      (λ t. and_both (⊎_elim (λ p. absurd (not_plain p t)) (λ e. e) (plain-or_exception P i l)) t)
    where
      none : (ks : List ℕ) → null ks ≡ true → any P.unread ks ≡ true → ⊥
      none [] n t = never t refl
      none (k ∷ ks) n t = never n refl

      not_plain : plain P i ≡ true → any P.unread (rule P i).constraints ≡ true → ⊥
      not_plain p t = none (rule P i).constraints (and_right (ltb i (count P)) (null (rule P i).constraints) p) t

  -- No constraint of a rule in force is unread.
  pub in_force_read : (i : ℕ) → i < count P → in_force P i ≡ true → clear P.unread (rule P i).constraints ≡ true
  in_force_read i l o =
      clear_of P.unread (rule P i).constraints
      (λ k m. false_of (P.unread k) (λ u. never (withheld-any i l ∙ any_of P.unread (rule P i).constraints k m u) (on_read i o)))

  -- Where every fact was read, every rule is in force.
  pub all-in_force : ((f : ℕ) → P.unread f ≡ false) → (i : ℕ) → in_force P i ≡ true
  unfolding withheld
  all-in_force r i = read_on i (false_of (withheld P i) unheld)
    where
      unheld : withheld P i ≡ true → ⊥
      unheld e = let (k, _, u) = any-witness P.unread (rule P i).constraints (and_right (exception P i) _ e) in never u (r k)

-- A rule that is set aside is in force.
pub aside_on : (P : Program) (on : Mask) (D : FactSet) (i : ℕ) → set_aside P on D i ≡ true → on i ≡ true
unfolding set_aside
aside_on P on D i e =
    let a4 = and_left _ (not (D (rule P i).conclusion)) e in
    let a3 = and_left _ (clear D (rule P i).constraints) a4 in
    and_right (ltb i (count P)) (on i) (and_left _ (all D (rule P i).premises) a3)

-- A rule that is neither plain nor in force has mark 4, and no other rule of the program has.
pub mark_off : (P : Program) (on : Mask) (order : List ℕ) (c : ℕ) → ((on c ≡ false) → plain P c ≡ false) → eqb (rule_mark P on (run P on order) c) 4 ≡ not (on c)
unfolding rule_mark
mark_off P on order c unplain = go (on c) refl (plain P c) refl (mem c (run P on order).applied) refl
  where
    v : Sound P on (run P on order)
    v = run_sound P on order

    go : (o : Bool) → on c ≡ o → (p : Bool) → plain P c ≡ p → (m : Bool) → mem c (run P on order).applied ≡ m → eqb (rule_mark P on (run P on order) c) 4 ≡ not o
    go true o p q m e = rw (o, q, e, rule_mark) (in-force p m (set_aside P on (run P on order).derived c))
      where
        in-force : (p m a : Bool) → eqb (cond p 0 (cond m 1 (cond a 2 3))) 4 ≡ false
        in-force true m a = refl
        in-force false true a = refl
        in-force false false true = refl
        in-force false false false = refl
    go false o true q m e = never q (unplain o)
    go false o false q true e = never (v.in-force c e) o
    go false o false q false e = rw (q, e, o, false_of (set_aside P on (run P on order).derived c) (λ t. never (aside_on P on (run P on order).derived c t) o), rule_mark) refl
