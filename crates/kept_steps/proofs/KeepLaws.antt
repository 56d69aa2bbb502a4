-- Keeping steps: nothing, a step that is kept already, a new step with the steps of its premises, and several steps one after another.
use Prim.Native.Nat.{ℕ, ◌+◌, ◌<◌, ◌≤◌}
use mathlib.Core.Path.{◌≡◌, refl, sym, ap, ◌∙◌}
use mathlib.Core.Bool.{Bool, true, false}
use mathlib.Core.List.{List, [], ◌∷◌, map}
use mathlib.Core.Logic.{⊎_elim}
use native.Mathlib.Omega.{arith}
use borrow.Author.Tests.{eqb-true}
use lib.ListN.{length, get_or, drop, set, replicate}
use lib.Dec.{eqb}
use Rattle.std.proofs.lemmas.List.{drop_more, drop_all}
use Rattle.theory.specs.Rule.{all, mem, Program, adjoin, rule, Step}
use Rattle.theory.specs.Stable.{step_at, facts_of, used_rule}
use Rattle.theory.specs.Keeping.{StepSet, Back, Kept, Traced}
use Rattle.theory.proofs.Bools.{either, never, and_left, and_right, and_both, or_left, or_right, or_cases, or-false}
use Rattle.theory.proofs.Lists.{eqb-self, all-elem, all_of}
use Rattle.items.specs.Item.{narrow, max_facts, has}
use Rattle.marking.proofs.MarksPainted.{has-set, unmarked}
use Rattle.kept_steps.specs.Keep.{steps_by, place_of, Placed, Keeps}
use Rattle.kept_steps.proofs.StepsPlaced.{step-at, step-inside, premise_placed, fact-placed}

all_map : (p : ℕ → Bool) (g : ℕ → ℕ) (xs : List ℕ) → all p (map g xs) ≡ all (λ x. p (g x)) xs
all_map p g [] = refl
all_map p g (x ∷ xs) = rw (all_map p g xs)

module _ {P : Program} {row : List Step} where
  none_asked : (K : StepSet) → Keeps P row K [] K
  none_asked K =
      record { above = λ k t. t; has_asked = refl; new_back = λ k j l h out t m. never t out; below = λ N b s a k l t. s k l t }

  pub kept-already : (K : StepSet) (k : ℕ) → K k ≡ true → Keeps P row K (k ∷ []) K
  kept-already K k e =
      record { above = λ j t. t; has_asked = and_both e refl; new_back = λ i j l h out t m. never t out; below = λ N b s a j l t. s j l t }

  -- One step, and then the others.
  one_then : {K L M : StepSet} {k : ℕ} {ks : List ℕ} → Keeps P row K (k ∷ []) L → Keeps P row L ks M → Keeps P row K (k ∷ ks) M
  one_then {K} {L} {M} {k} u v =
      record {
        above = λ j t. v.above j (u.above j t);
        has_asked = and_both (v.above k (and_left (L k) _ u.has_asked)) v.has_asked;
        new_back =
            λ i j l h out t m.
            ⊎_elim
            (λ e. v.above j (u.new_back i j l h out e m))
            (λ e. v.new_back i j l h e t m)
            (either (L i));
        below = λ N b s a. v.below N b (u.below N b s (and_both (and_left (N k) _ a) refl)) (and_right (N k) _ a);
      }

  -- A new step, and then the steps of the premises of its rule.
  step-new : {places : List ℕ} {K M : StepSet} {k : ℕ} → Traced P row → Placed row places → k < length row → Keeps P row (adjoin K k) (map (place_of places) (used_rule P row k).premises) M → Keeps P row K (k ∷ []) M
  step-new {places} {K} {M} {k} r p l u =
      record {
        above = λ j t. u.above j (or_right (eqb j k) _ t);
        has_asked = and_both (u.above k (or_left _ _ (eqb-self k))) refl;
        new_back =
            λ i j low h out t m.
            ⊎_elim
            (λ e. own_back j h (rw (eqb-true i k e) at m))
            (λ e. u.new_back i j low h (or-false (eqb i k) _ e out) t m)
            (either (eqb i k));
        below =
            λ N b s a.
            u.below N b
            (λ j h t. ⊎_elim (λ e. rw (eqb-true j k e) (and_left (N k) _ a)) (λ e. s j h e) (or_cases (eqb j k) _ t))
            (all_map N (place_of places) premises ∙ all_of (λ f. N (place_of places f)) premises (λ f m. premise_in N b (and_left (N k) _ a) f m));
      }
    where
      premises : List ℕ
      premises = (used_rule P row k).premises

      own_back : (j : ℕ) → j < length row → mem (step_at row j).fact premises ≡ true → M j ≡ true
      own_back j h m =
          ap M (sym (p.step_there j h))
          ∙ all-elem (λ f. M (place_of places f)) premises (sym (all_map M (place_of places) premises) ∙ u.has_asked) (step_at row j).fact m

      premise_in : (N : StepSet) → Back P row N → N k ≡ true → (f : ℕ) → mem f premises ≡ true → N (place_of places f) ≡ true
      premise_in N b t f m =
          let (less, same) = premise_placed r p k l f m in
          b k (place_of places f) l (omega (arith, less)) t (rw same m)

  -- The steps kept from nothing, where the step of a fact of the row is asked for, are those kept for the fact.
  pub kept_for : {f : ℕ} {places : List ℕ} {M : StepSet} (n : ℕ) → Traced P row → Placed row places → facts_of row f ≡ true → Keeps P row (has (replicate n 0)) (place_of places f ∷ []) M → Kept P row f M
  kept_for {f} {places} {M} n r p m u =
      record {
        own = λ j h e. rw (r.once j own h inside (e ∙ sym is)) (and_left (M own) _ u.has_asked);
        back = λ i j low h t q. u.new_back i j low h (empty i) t q;
        below = λ N o b. u.below N b (λ j h t. never t (empty j)) (and_both (o own inside is) refl);
      }
    where
      own : ℕ
      own = place_of places f

      inside : own < length row
      inside = (fact-placed r p f m).0

      is : (step_at row own).fact ≡ f
      is = (fact-placed r p f m).1

      empty : (k : ℕ) → has (replicate n 0) k ≡ false
      empty k = ap (λ (K : StepSet). K k) (unmarked n)

-- A new step, over the rules of the row and the marks of the steps.
pub new_kept : {P : Program} (rules : List ℕ) {places : List ℕ} (marks : List ℕ) {M : StepSet} {k : ℕ} → Traced P (steps_by P rules) → Placed (steps_by P rules) places → k < length rules → length rules ≤ length marks → Keeps P (steps_by P rules) (has (set marks k 1)) (map (place_of places) (rule P (get_or rules k 0)).premises) M → Keeps P (steps_by P rules) (has marks) (k ∷ []) M
new_kept {P} rules marks {k = k} r p l few u =
    step-new r p (step-inside P rules k l) (rw (step-at P rules k l, ← has-set marks k (omega arith)) u)

-- Keeping the steps of the facts of a list: those from place k on give what all give from the start.
pub record Asking (P : Program) (row : List Step) (places own : List ℕ) (marks₀ marks : List ℕ) (k : ℕ) : Type 0 where
  pub cells : length marks ≡ max_facts narrow
  pub to-come : (M : StepSet) → Keeps P row (has marks) (map (place_of places) (drop k own)) M → Keeps P row (has marks₀) (map (place_of places) own) M

pub none_kept : (P : Program) (row : List Step) (places own marks : List ℕ) → length marks ≡ max_facts narrow → Asking P row places own marks marks 0
none_kept P row places own marks e = record { cells = e; to-come = λ M u. u }

module _ {P : Program} {row : List Step} {places own : List ℕ} {marks₀ marks : List ℕ} {k : ℕ} (w : Asking P row places own marks₀ marks k) where
  pub one_kept : (next : List ℕ) → k < length own → length next ≡ max_facts narrow → Keeps P row (has marks) (place_of places (get_or own k 0) ∷ []) (has next) → Asking P row places own marks₀ next (k + 1)
  one_kept next l e u = record { cells = e; to-come = λ M v. w.to-come M (rw (drop_more own k 0 l) (one_then u v)) }

  pub all-kept : length own ≤ k → Keeps P row (has marks₀) (map (place_of places) own) (has marks)
  all-kept l = w.to-come (has marks) (rw (drop_all k own l) (none_asked (has marks)))
