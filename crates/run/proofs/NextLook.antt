-- From stage to stage: the places that wake are those whose premises the new facts complete, and no rule before or among the others became eligible.
use Prim.Native.Nat.{ℕ, ◌<◌}
use mathlib.Core.Path.{◌≡◌, refl, ap, ◌∙◌}
use mathlib.Core.Bool.{Bool, true, false, not}
use mathlib.Core.List.{List, [], ◌∷◌}
use mathlib.Core.Logic.{⊎_elim}
use borrow.Author.Tests.{lt-ltb, ltb-true}
use lib.ListN.{length, get_or}
use lib.Dec.{ltb}
use Rattle.theory.specs.Rule.{all, Program, FactSet, Sub, nothing, in_force, rule}
use Rattle.theory.specs.Run.{Stand, eligible, stage, start}
use Rattle.theory.proofs.Bools.{either, never, and_left, and_right, or_cases, or-false_left, or-false_right, false_of}
use Rattle.theory.proofs.Lists.{all-mono, mem-left}
use Rattle.theory.proofs.Run.{Eligible, eligible-parts, trial-above, trial-has}
use Rattle.theory.proofs.RunStable.{refused-stays}
use Rattle.premises.specs.Premises.{in_row, ripe, roused}
use Rattle.stage.specs.Look.{premises_in, eligible_at, Awake, AwakeBut}

-- a rule whose premises are not in D is not eligible
unfounded : (P : Program) (s : Stand) (i : ℕ) → all s.derived (rule P i).premises ≡ false → eligible P (in_force P) s i ≡ false
unfounded P s i out = false_of _ (λ u. never (eligible-parts P (in_force P) s i u).premises-in out)

-- What is awake at a larger set was awake, or is woken; what is not is as before, or lacks a premise still.
module _ (P : Program) (order : List ℕ) (S T : FactSet) (grows : Sub S T) (p : ℕ → Bool) (k : ℕ) where
  awake_then : roused P (in_row order) S T p k ≡ true → ((p k ≡ true) → (k < length order) × (all S (rule P (get_or order k 0)).premises ≡ true)) → (k < length order) × (all T (rule P (get_or order k 0)).premises ≡ true)
  awake_then t before =
      ⊎_elim
      (λ e. ((before e).0, all-mono S T (rule P (get_or order k 0)).premises grows (before e).1))
      (λ e.
      let inner = and_right (ltb k (length order)) _ e in
      (ltb-true k _ (and_left (ltb k (length order)) _ e), and_right (not (all S (rule P (get_or order k 0)).premises)) _ inner))
      (or_cases (p k) _ t)

  -- asleep at T with its premises there, it had them at S
  had_then : k < length order → roused P (in_row order) S T p k ≡ false → all T (rule P (get_or order k 0)).premises ≡ true → all S (rule P (get_or order k 0)).premises ≡ true
  had_then h t e = go (all S (rule P (get_or order k 0)).premises) refl
    where
      go : (b : Bool) → all S (rule P (get_or order k 0)).premises ≡ b → b ≡ true
      go true q = refl
      go false q = never (rw (lt-ltb k (length order) h, q, e) refl) (or-false_right (p k) _ t)

-- After a stage.
pub next-awake : (P : Program) (order : List ℕ) (s : Stand) (i : ℕ) (p : ℕ → Bool) → Eligible P (in_force P) s i → AwakeBut P order s i p → Awake P order (stage P (in_force P) s i) (roused P (in_row order) s.derived (stage P (in_force P) s i).derived p)
next-awake P order s i p t w =
    record {
      roused = λ k a. awake_then P order s.derived next.derived grows p k a (w.roused k);
      asleep = λ k h a. ⊎_elim (λ e. stays k h a e) (λ e. unfounded P next (get_or order k 0) e) (either (premises_in P order next k));
    }
  where
    next : Stand
    next = stage P (in_force P) s i

    grows : Sub s.derived next.derived
    grows = trial-above P (in_force P) s.derived i

    stays : (k : ℕ) → k < length order → roused P (in_row order) s.derived next.derived p k ≡ false → premises_in P order next k ≡ true → eligible_at P order next k ≡ false
    stays k h a e =
        ⊎_elim
        (λ out. refused-stays P (in_force P) s next (get_or order k 0) grows (λ j u. mem-left j s.applied (i ∷ []) u) (had_then P order s.derived next.derived grows p k h a e) out)
        (λ same. ap (eligible P (in_force P) next) same ∙ false_of (eligible P (in_force P) next i) (λ u. never (trial-has P (in_force P) s.derived i) (eligible-parts P (in_force P) next i u).conclusion_out))
        (w.asleep k h (or-false_left (p k) _ a))

-- At the start, from the places whose rules have no premise.
pub start-awake : (P : Program) (order : List ℕ) → Awake P order (start P (in_force P)) (roused P (in_row order) nothing (start P (in_force P)).derived (ripe P (in_row order) nothing))
start-awake P order =
    record {
      roused = λ k a. awake_then P order nothing (start P (in_force P)).derived grows (ripe P (in_row order) nothing) k a (λ e. (ltb-true k _ (and_left (ltb k (length order)) _ e), and_right (ltb k (length order)) _ e));
      asleep = λ k h a. unfounded P (start P (in_force P)) (get_or order k 0) (false_of _ (λ e. never (rw (lt-ltb k (length order) h) (had_then P order nothing (start P (in_force P)).derived grows (ripe P (in_row order) nothing) k h a e)) (or-false_left (ripe P (in_row order) nothing k) _ a)));
    }
  where
    grows : Sub nothing (start P (in_force P)).derived
    grows f t = never t refl
