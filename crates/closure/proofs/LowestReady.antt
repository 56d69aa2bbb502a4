-- Of the rules that wait, the lowest-numbered one that is ready.
use Prim.Native.Nat.{ℕ, ◌<◌}
use mathlib.Core.Path.{◌≡◌, refl, sym, ap, ◌∙◌}
use mathlib.Core.Bool.{true, false, not, ◌&&◌}
use mathlib.Core.List.{List}
use mathlib.Core.Option.{Option as Maybe, none, some}
use Rattle.std.specs.Prelude.{Option, Some, None}
use borrow.Author.Tests.{eqb-true}
use lib.Dec.{eqb}
use Rattle.theory.specs.Rule.{all, Program, Mask, FactSet, Sub, count, rule}
use Rattle.theory.specs.Derive.{ready, lowest, conclude}
use Rattle.theory.proofs.Bools.{never, and_left, and_right, and_both, not_of_false, false_of_not, false_of}
use Rattle.theory.proofs.Lists.{seek-number, no_number_lem}
use Rattle.theory.proofs.Derive.{adjoin-above, adjoin-has}
use Rattle.items.specs.declared.item.RuleId.{RuleId}
use Rattle.items.specs.Item.{rule_id}
use Rattle.bits.specs.Flags.{without, Taken}
use Rattle.bits.proofs.RowTaken.{lowest-is, none_lower, nothing_left}
use Rattle.premises.proofs.PlainRows.{plain_known}
use Rattle.closure.specs.Steps.{found_of}
use Rattle.closure.specs.Deriving.{Waits}

-- What a search for a rule says.
pub found_at : (o : Maybe ℕ) (r : RuleId) → Some r ≡ found_of o → o ≡ some r.0
found_at none r e = cc
found_at (some i) r e = let same : r ≡ rule_id i = cc in ap (λ (q : RuleId). some q.0) (sym same)

pub found_nothing : (o : Maybe ℕ) → None ≡ found_of o → ◌≡◌ {A = Maybe ℕ} o none
found_nothing none e = refl
found_nothing (some i) e = cc

module _ {P : Program} {on : Mask} {S : FactSet} {row : List ℕ} (w : Waits P on S S row) where
  -- each rule that is ready waits
  ready-waits : (i : ℕ) → ready P on S i ≡ true → w.p i ≡ true
  ready-waits i t =
      let both : all S (rule P i).premises && not (S (rule P i).conclusion) ≡ true = and_right (on i) _ t in
      w.waits i (and_left (on i) _ t) (and_left (all S (rule P i).premises) _ both) (false_of_not (S (rule P i).conclusion) (and_right (all S (rule P i).premises) _ both))

  pub none_ready : {r : Option ℕ} {row' : List ℕ} → Taken w.p r row' → r ≡ None → None ≡ found_of (lowest P on S)
  none_ready t e = sym (ap found_of (no_number_lem (ready P on S) (count P) (λ j h. false_of (ready P on S j) (λ u. never (ready-waits j u) (nothing_left w.flags (t.none_left e) j)))))

  -- Rule i was taken, the lowest that waits.
  module _ {r : Option ℕ} {row' : List ℕ} (t : Taken w.p r row') (i : ℕ) (e : r ≡ Some i) where
    there : w.p i ≡ true
    there = (lowest-is w.p i (t.lowest i e)).passes

    pub rule_known : i < count P
    rule_known = plain_known P i (w.sound i there).0

    -- the others wait still, if the rule is not on or its conclusion is in the set
    others_wait : (T : FactSet) → Sub S T → (on i ≡ true → T (rule P i).conclusion ≡ true) → Waits P on S T row'
    others_wait T grows done =
        record {
          p = without w.p i;
          flags = t.rest i e;
          sound = λ j u. w.sound j (and_right (not (eqb j i)) (w.p j) u);
          waits = λ j o a out. and_both (not_of_false {a = eqb j i} (false_of (eqb j i) (λ q. other j o out (eqb-true j i q)))) (w.waits j o a (false_of (S (rule P j).conclusion) (λ u. never (grows (rule P j).conclusion u) out)));
        }
      where
        other : (j : ℕ) → on j ≡ true → T (rule P j).conclusion ≡ false → j ≡ i → ⊥
        other j o out q = never (done (ap on (sym q) ∙ o)) (ap (λ (k : ℕ). T (rule P k).conclusion) (sym q) ∙ out)

    pub off_passed : on i ≡ false → Waits P on S S row'
    off_passed f = others_wait S (λ g u. u) (λ o. never o f)

    pub concluded-passed : S (rule P i).conclusion ≡ true → Waits P on S S row'
    concluded-passed c = others_wait S (λ g u. u) (λ o. c)

    module _ (o : on i ≡ true) (out : S (rule P i).conclusion ≡ false) where
      pub one_found : Some (rule_id i) ≡ found_of (lowest P on S)
      one_found =
          sym (ap found_of (seek-number (ready P on S) (count P) i rule_known
          (λ j h. false_of (ready P on S j) (λ u. never (ready-waits j u) (none_lower w.p i (t.lowest i e) j h)))
          (and_both o (and_both (w.sound i there).1 (not_of_false out)))))

      pub one_left : Waits P on S (conclude P S i) row'
      one_left = others_wait (conclude P S i) (adjoin-above S (rule P i).conclusion) (λ u. adjoin-has S (rule P i).conclusion)
