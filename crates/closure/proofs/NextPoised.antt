-- Before the next rule is chosen: after a fact entered, and at the start.
use Prim.Native.Nat.{ℕ, ◌<◌}
use mathlib.Core.Path.{◌≡◌, refl, ap}
use mathlib.Core.Bool.{Bool, true, false, not}
use mathlib.Core.List.{List}
use mathlib.Core.Logic.{⊎_elim}
use Rattle.theory.specs.Rule.{all, Program, FactSet, Closed, nothing, adjoin, rule, plain}
use Rattle.theory.specs.Conditions.{Bounded}
use Rattle.theory.proofs.Bools.{never, and_left, and_right, and_both, or_left, or_right, or_cases}
use Rattle.theory.proofs.Lists.{all-mono}
use Rattle.theory.proofs.Derive.{adjoin-above}
use Rattle.items.specs.Item.{narrow, max_facts}
use Rattle.bits.specs.Flags.{Flags}
use Rattle.premises.specs.Premises.{plain_ones, ripe, roused, Counted}
use Rattle.premises.specs.Plain.{mask_in, PlainIndexed}
use Rattle.premises.proofs.FactsEntered.{Enters, fact-entered}
use Rattle.closure.specs.Deriving.{Waits, Poised}
use Rattle.premises.proofs.PlainRows.{plain_known}

-- A fact enters that the set lacks; the rules that wait, but for those that conclude it, wait on.
pub fact-poised : {P : Program} → Bounded P → {index : List ℕ} → PlainIndexed P index → {S : FactSet} {f : ℕ} → f < max_facts narrow → S f ≡ false → {missing ready missing' ready' : List ℕ} → Counted P (plain_ones P) S missing → Waits P (mask_in index) S (adjoin S f) ready → Enters f index missing ready missing' ready' → Poised P (mask_in index) (adjoin S f) missing' ready'
fact-poised {P} b {index} ix {S} {f} small out {missing} {ready} {missing'} {ready'} c w enters =
    record {
      counted = entered.0;
      waiting =
          record {
            p = roused P (plain_ones P) S (adjoin S f) w.p;
            flags = entered.1;
            sound = λ i t. ⊎_elim (λ u. ((w.sound i u).0, all-mono S (adjoin S f) (rule P i).premises (adjoin-above S f) (w.sound i u).1)) (λ u. (and_left (plain P i) _ u, and_right (not (all S (rule P i).premises)) _ (and_right (plain P i) _ u))) (or_cases (w.p i) _ t);
            waits = λ i o a n. go i o a n (all S (rule P i).premises) refl;
          };
    }
  where
    entered : Counted P (plain_ones P) (adjoin S f) missing' × Flags (roused P (plain_ones P) S (adjoin S f) w.p) ready'
    entered = fact-entered b small enters ix.rows c w.flags out

    go : (i : ℕ) → mask_in index i ≡ true → all (adjoin S f) (rule P i).premises ≡ true → adjoin S f (rule P i).conclusion ≡ false → (s : Bool) → all S (rule P i).premises ≡ s → roused P (plain_ones P) S (adjoin S f) w.p i ≡ true
    go i o a n true q = or_left (w.p i) _ (w.waits i o q n)
    go i o a n false q = or_right (w.p i) _ (and_both (ix.only_plain i o) (and_both (ap not q) a))

-- The rules whose premises are all in the set wait.
pub ripe-poised : {P : Program} {index : List ℕ} → PlainIndexed P index → {S : FactSet} {missing ready : List ℕ} → Counted P (plain_ones P) S missing → Flags (ripe P (plain_ones P) S) ready → Poised P (mask_in index) S missing ready
ripe-poised {P} ix {S} c f =
    record {
      counted = c;
      waiting =
          record {
            p = ripe P (plain_ones P) S;
            flags = f;
            sound = λ i t. (and_left (plain P i) _ t, and_right (plain P i) _ t);
            waits = λ i o a n. and_both (ix.only_plain i o) a;
          };
    }

-- Where the set is closed no rule need wait.
pub none_wait : {P : Program} {index : List ℕ} → PlainIndexed P index → (S T : FactSet) → Closed P (mask_in index) S → ((g : ℕ) → S g ≡ true → T g ≡ true) → (ready : List ℕ) → Flags nothing ready → Waits P (mask_in index) S T ready
none_wait {P} ix S T closed grows ready f =
    record {
      p = nothing;
      flags = f;
      sound = λ i t. never t refl;
      waits = λ i o a n. never (grows (rule P i).conclusion (closed i (plain_known P i (ix.only_plain i o)) o a)) n;
    }
