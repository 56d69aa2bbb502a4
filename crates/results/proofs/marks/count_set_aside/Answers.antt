-- `count_set_aside`: those counted and those to come are all that have the mark.
use Prim.Native.Nat.{ℕ, ◌<◌}
use mathlib.Core.Path.{◌≡◌, refl, ap, ◌∙◌, sym}
use mathlib.Core.Bool.{Bool}
use native.Mathlib.Omega.{arith}
use denote.Enum.Bare.{sameb}
use lib.Dec.{eqb}
use Rattle.tables.specs.Held.{held}
use Rattle.theory.specs.Rule.{mem, count, in_force}
use Rattle.theory.specs.Run.{Stand, rule_mark}
use Rattle.theory.proofs.ListWalks.{none_counted, one_counted, not-counted, all-counted}
use Rattle.items.specs.Item.{has}
use Rattle.tables.proofs.ProgramHeld.{in_table}
use Rattle.results.specs.declared.marks.RuleMark.{RuleMark}
use Rattle.results.specs.declared.marks.RuleMark.TheVariants.{Plain, Applied, SetAside, Other, Withheld}
use Rattle.results.specs.contracts.marks.RuleMark.{the_type}
use Rattle.results.specs.Marks.{mark_number}
use Rattle.results.proofs.marks.count_set_aside.Goals as goal
use Rattle.results.proofs.marks.count_set_aside.Goals.{After-rule_mark, In-loop-i, then-eq, else-eq}

-- the mark 2 is that of a rule that is set aside
same_aside : (m : RuleMark) → sameb the_type m SetAside ≡ eqb (mark_number m) 2
same_aside Plain = refl
same_aside Applied = refl
same_aside SetAside = refl
same_aside Other = refl
same_aside Withheld = refl

-- the rule looked at is one of the program
inside : (c : In-loop-i) → c.loop-i.i < count (held c.args.tables.now)
inside c = omega (arith, c.loop-i-test.true, c.rules-rules.ensures)

-- its mark
marked : (c : After-rule_mark) → (s : Stand) → has c.args.applied.now ≡ (λ j. mem j s.applied) → has c.args.derived.now ≡ s.derived → mark_number c.rule_mark.result ≡ rule_mark (held c.args.tables.now) (in_force (held c.args.tables.now)) s c.loop-i.i
unfolding has
marked c s a d = c.rule_mark.ensures s (ap (λ (A : ℕ → Bool). A c.loop-i.i) a) d

pub loop-i-init : goal.loop-i-init
loop-i-init c = (omega arith, λ s a d. none_counted _ _)

pub overflow_cast-i : goal.overflow_cast-i
overflow_cast-i c = omega (arith, in_table c.args.tables.now.well_formed (inside c))

pub bounds-applied-i : goal.bounds-applied-i
bounds-applied-i c = in_table c.args.tables.now.well_formed (inside (goal.at.bounds-applied-i c).In-loop-i)

pub rule_mark-requires : goal.rule_mark-requires
rule_mark-requires c = record {
  rule_known = inside (goal.at.rule_mark-requires c).In-loop-i;
  tables_in_bounds = c.requires.tables_in_bounds;
}

pub overflow_add-n : goal.overflow_add-n
overflow_add-n c = omega (arith, c.loop-i.invariant.0)

pub loop-i-preserved : goal.loop-i-preserved
unfolding has
loop-i-preserved c =
    let h = inside (goal.at.loop-i-preserved c).In-loop-i in
    let m = marked (goal.at.loop-i-preserved c).After-rule_mark in
    let named : (s : Stand) → has c.args.applied.now ≡ (λ j. mem j s.applied) → has c.args.derived.now ≡ s.derived → eqb (rule_mark (held c.args.tables.now) (in_force (held c.args.tables.now)) s c.loop-i.i) 2 ≡ c.eq.result = λ s a d. sym (ap (λ (k : ℕ). eqb k 2) (m s a d)) ∙ sym (same_aside c.rule_mark.result) ∙ sym c.eq.ensures in
    elim c.if-eq.branch [
      | then-eq w ↦ rw w.n-is (
        omega (arith, c.loop-i.invariant.0),
        λ s a d. one_counted (c.loop-i.invariant.1 s a d) h (named s a d ∙ w.if-eq.true),
      )
      | else-eq w ↦ rw w.n-is (
        omega (arith, c.loop-i.invariant.0),
        λ s a d. not-counted (c.loop-i.invariant.1 s a d) h (named s a d ∙ w.if-eq.false),
      )
    ]

pub returns : goal.returns
returns c = λ s a d. all-counted (c.loop-i.invariant.1 s a d) (omega (arith, c.loop-i-test.false, c.rules-rules.ensures))
