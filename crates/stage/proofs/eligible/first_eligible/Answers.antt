-- Both loops: the stand at entry is held at each turn, with the places still awake, and what is to come of a rule's constraints decides.
use Prim.Native.Nat.{ℕ, ◌<◌}
use mathlib.Core.Path.{◌≡◌, sym, ap, ◌∙◌}
use mathlib.Core.Bool.{Bool, true, false, not}
use native.Mathlib.Omega.{arith}
use borrow.Author.Tests.{eq-eqb, ne_eqb}
use lib.ListN.{get_or}
use Rattle.tables.specs.Held.{held}
use Rattle.theory.specs.Rule.{clear, in_force, count, rule}
use Rattle.theory.specs.Run.{Stand}
use Rattle.theory.proofs.Withheld.{read_on}
use Rattle.items.specs.declared.item.FactId.{FactId}
use Rattle.items.specs.Item.{narrow, max_facts, max_rules, has}
use Rattle.tables.proofs.ProgramHeld.{facts_below, conclusion_below}
use Rattle.tables.proofs.PartsHeld.{all-tested_back, test-fails_back, test-passes_back, element-below_back, clear-reversed}
use Rattle.bits.specs.Flags.{total}
use Rattle.stage.specs.Look.{Looking}
use Rattle.stage.proofs.FirstFound.{Turn, turn, none_found, held-room, resting, mark_in, mark_out, mark_barred, passed_over, concluded, rejected-already, constraint_met}
use Rattle.stage.proofs.eligible.first_eligible.Goals as goal
use Rattle.stage.proofs.eligible.first_eligible.Goals.{After-from-f, Else-withheld, In-Some, Then-met}

-- once a place is taken
fell : (c : In-Some) → (c.in-Some.place < max_rules) × (total c.take.new.row < total c.rules.awake)
fell c = let f = c.take.ensures.falls in (f.inside _ c.in-Some.is, f.less _ c.in-Some.is)

on-turn : (c : In-Some) (s : Stand) (p : ℕ → Bool) → Looking (held c.args.tables.now) c.args.row.now c.args.marks.now c.args.missing.now c.args.fired.now c.args.count c.args.awake.now s p → Turn (held c.args.tables.now) c.args.row.now c.rules.marks c.rules.missing c.rules.fired c.args.count c.take.new.row s c.in-Some.place
on-turn c s p w =
    let v = c.rules.invariant s p w in
    turn v.1 (facts_below c.args.tables.now.well_formed) (c.take.ensures.by_index v.0 v.1.flags) c.in-Some.is

-- at the stand that is held
here : (c : In-Some) → Turn (held c.args.tables.now) c.args.row.now c.rules.marks c.rules.missing c.rules.fired c.args.count c.take.new.row c.requires.stands.at c.in-Some.place
here c = on-turn c _ _ c.requires.stands.looking

-- once its rule is known not to be withheld
read : (c : Else-withheld) → in_force (held c.args.tables.now) (get_or c.args.row.now c.in-Some.place 0) ≡ true
read c = read_on _ _ (sym c.is_withheld-withheld.ensures ∙ c.if-withheld.false)

-- once its rule's conclusion is read
fact_is : (c : After-from-f) → c.from-f.result ≡ (rule (held c.args.tables.now) (get_or c.args.row.now c.in-Some.place 0)).conclusion
fact_is c = c.from-f.ensures ∙ ap (λ (f : FactId). f.0) c.conclusion-fact.ensures

few_facts : (c : After-from-f) → get_or c.args.row.now c.in-Some.place 0 < count (held c.args.tables.now) → c.from-f.result < max_facts narrow
few_facts c known = omega (arith, fact_is c, conclusion_below c.args.tables.now.well_formed known, facts_below c.args.tables.now.well_formed)

-- once a constraint was met
met : (c : Then-met) → clear (has c.rules.marks) (rule (held c.args.tables.now) (get_or c.args.row.now c.in-Some.place 0)).constraints ≡ false
unfolding has
met c =
    sym (clear-reversed _ c.constraints-own.ensures.elements (has c.rules.marks))
    ∙ sym (test-fails_back _ c.loop-at.invariant c.loop-at-test.true c.in_file_order-constraint.ensures (rw (← c.wide.ensures) (ap not (eq-eqb _ _ c.if-met.true))))

pub bounds-row-place : goal.bounds-row-place
bounds-row-place c = (here (goal.at.bounds-row-place c).In-Some).inside

pub is_withheld-withheld-requires : goal.is_withheld-withheld-requires
is_withheld-withheld-requires c = (here (goal.at.is_withheld-withheld-requires c).In-Some).known

pub rules-preserved-then-withheld : goal.rules-preserved-then-withheld
rules-preserved-then-withheld c = λ s p w. let t = on-turn (goal.at.rules-preserved-then-withheld c).In-Some s p w in t.refused (passed_over _ s _ (sym c.is_withheld-withheld.ensures ∙ c.if-withheld.true)) _ _ _ t.holds t.rests

pub conclusion-fact-requires : goal.conclusion-fact-requires
conclusion-fact-requires c = (here (goal.at.conclusion-fact-requires c).In-Some).known

pub bounds-marks-f : goal.bounds-marks-f
bounds-marks-f c = few_facts (goal.at.bounds-marks-f c).After-from-f (here (goal.at.bounds-marks-f c).In-Some).known

pub rules-preserved-then-marks-f-eq-IN : goal.rules-preserved-then-marks-f-eq-IN
rules-preserved-then-marks-f-eq-IN c = λ s p w. let t = on-turn (goal.at.rules-preserved-then-marks-f-eq-IN c).In-Some s p w in t.refused (concluded t.holds _ (mark_in _ (fact_is (goal.at.rules-preserved-then-marks-f-eq-IN c).After-from-f) c.if-marks-f-eq-IN.true)) _ _ _ t.holds t.rests

pub bounds-marks-f-in-rules : goal.bounds-marks-f-in-rules
bounds-marks-f-in-rules c = few_facts (goal.at.bounds-marks-f-in-rules c).After-from-f (here (goal.at.bounds-marks-f-in-rules c).In-Some).known

pub rules-preserved-then-marks-f-eq-BARRED : goal.rules-preserved-then-marks-f-eq-BARRED
rules-preserved-then-marks-f-eq-BARRED c = λ s p w. let t = on-turn (goal.at.rules-preserved-then-marks-f-eq-BARRED c).In-Some s p w in t.refused (rejected-already t.holds _ (mark_barred _ (fact_is (goal.at.rules-preserved-then-marks-f-eq-BARRED c).After-from-f) c.if-marks-f-eq-BARRED.true)) _ _ _ t.holds t.rests

pub constraints-own-requires : goal.constraints-own-requires
constraints-own-requires c = (here (goal.at.constraints-own-requires c).In-Some).known

-- the constraint read is a fact of the program
pub bounds-marks-wide : goal.bounds-marks-wide
bounds-marks-wide c = omega (arith, c.wide.ensures, c.in_file_order-constraint.ensures, element-below_back _ _ _ c.constraints-own.ensures.facts_below c.loop-at-test.true, facts_below c.args.tables.now.well_formed)

pub rules-preserved-then-met : goal.rules-preserved-then-met
rules-preserved-then-met c = λ s p w. let t = on-turn (goal.at.rules-preserved-then-met c).In-Some s p w in t.refused (constraint_met t.holds _ (met c)) _ _ _ t.holds t.rests

pub loop-at-preserved : goal.loop-at-preserved
unfolding has
loop-at-preserved c = test-passes_back _ c.loop-at.invariant c.loop-at-test.true c.in_file_order-constraint.ensures (rw (← c.wide.ensures) (ap not (ne_eqb _ _ c.if-met.false)))

pub trial-requires : goal.trial-requires
trial-requires c = let p = c.requires in
    let t = here (goal.at.trial-requires c).In-Some in
    record {
      rule_known = t.known;
      plain_indexed = p.plain_indexed;
      room = (held-room (facts_below c.args.tables.now.well_formed) t.holds, t.holds.fired_places);
      rule_value = (
        mark_out _ (fact_is (goal.at.trial-requires c).After-from-f) c.if-marks-f-eq-IN.false,
        sym (clear-reversed _ c.constraints-own.ensures.elements (has c.rules.marks)) ∙ sym (all-tested_back _ c.loop-at.invariant c.loop-at-test.false),
      );
      at_rest = resting p.plain_indexed.1 t.holds t.rests;
    }

pub rules-preserved : goal.rules-preserved
rules-preserved c = λ s p w.
    let t = on-turn (goal.at.rules-preserved c).In-Some s p w in
    let f = rw c.in_default-trial.is at (c.trial.ensures s t.holds t.premises-in t.excepted (read (goal.at.rules-preserved c).Else-withheld)) in
    t.refused f.not_eligible _ _ _ f.holds f.rests

pub returns-in_default : goal.returns-in_default
returns-in_default c = λ s p w. let v = c.rules.invariant s p w in none_found v.1 _ (c.take.ensures.by_index v.0 v.1.flags) c.in_default.is

pub returns-in-Some-trial : goal.returns-in-Some-trial
returns-in-Some-trial c = λ s p w.
    let t = on-turn (goal.at.returns-in-Some-trial c).In-Some s p w in
    t.passes _ _ _ _ (rw c.in-Some-trial.is at (c.trial.ensures s t.holds t.premises-in t.excepted (read (goal.at.returns-in-Some-trial c).Else-withheld)))
