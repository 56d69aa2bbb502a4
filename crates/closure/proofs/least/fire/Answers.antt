-- `fire`: each way out leaves what the law of a turn says.
use mathlib.Core.Path.{sym, ap, ◌∙◌}
use native.Mathlib.Omega.{arith}
use Rattle.tables.specs.Held.{held}
use Rattle.items.specs.declared.item.FactId.{FactId}
use Rattle.items.specs.Item.{has}
use Rattle.tables.proofs.ProgramHeld.{facts_below}
use Rattle.premises.specs.Plain.{mask_in}
use Rattle.closure.proofs.LowestReady.{found_nothing}
use Rattle.closure.proofs.RulesFired.{derivation_ends, found_known, Firing, firing}
use Rattle.closure.proofs.least.fire.Goals as goal
use Rattle.closure.proofs.least.fire.Goals.{After-from-f}

-- a rule is found, and its conclusion is read
one-turn : (c : After-from-f) → Firing (held c.args.tables.now) c.args.index.now c.args.marks.now c.args.missing.now c.lowest_ready.new.ready c.args.to c.in-Some.rule c.from-f.result
one-turn c =
    let p = c.requires in
    let w = c.args.tables.now.well_formed in
    firing w.in_bounds (facts_below w) p.plain_indexed p.room.0 p.poised.counted _ (sym c.in-Some.is ∙ c.lowest_ready.ensures.value) (rw c.in-Some.is at c.lowest_ready.ensures.left) _ (c.from-f.ensures ∙ ap (λ (g : FactId). g.0) c.conclusion-fact.ensures)

pub conclusion-fact-requires : goal.conclusion-fact-requires
conclusion-fact-requires c = found_known (held c.args.tables.now) (mask_in c.args.index.now) (has c.args.marks.now) (sym c.in-Some.is ∙ c.lowest_ready.ensures.value)

pub bounds-marks-f : goal.bounds-marks-f
bounds-marks-f c = (one-turn (goal.at.bounds-marks-f c).After-from-f).small

pub returns-then-marks-f-eq-BARRED : goal.returns-then-marks-f-eq-BARRED
returns-then-marks-f-eq-BARRED c = λ marks₀ fired₀ at w. (one-turn (goal.at.returns-then-marks-f-eq-BARRED c).After-from-f).stops c.if-marks-f-eq-BARRED.true marks₀ fired₀ at _ w

pub bounds-marks-f-2 : goal.bounds-marks-f-2
bounds-marks-f-2 c = (one-turn (goal.at.bounds-marks-f-2 c).After-from-f).small

pub bounds-fired-to : goal.bounds-fired-to
bounds-fired-to c = (one-turn (goal.at.bounds-fired-to c).After-from-f).room

pub enter-requires : goal.enter-requires
enter-requires c = omega (arith, (one-turn (goal.at.enter-requires c).After-from-f).small)

pub returns-in_default : goal.returns-in_default
returns-in_default c = λ marks₀ fired₀ at w. derivation_ends w (found_nothing _ (sym c.in_default.is ∙ c.lowest_ready.ensures.value)) c.requires.poised.counted

pub returns : goal.returns
returns c = λ marks₀ fired₀ at w. (one-turn (goal.at.returns c).After-from-f).goes c.if-marks-f-eq-BARRED.false _ _ c.enter.ensures marks₀ fired₀ at _ w
