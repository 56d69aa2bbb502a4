-- `trial`: each way out leaves what the law of a trial says.
use mathlib.Core.Path.{ap, ◌∙◌}
use native.Mathlib.Omega.{arith}
use lib.ListN.{length-set}
use Rattle.tables.specs.Held.{held}
use Rattle.items.specs.declared.item.FactId.{FactId}
use Rattle.tables.proofs.ProgramHeld.{facts_below}
use Rattle.stage.proofs.TrialMade.{Trying, trying}
use Rattle.stage.proofs.trial.trial.Goals as goal
use Rattle.stage.proofs.trial.trial.Goals.{After-from-f}

-- the rule is tried once its conclusion is read
one-trial : (c : After-from-f) → Trying (held c.args.tables.now) c.args.rule.0 c.args.index.now c.args.marks.now c.args.missing.now c.args.count c.mark_own.new.marks c.from-f.result
one-trial c =
    let p = c.requires in
    let w = c.args.tables.now.well_formed in
    trying _ w.in_bounds (facts_below w) _ p.rule_known _ p.plain_indexed.0 p.plain_indexed.1 _ _ p.room.0 p.rule_value.0 p.rule_value.1 _ p.at_rest _ c.mark_own.ensures _ (c.from-f.ensures ∙ ap (λ (g : FactId). g.0) c.conclusion-fact.ensures)

pub bounds-set-f : goal.bounds-set-f
bounds-set-f c = (one-trial (goal.at.bounds-set-f c).After-from-f).small

pub returns-then-set-f-eq-BARRED : goal.returns-then-set-f-eq-BARRED
returns-then-set-f-eq-BARRED c = λ s w _ _ _. (one-trial (goal.at.returns-then-set-f-eq-BARRED c).After-from-f).refused c.if-set-f-eq-BARRED.true _ s w

pub bounds-set-f-2 : goal.bounds-set-f-2
bounds-set-f-2 c = (one-trial (goal.at.bounds-set-f-2 c).After-from-f).small

pub bounds-fired-count : goal.bounds-fired-count
bounds-fired-count c = (one-trial (goal.at.bounds-fired-count c).After-from-f).cell

pub enter-requires : goal.enter-requires
enter-requires c = omega (arith, (one-trial (goal.at.enter-requires c).After-from-f).small)

pub derive-requires : goal.derive-requires
derive-requires c = let p = c.requires in
    record {
      plain_indexed = p.plain_indexed.0;
      room = ((one-trial (goal.at.derive-requires c).After-from-f).room, length-set c.args.fired.now c.args.count c.args.rule.0 ∙ p.room.1);
      poised = (one-trial (goal.at.derive-requires c).After-from-f).poised _ _ c.enter.ensures;
    }

pub returns : goal.returns
returns c = λ s w prem x o. (one-trial (goal.at.returns c).After-from-f).passes c.if-set-f-eq-BARRED.false _ _ _ _ _ c.derive.ensures _ c.in_ok-steps.was s w prem x o

pub returns-in_err-steps : goal.returns-in_err-steps
returns-in_err-steps c = λ s w _ _ _. rw c.from_residual.ensures ((one-trial (goal.at.returns-in_err-steps c).After-from-f).fails c.if-set-f-eq-BARRED.false _ _ _ _ _ c.derive.ensures c.in_err-steps.was s w)
