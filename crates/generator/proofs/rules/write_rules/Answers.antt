-- `write_rules`: the rules before the place are written.
use Rattle.generator.proofs.RulesPlaced.{none_drawn, rule-drawn}
use Rattle.generator.proofs.rules.write_rules.Goals as goal

pub loop-i-init : goal.loop-i-init
loop-i-init c = none_drawn _ _ _

pub loop-i-preserved : goal.loop-i-preserved
loop-i-preserved c = rule-drawn _ _ c.loop-i.invariant _ c.loop-i-test.true c.requires.2 _ _ c.write_rule-state.ensures
