-- `write_rule`: three draws, each written behind the one before.
use Rattle.generator.proofs.RulesPlaced.{three-written}
use Rattle.generator.proofs.rules.write_rule.Goals as goal

pub returns : goal.returns
returns c = three-written _ _ _ _ _ _ _ _ _ _ _ _ _ _
    c.step-first.ensures c.step-second.ensures c.step-third.ensures
    c.fact_of.ensures.0 c.fact_of-2.ensures.0 c.fact_of-3.ensures.0
    c.requires.1
    (rw c.byte.ensures at c.write_fact_body.ensures)
    (rw (c.byte-2.ensures, c.kinds_at-kinds.ensures.0) at c.write_fact_body-2.ensures)
    (rw (c.byte-3.ensures, c.kinds_at-kinds.ensures.1) at c.write_fact_body-3.ensures)
