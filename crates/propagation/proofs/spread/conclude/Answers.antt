-- `conclude`: what the tables say is the conclusion of the rule.
use native.Mathlib.Omega.{arith}
use Rattle.tables.proofs.ProgramHeld.{in_table}
use Rattle.propagation.proofs.LiteralsTold.{conclusion_literal, read_concluded}
use Rattle.propagation.proofs.spread.conclude.Goals as goal

pub overflow_cast-rule : goal.overflow_cast-rule
overflow_cast-rule c = omega (arith, in_table c.args.tables.now.well_formed c.requires.rule_bound.0)

pub wait-requires : goal.wait-requires
wait-requires c = (conclusion_literal c.args.tables.now.well_formed _ c.requires.rule_bound.0 _ c.conclusion-fact.ensures, c.requires.rule_bound.1)

pub returns : goal.returns
returns c = read_concluded c.args.tables.now.well_formed _ c.requires.rule_bound.0 _ c.conclusion-fact.ensures c.wait.ensures
