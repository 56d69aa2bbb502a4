-- `write_rules`: the rules before the place are written.
use Rattle.generator.proofs.RulesPlaced.{Drawn}
use Rattle.generator.proofs.rules.write_rules.Given as goal

abbrev pub invariant-loop-i : goal.invariant-loop-i
invariant-loop-i l = Drawn l.start l.by.facts l.initial.out l.state l.i l.out
