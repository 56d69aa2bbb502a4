-- `list_down`: the facts from f on are listed.
use Rattle.earliest.proofs.FactsListed.{Down}
use Rattle.earliest.proofs.guessed.list_down.Given as goal

abbrev pub invariant-loop-f : goal.invariant-loop-f
invariant-loop-f l = Down l.marks l.facts l.row l.n l.f
