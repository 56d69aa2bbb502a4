-- `compare`: the guess has exactly the facts before the one at hand that are marked.
use Rattle.guessing.proofs.PlacesAgree.{Agreed}
use Rattle.guessing.proofs.compared.compare.Given as goal

abbrev pub invariant-loop-i : goal.invariant-loop-i
invariant-loop-i l = Agreed l.row l.guess l.marks l.i
