-- `list_out`: the facts before the one at hand are passed or listed.
use Rattle.guessing.proofs.OutsListed.{Listing}
use Rattle.guessing.proofs.propagate.list_out.Given as goal

abbrev pub invariant-loop-i : goal.invariant-loop-i
invariant-loop-i l = Listing l.row l.guess l.outs l.n l.i
