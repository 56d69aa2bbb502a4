-- `put_marked`: the lines of the numbers passed are written.
use lib.ListN.{length}
use Rattle.panel_lines.specs.Text.{line}
use Rattle.questions.proofs.MarkedPut.{Passing}
use Rattle.panel_text.proofs.lines.put_marked.Given as goal

abbrev pub invariant-loop-i : goal.invariant-loop-i
invariant-loop-i l = Passing (line l.letter) l.mark l.marks (length l.marks) l.from l.initial.out l.at l.out l.i
