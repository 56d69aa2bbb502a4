-- `put_number`: a tenth of the number is smaller.
use Rattle.panel_lines.proofs.put.+put_number.Given as goal

abbrev pub decreases-put_number : goal.decreases-put_number
decreases-put_number l = l.n
