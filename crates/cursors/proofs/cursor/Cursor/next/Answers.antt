-- `Cursor::next`: the read of its row.
use Rattle.cursors.proofs.ReadNumbers.{read_numbered}
use Rattle.cursors.proofs.cursor.Cursor.next.Goals as goal

pub returns-in-Opening-clause-read_numbers : goal.returns-in-Opening-clause-read_numbers
returns-in-Opening-clause-read_numbers c = read_numbered _ _ _ c.next_opening.ensures

pub returns-in-Body-clause-read_numbers : goal.returns-in-Body-clause-read_numbers
returns-in-Body-clause-read_numbers c = read_numbered _ _ _ c.next_in_body.ensures

pub returns-in-Order-clause-read_numbers : goal.returns-in-Order-clause-read_numbers
returns-in-Order-clause-read_numbers c = read_numbered _ _ _ c.next_name.ensures

pub returns-in-Steps-clause-read_numbers : goal.returns-in-Steps-clause-read_numbers
returns-in-Steps-clause-read_numbers c = read_numbered _ _ _ c.next_step.ensures
