-- `end_file`: questions 9 and 10, then the counts.
use native.Mathlib.Omega.{arith}
use Rattle.cursors.proofs.Items.{found}
use Rattle.reader.proofs.BodyAsked.{wrong_count, bytes_left}
use Rattle.reader.proofs.BodyRead.{refuses, ends, body-scanned}
use Rattle.reader.proofs.step.end_file.Goals as goal

pub returns-then-n-before : goal.returns-then-n-before
returns-then-n-before c = λ s marks len c₀ here short small w e. refuses w (wrong_count w.verdict (found _ _ _ _ e) c.if-n-before.true)

pub returns-then-next-end : goal.returns-then-next-end
returns-then-next-end c = λ s marks len c₀ here short small w e. refuses w (bytes_left w.verdict (found _ _ _ _ e) c.if-n-before.false (omega (arith, len, c.if-next-end.true)))

pub returns : goal.returns
returns c = λ s marks len c₀ here short small w e. ends (body-scanned w small (found _ _ _ _ e) c.if-n-before.false (omega (arith, len, c.if-next-end.false)) _ c.store_counts.ensures)
