-- `ask_names`: what is to come gives what the whole gives.
use Prim.Native.Nat.{◌-◌}
use mathlib.Core.Path.{◌≡◌}
use lib.ListN.{length}
use Rattle.tables.specs.Held.{held}
use Rattle.theory.specs.Rule.{exception}
use Rattle.items.specs.Item.{max_rules}
use Rattle.cursors.specs.declared.cursor.Row.TheVariants.{Order}
use Rattle.questions.specs.Questions.{named_in}
use Rattle.questions.proofs.NamesAsked.{Naming}
use Rattle.naming.proofs.names.ask_names.Given as goal

abbrev pub invariant-loop-item : goal.invariant-loop-item
invariant-loop-item l = (length l.named ≡ max_rules) × (l.cursor.row ≡ Order) × Naming (exception (held l.tables)) l.initial.named (named_in l.bytes) l.named l.bytes l.cursor

abbrev pub decreases-loop-item : goal.decreases-loop-item
decreases-loop-item l = length l.bytes - l.cursor.at
