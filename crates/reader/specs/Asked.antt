-- Internal: what asking a file answers, in terms of its questions.
use Rattle.std.specs.Prelude.{ℕ, not, ◌&&◌, List, Result, Ok, Err}
use Rattle.std.proofs.Math.Option.{Option, none, some}
use Rattle.theory.specs.Rule.{how_many, up_to, Program, count, constraint_fact}
use Rattle.theory.specs.Conditions.{every_rule}
use Rattle.items.specs.declared.refusal.Refusal.{Refusal}
use Rattle.reader.specs.declared.answer.FileCounts.{FileCounts}
use Rattle.reader.specs.Questions.{program_of, exceptions, file_no}

-- All yes, with the counts of the file; or the first no.
abbrev pub asked_of : Option Refusal → FileCounts → Result FileCounts Refusal
asked_of none counts = Ok counts
asked_of (some r) counts = Err r

-- How many facts are read and a constraint of some rule, withheld or not. Where no fact is unread these are the constraint facts.
unfoldable pub constrained_facts : Program → ℕ
constrained_facts P = how_many (λ k. not (P.unread k) && constraint_fact P every_rule k) (up_to P.facts)

-- The counts of a program.
abbrev pub counts_of : Program → FileCounts
counts_of P = record { facts = P.facts; rules = count P; exceptions = exceptions P; constrained = constrained_facts P }

-- The questions on a whole file.
abbrev pub file_asked : List ℕ → Result FileCounts Refusal
file_asked s = asked_of (file_no s) (counts_of (program_of s))
