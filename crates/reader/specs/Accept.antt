-- What `accept` answers.
use Rattle.std.specs.Prelude.{ℕ, ◌≡◌, List, Result, Ok, Err}
use Rattle.std.proofs.Math.Option.{Option, none, some}
use Rattle.theory.specs.Rule.{count}
use Rattle.items.specs.declared.refusal.Refusal.{Refusal}
use Rattle.reader.specs.declared.answer.AcceptedFile.{AcceptedFile}
use Rattle.items.specs.Question.{no_number}
use Rattle.items.specs.Answer.{answer_number}
use Rattle.reader.specs.Questions.{exceptions, constraint_facts, program_of, file_no}

-- What `accept` answers for a file.
unfoldable pub accept_of : List ℕ → Result AcceptedFile Refusal
accept_of s =
    elim (file_no s) [
      | none ↦ Ok (record { facts = (program_of s).facts; rules = count (program_of s); exceptions = exceptions (program_of s); constraints = constraint_facts (program_of s) })
      | some r ↦ Err r
    ]

-- The answer's number, 0 where the file is accepted, and its counts, all 0 on a refusal.
abbrev pub accept_number : Result AcceptedFile Refusal → ℕ
accept_number r = answer_number r

abbrev pub facts : Result AcceptedFile Refusal → ℕ
facts (Ok c) = c.facts
facts (Err r) = 0

abbrev pub rules : Result AcceptedFile Refusal → ℕ
rules (Ok c) = c.rules
rules (Err r) = 0

abbrev pub exception_rules : Result AcceptedFile Refusal → ℕ
exception_rules (Ok c) = c.exceptions
exception_rules (Err r) = 0

abbrev pub constraints : Result AcceptedFile Refusal → ℕ
constraints (Ok c) = c.constraints
constraints (Err r) = 0

-- The answer in numbers: the number of the file's first no, and the counts of an accepted file.
pub record AcceptNumbers (file : List ℕ) (r : Result AcceptedFile Refusal) : Type 0 where
  pub numbered : accept_number r ≡ no_number (file_no file)
  pub facts_counted : ◌≡◌ {A = Option Refusal} (file_no file) none → facts r ≡ (program_of file).facts
  pub rules_counted : ◌≡◌ {A = Option Refusal} (file_no file) none → rules r ≡ count (program_of file)
  pub exceptions_counted : ◌≡◌ {A = Option Refusal} (file_no file) none → exception_rules r ≡ exceptions (program_of file)
  pub constraints_counted : ◌≡◌ {A = Option Refusal} (file_no file) none → constraints r ≡ constraint_facts (program_of file)
