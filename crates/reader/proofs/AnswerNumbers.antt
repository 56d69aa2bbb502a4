-- The answer of `accept` in numbers.
use Prim.Native.Nat.{ℕ}
use mathlib.Core.Path.{◌≡◌, refl}
use mathlib.Core.List.{List}
use mathlib.Core.Option.{Option, none, some}
use Rattle.theory.specs.Rule.{count}
use Rattle.items.specs.declared.refusal.Refusal.{Refusal}
use Rattle.std.specs.Prelude.{Result, Ok, Err}
use Rattle.reader.specs.declared.answer.AcceptedFile.{AcceptedFile}
use Rattle.items.specs.Question.{no_number}
use Rattle.reader.specs.Questions.{program_of, exceptions, constraint_facts, file_no}
use Rattle.reader.specs.Accept.{accept_of, AcceptNumbers, accept_number}

module _ (file : List ℕ) where
  accept_numbers : AcceptNumbers file (accept_of file)
  unfolding accept_of
  accept_numbers =
      record {
        numbered = numbered (file_no file);
        facts_counted = λ h. rw (h, accept_of);
        rules_counted = λ h. rw (h, accept_of);
        exceptions_counted = λ h. rw (h, accept_of);
        constraints_counted = λ h. rw (h, accept_of);
      }
    where
      numbered : (o : Option Refusal) → accept_number (elim o [ none ↦ Ok (record { facts = (program_of file).facts; rules = count (program_of file); exceptions = exceptions (program_of file); constraints = constraint_facts (program_of file) }) | some r ↦ Err r ]) ≡ no_number o
      numbered none = refl
      numbered (some r) = refl

  -- an answer that is the one defined, in numbers
  pub accept_answered : (r : Result AcceptedFile Refusal) → r ≡ accept_of file → (r ≡ accept_of file) × AcceptNumbers file r
  accept_answered r e = (e, rw e accept_numbers)
