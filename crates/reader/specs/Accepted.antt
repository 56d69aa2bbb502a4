-- Internal: an accepted file with the counts that were read of it.
use Rattle.std.specs.Prelude.{ℕ, ◌≡◌, List}
use Rattle.std.proofs.Math.Option.{none}
use Rattle.theory.specs.Rule.{count}
use Rattle.reader.specs.declared.answer.FileCounts.{FileCounts}
use Rattle.reader.specs.Questions.{program_of, exceptions, file_no}
use Rattle.reader.specs.Asked.{constrained_facts}

pub record Accepted (file : List ℕ) (counts : FileCounts) : Type 0 where
  pub accepted : file_no file ≡ none
  pub facts : counts.facts ≡ (program_of file).facts
  pub rules : counts.rules ≡ count (program_of file)
  pub exceptions : counts.exceptions ≡ exceptions (program_of file)
  pub constrained : counts.constrained ≡ constrained_facts (program_of file)
