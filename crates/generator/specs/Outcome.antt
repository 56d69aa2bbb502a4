-- What making a test load answers and leaves in the buffer lent to it (document 02, wish 5).
use Rattle.std.specs.Prelude.{◌≡◌, ℕ, ◌+◌, ◌*◌, ◌&&◌, List, [], ◌∷◌, length, take, nat_le, Result, Ok, Err}
use Rattle.std.proofs.Math.Option.{Option, none, some}
use Rattle.items.specs.declared.refusal.Refusal.{Refusal}
use Rattle.items.specs.declared.refusal.Refusal.TheVariants.{FactsOutOfRange, RulesOutOfRange, LoadShort}
use Rattle.items.specs.Question.{Question, ask, first_no, no_number}
use Rattle.items.specs.Answer.{answer_number, count_in}
use Rattle.items.specs.Item.{max_rules}
use Rattle.items.specs.Write.{over}
use Rattle.reader.specs.Questions.{program_of, file_no}
use Rattle.generator.specs.Load.{load_bytes, load_program}

-- The most facts of a load, and the bytes of one with m rules: "5 + 6 × m bytes".
abbrev pub most_facts : ℕ
most_facts = 255

abbrev pub load_length : ℕ → ℕ
load_length m = 5 + 6 * m

-- "It refuses n outside 1 to 255 with 53, then m above 512 with 54, then a buffer below 5 + 6 × m bytes with 55."
unfoldable pub load_questions : ℕ → ℕ → ℕ → List Question
load_questions n m room =
    ask FactsOutOfRange (nat_le 1 n && nat_le n most_facts)
    ∷ ask RulesOutOfRange (nat_le m max_rules)
    ∷ ask LoadShort (nat_le (load_length m) room)
    ∷ []

abbrev pub load_no : ℕ → ℕ → ℕ → Option Refusal
load_no n m room = first_no (load_questions n m room)

-- The answer, and the buffer.
pub record LoadOutcome : Type 0 where
  pub answer : Result ℕ Refusal
  pub out : List ℕ

-- The file is written over the front of the buffer, and its length is answered.
unfoldable pub load_written : List ℕ → List ℕ → LoadOutcome
load_written bytes out = record { answer = Ok (length bytes); out = over bytes out }

-- A refusal alters no byte.
abbrev pub refused_with : Refusal → List ℕ → LoadOutcome
refused_with r out = record { answer = Err r; out = out }

-- What the operation answers and leaves.
unfoldable pub load_outcome : ℕ → ℕ → ℕ → List ℕ → LoadOutcome
load_outcome start n m out =
    elim (load_no n m (length out)) [
      | none ↦ load_written (load_bytes start n m) out
      | some r ↦ refused_with r out
    ]

-- The answer's number, 0 where there is a result, and its count, 0 on a refusal.
abbrev pub load_number : Result ℕ Refusal → ℕ
load_number r = answer_number r

abbrev pub load_count : Result ℕ Refusal → ℕ
load_count r = count_in r

-- The file that is handed out: as many bytes as are counted.
abbrev pub file_in : LoadOutcome → List ℕ
file_in o = take (load_count o.answer) o.out

-- What an answer means: its number is that of the first no; and the file that a result hands out is accepted, and is the program that was drawn.
pub record LoadMeans (start n m : ℕ) (no : Option Refusal) (o : LoadOutcome) : Type 0 where
  pub numbered : load_number o.answer ≡ no_number no
  pub accepted : load_number o.answer ≡ 0 → file_no (file_in o) ≡ none
  pub program : load_number o.answer ≡ 0 → program_of (file_in o) ≡ load_program start n m
