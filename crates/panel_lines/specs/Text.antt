-- The panel's text (document 01, "Examples").
use Rattle.std.specs.Prelude.{ℕ, zero, suc, ◌+◌, ◌*◌, ◌/◌, ◌%◌, Bool, cond, List, [], ◌∷◌, ◌++◌, length, ltb, leb, eqb}
use Rattle.std.proofs.Math.Option.{none, some}
use Rattle.theory.specs.Rule.{keep, up_to, Program, in_force, null, count, exception, Step}
use Rattle.theory.specs.Run.{Stand, run, fact_mark, set_aside, stage_count}
use Rattle.items.specs.Item.{narrow, Width, max_facts, max_rules}
use Rattle.items.specs.Question as refusal
use Rattle.reader.specs.Questions.{program_of, file_no}
use Rattle.questions.specs.Questions.{each}
use Rattle.items.specs.Write.{over}

-- A digit, and a number in decimal digits. No number n has more than n + 1 digits, so k from n up is enough.
abbrev pub digit : ℕ → List ℕ
digit d = (0x30 + d) ∷ []

abbrev pub digits : ℕ → ℕ → List ℕ
digits zero n = digit n
digits (suc k) n = cond (ltb n 10) (digit n) (digits k (n / 10) ++ digit (n % 10))

unfoldable pub decimal : ℕ → List ℕ
decimal n = digits n n

-- the characters between and behind the words of a line
abbrev pub space : ℕ
space = 0x20

abbrev pub newline : List ℕ
newline = 0x0A ∷ []

-- a space and a number, and these behind a letter
unfoldable pub spaced : ℕ → List ℕ
spaced n = space ∷ decimal n

unfoldable pub field : ℕ → ℕ → List ℕ
field letter n = letter ∷ spaced n

-- a line of a letter and a number
unfoldable pub line : ℕ → ℕ → List ℕ
line letter n = field letter n ++ newline

-- F facts R rules S stages
unfoldable pub head_line : ℕ → ℕ → ℕ → List ℕ
head_line facts rules stages =
    field 0x46 facts ++ (space ∷ (field 0x52 rules ++ (space ∷ (field 0x53 stages ++ newline))))

-- D fact rule, a step
unfoldable pub step_line : Step → List ℕ
step_line s = field 0x44 s.fact ++ (spaced s.by ++ newline)

-- Y if none was set aside, else N
abbrev pub last_line : Bool → List ℕ
last_line none_aside = cond none_aside 0x59 0x4E ∷ newline

-- the facts in R and the rules set aside, ascending
abbrev pub rejected_facts : Program → Stand → List ℕ
rejected_facts P s = keep (λ f. eqb (fact_mark P s f) 2) (up_to P.facts)

abbrev pub aside_rules : Program → Stand → List ℕ
aside_rules P s = keep (set_aside P (in_force P) s.derived) (up_to (count P))

-- The lines of a run: F, then D for each step, X for each fact in R, A for each rule set aside, and Y or N.
unfoldable pub run_text : Program → Stand → List ℕ
run_text P s =
    head_line P.facts (count P) (stage_count s)
    ++ (each step_line s.trace
    ++ (each (line 0x58) (rejected_facts P s)
    ++ (each (line 0x41) (aside_rules P s)
    ++ last_line (null (aside_rules P s)))))

-- the exception rules, ascending
abbrev pub ascending : Program → List ℕ
ascending P = keep (exception P) (up_to (count P))

-- The text for a file: run in ascending order, or only the line E and the number of the refusal.
unfoldable pub panel_text : List ℕ → List ℕ
panel_text file =
    elim (file_no file) [
      | none ↦ run_text (program_of file) (run (program_of file) (in_force (program_of file)) (ascending (program_of file)))
      | some r ↦ line 0x45 (refusal.number r)
    ]

-- The text in a buffer: written to its front exactly where it fits.
abbrev pub shown : List ℕ → List ℕ → List ℕ
shown text room = cond (leb (length text) (length room)) (over text room) room

-- The most digits of a number in a line: a fact number, a rule number or a count.
abbrev pub most_digits : Width → ℕ
most_digits narrow = 3

-- The most bytes of a space and a number, of a field, and of each line.
abbrev pub most_spaced : Width → ℕ
most_spaced w = 1 + most_digits w

abbrev pub most_field : Width → ℕ
most_field w = 1 + most_spaced w

abbrev pub most_line : Width → ℕ
most_line w = most_field w + 1

abbrev pub most_step : Width → ℕ
most_step w = most_field w + most_spaced w + 1

abbrev pub most_head : Width → ℕ
most_head w = 3 * (most_field w + 1)

abbrev pub last_length : ℕ
last_length = 2

-- Every text of the panel has room in so many bytes: a step and an X for each fact, an A for each rule, and the first and the last line.
abbrev pub text_room : Width → ℕ
text_room w = most_head w + (max_facts w * most_step w + (max_facts w * most_line w + (max_rules * most_line w + last_length)))
