-- Document 02, wish 2, "Cap on the length of a rule", on any bytes at all.
use Rattle.std.specs.Prelude.{ℕ, ◌<◌, ◌≤◌, ◌≡◌, cond, List, [], ◌∷◌, ◌++◌, map, ◌↔◌, length, eqb}
use Rattle.std.proofs.Math.Option.{Option, none, some}
use Rattle.theory.specs.Rule.{Rule, count, rule, blank}
use Rattle.items.specs.declared.refusal.Refusal.{Refusal}
use Rattle.items.specs.declared.refusal.Refusal.TheVariants.{FileCutOff}
use Rattle.items.specs.declared.item.Item.{Item}
use Rattle.items.specs.Item.{max_bytes, OwnItem, class_of}
use Rattle.items.specs.Question.{number, Question, first_no, no_number}
use Rattle.cursors.specs.Cursor.{Token, item, items_at, file_start}
use Rattle.reader.specs.Questions.{rules_of, fact_count, program_of, opening_questions, file_questions, file_no}
use Rattle.reader.specs.RuleLength.{rule_length, all_lengths, WithinCap}
use Rattle.demands.specs.EachRefuses.{EachRefuses}

-- The questions without the cap: all but 51.
abbrev pub without51 : List Question → List Question
without51 [] = []
without51 (q ∷ qs) = cond (eqb (number q.refusal) 51) (without51 qs) (q ∷ without51 qs)

abbrev pub first_no_uncapped : List ℕ → Option Refusal
first_no_uncapped file = first_no (without51 (file_questions file))

-- The rule last opened.
abbrev pub last_rule : List Rule → Rule
last_rule [] = blank
last_rule (r ∷ []) = r
last_rule (r ∷ q ∷ rs) = last_rule (q ∷ rs)

-- Somewhere in the file there stands the 25th premise or constraint item of one rule, and it is the first item that gets a no.
pub record TwentyFifth (file : List ℕ) : Type 0 where
  pub before : List Item
  pub next : Item
  pub after : List Token
  pub stands : items_at file file_start ≡ map item before ++ (item next ∷ after)
  -- a premise or a constraint, of a fact below the count (6)
  pub own : OwnItem
  pub is_own : (class_of next).own ≡ some own
  pub below : own.fact.0 < fact_count (map item before)
  -- the rule last opened has 24 items before it, so there is one (7)
  pub full : rule_length (last_rule (rules_of (map item before))) ≡ 24
  -- all that is asked of the items before gets yes: nothing is missing but a next byte
  pub short : length file ≤ max_bytes
  pub asked : first_no (opening_questions (map item before)) ≡ some FileCutOff

-- `wish_02` proves it of every file.
pub record Wish02 (file : List ℕ) : Type 0 where
  -- "24 becomes the limit": so many items has a rule of an accepted file at most, and 512 times as many have all its rules together.
  pub each_rule : file_no file ≡ none → (i : ℕ) → i < count (program_of file) → rule_length (rule (program_of file) i) ≤ 24
  pub together : file_no file ≡ none → all_lengths (program_of file).rules ≤ 12288
  -- "All that is said of accepted files is then said of files within this cap": accepted are the files within it that would be accepted without it, ..
  pub accepted : (file_no file ≡ none) ↔ ((first_no_uncapped file ≡ none) × WithinCap (program_of file))
  -- .. and what is not refused with 51 gets the answer that it would get without the cap.
  pub else_same : (no_number (file_no file) ≡ 51 → ⊥) → file_no file ≡ first_no_uncapped file
  -- "It refuses with 51, right after question 7, the 25th such item of one rule, repeats counted."
  pub fifty_one : (no_number (file_no file) ≡ 51) ↔ TwentyFifth file
  pub each_refuses : no_number (file_no file) ≡ 51 → EachRefuses 51 file
