-- The rows that end past their last whole item, and the first no to a part of the questions: only code and proofs use these.
use Rattle.std.specs.Prelude.{ℕ, Bool, List, ◌++◌}
use Rattle.std.proofs.Math.Option.{Option}
use Rattle.theory.specs.Rule.{Program, count, exception}
use Rattle.items.specs.declared.refusal.Refusal.{Refusal}
use Rattle.cursors.specs.declared.cursor.Row.{Row}
use Rattle.cursors.specs.declared.cursor.Row.TheVariants.{Opening, Body, Order, Steps}
use Rattle.items.specs.Item.{narrow}
use Rattle.items.specs.Question.{first_no}
use Rattle.questions.specs.Questions.{list_questions, set_questions, row_questions, order_questions, buffer_questions, both_questions, limit_questions, early_questions}

-- An order, a list or a proof row ends past its last whole item.
abbrev pub Ends : Row → Type 0
Ends Opening = ⊥
Ends Body = ⊥
Ends Order = Unit {0}
Ends Steps = Unit {0}

-- A list of rules, a fact set, a proof row.
abbrev pub list_no : (ℕ → Bool) → List ℕ → Option Refusal
list_no known list = first_no (list_questions known list)

abbrev pub set_no : ℕ → List ℕ → Option Refusal
set_no n set = first_no (set_questions n set)

abbrev pub row_no : ℕ → ℕ → List ℕ → Option Refusal
row_no n fact row = first_no (row_questions n fact row)

-- The run's questions behind those of the file.
abbrev pub tabled_no : Program → List ℕ → ℕ → ℕ → ℕ → Option Refusal
tabled_no P order facts rules steps =
    first_no (order_questions (exception P) (count P) order ++ buffer_questions narrow P facts rules steps)

-- Two orders.
abbrev pub both_no : Program → List ℕ → List ℕ → Option Refusal
both_no P first second = first_no (both_questions P first second)

-- The search's limits, and all but its last question.
abbrev pub limits_no : Program → ℕ → Option Refusal
limits_no P order = first_no (limit_questions P order)

abbrev pub early_no : List ℕ → ℕ → ℕ → ℕ → ℕ → Option Refusal
early_no file facts rules steps order = first_no (early_questions file facts rules steps order)
