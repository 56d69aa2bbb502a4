-- Internal: the rules that an order sets aside, of the program in the tables.
use Rattle.std.specs.Prelude.{ℕ, List}
use Rattle.theory.specs.Rule.{in_force}
use Rattle.theory.specs.Better.{aside_count}
use Rattle.tables.specs.Layout.{program_in}
use Rattle.questions.specs.Questions.{named_in}

abbrev pub aside_in : List ℕ → List ℕ → ℕ
aside_in T order = aside_count (program_in T) (in_force (program_in T)) (named_in order)
