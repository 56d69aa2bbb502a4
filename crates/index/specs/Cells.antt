-- Internal: the words of the index, an array that is lent like the tables. First a row of bits for each literal; then for each rule 1 where it is
-- in force.
use Rattle.std.specs.Prelude.{ℕ, ◌+◌, ◌*◌, Bool, List, get_or, eqb}
use Rattle.items.specs.Item.{max_rules}
use Rattle.bits.specs.Flags.{row_words}
use Rattle.index.specs.Literal.{literals}

-- Where the marks begin, and how many words there are.
abbrev pub marks_from : ℕ
marks_from = literals * row_words

abbrev pub index_words : ℕ
index_words = marks_from + max_rules

-- the rules in force
abbrev pub on_in : List ℕ → ℕ → Bool
on_in R i = eqb (get_or R (marks_from + i) 0) 1
