-- Internal: the number of a rule's mark.
use Rattle.std.specs.Prelude.{ℕ}
use Rattle.results.specs.declared.marks.RuleMark.{RuleMark}
use Rattle.results.specs.declared.marks.RuleMark.TheVariants.{Plain, Applied, SetAside, Other, Withheld}

-- The number that the document gives a mark.
abbrev pub mark_number : RuleMark → ℕ
mark_number Plain = 0
mark_number Applied = 1
mark_number SetAside = 2
mark_number Other = 3
mark_number Withheld = 4
