-- The number of each refusal, a question before a result, and the first no to a list of them (document 01, "Questions before a result", and the wishes
-- of document 02): each no stops with its number.
use Rattle.std.specs.Prelude.{ℕ, Bool, cond, List, [], ◌∷◌}
use Rattle.items.specs.declared.refusal.Refusal.{Refusal}
use Rattle.items.specs.declared.refusal.Refusal.TheVariants.{FileTooLong, NoFactCount, FileCutOff, UnknownKind, BodyCutOff, FactTooHigh, NoRuleOpened, TooManyRules, WrongRuleCount, BytesAfterEnd, NotRuleItems, NotAnException, NamedTwice, NotAllNamed, WrongSetLength, NotZeroOrOne, NotStepItems, AskedFactTooHigh, FactMarksShort, RuleMarksShort, StepsShort, OrderShort, TooManyConstraints, NoStableSet, NotDerived, RuleTooLong, NotLayered, FactsOutOfRange, RulesOutOfRange, LoadShort, UnreadAfterRule}
use Rattle.std.proofs.Math.Option.{Option, none, some}

abbrev pub number : Refusal → ℕ
number FileTooLong = 1
number NoFactCount = 2
number FileCutOff = 3
number UnknownKind = 4
number BodyCutOff = 5
number FactTooHigh = 6
number NoRuleOpened = 7
number TooManyRules = 8
number WrongRuleCount = 9
number BytesAfterEnd = 10
number NotRuleItems = 11
number NotAnException = 12
number NamedTwice = 13
number NotAllNamed = 14
number WrongSetLength = 21
number NotZeroOrOne = 22
number NotStepItems = 23
number AskedFactTooHigh = 24
number FactMarksShort = 31
number RuleMarksShort = 32
number StepsShort = 33
number OrderShort = 34
number TooManyConstraints = 40
number NoStableSet = 41
number NotDerived = 50
number RuleTooLong = 51
number NotLayered = 52
number FactsOutOfRange = 53
number RulesOutOfRange = 54
number LoadShort = 55
number UnreadAfterRule = 56

-- The refusal that a no gives (`number` is its number in the documents), and the answer.
pub record Question : Type 0 where
  pub refusal : Refusal
  pub answer : Bool

abbrev pub ask : Refusal → Bool → Question
ask r b = record { refusal = r; answer = b }

-- The refusal of the first no; none where every question gets yes.
abbrev pub first_no : List Question → Option Refusal
first_no [] = none
first_no (q ∷ qs) = cond q.answer (first_no qs) (some q.refusal)

-- The number that is returned: that of the first no, or 0.
abbrev pub no_number : Option Refusal → ℕ
no_number none = 0
no_number (some r) = number r
