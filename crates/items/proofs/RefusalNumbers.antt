-- Each refusal has a number: 0 is the number of an answer that refuses nothing.
use Prim.Native.Nat.{◌<◌}
use native.Mathlib.Omega.{arith}
use Rattle.items.specs.declared.refusal.Refusal.{Refusal}
use Rattle.items.specs.declared.refusal.Refusal.TheVariants.{FileTooLong, NoFactCount, FileCutOff, UnknownKind, BodyCutOff, FactTooHigh, NoRuleOpened, TooManyRules, WrongRuleCount, BytesAfterEnd, NotRuleItems, NotAnException, NamedTwice, NotAllNamed, WrongSetLength, NotZeroOrOne, NotStepItems, AskedFactTooHigh, FactMarksShort, RuleMarksShort, StepsShort, OrderShort, TooManyConstraints, NoStableSet, NotDerived, RuleTooLong, NotLayered, FactsOutOfRange, RulesOutOfRange, LoadShort, UnreadAfterRule}
use Rattle.items.specs.Question.{number}

pub number-above : (r : Refusal) → 0 < number r
number-above FileTooLong = omega arith
number-above NoFactCount = omega arith
number-above FileCutOff = omega arith
number-above UnknownKind = omega arith
number-above BodyCutOff = omega arith
number-above FactTooHigh = omega arith
number-above NoRuleOpened = omega arith
number-above TooManyRules = omega arith
number-above WrongRuleCount = omega arith
number-above BytesAfterEnd = omega arith
number-above NotRuleItems = omega arith
number-above NotAnException = omega arith
number-above NamedTwice = omega arith
number-above NotAllNamed = omega arith
number-above WrongSetLength = omega arith
number-above NotZeroOrOne = omega arith
number-above NotStepItems = omega arith
number-above AskedFactTooHigh = omega arith
number-above FactMarksShort = omega arith
number-above RuleMarksShort = omega arith
number-above StepsShort = omega arith
number-above OrderShort = omega arith
number-above TooManyConstraints = omega arith
number-above NoStableSet = omega arith
number-above NotDerived = omega arith
number-above RuleTooLong = omega arith
number-above NotLayered = omega arith
number-above FactsOutOfRange = omega arith
number-above RulesOutOfRange = omega arith
number-above LoadShort = omega arith
number-above UnreadAfterRule = omega arith
