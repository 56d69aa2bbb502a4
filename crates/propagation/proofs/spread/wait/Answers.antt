-- A literal that is told already stays as it is; another goes on top of the stack, where there is room as long as one is not told.
use Prim.Native.Nat.{◌<◌}
use native.Mathlib.Omega.{arith}
use Rattle.index.specs.Literal.{literals}
use Rattle.propagation.proofs.LiteralsStacked.{told-before, room-left, told-now}
use Rattle.propagation.proofs.spread.wait.Goals as goal
use Rattle.propagation.proofs.spread.wait.Goals.{Else-marks-literal-ne0}

has_room : (c : Else-marks-literal-ne0) → c.args.top < literals
has_room c = room-left c.requires.1 c.args.literal c.requires.0 c.if-marks-literal-ne0.false

pub returns-then-marks-literal-ne0 : goal.returns-then-marks-literal-ne0
returns-then-marks-literal-ne0 c = told-before c.requires.1 c.args.literal c.requires.0 c.if-marks-literal-ne0.true

pub offset_bounds-stack-top : goal.offset_bounds-stack-top
offset_bounds-stack-top c = omega (arith, has_room c)

pub bounds-stack-top : goal.bounds-stack-top
bounds-stack-top c = has_room (goal.at.bounds-stack-top c).Else-marks-literal-ne0

pub overflow_add-result : goal.overflow_add-result
overflow_add-result c = omega (arith, has_room (goal.at.overflow_add-result c).Else-marks-literal-ne0)

pub returns : goal.returns
returns c = told-now c.requires.1 c.args.literal c.requires.0 c.if-marks-literal-ne0.false
