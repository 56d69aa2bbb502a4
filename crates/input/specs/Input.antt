-- Internal: what was read lies inside the room.
use Rattle.std.specs.Prelude.{ℕ, ◌≤◌, List, Result, Ok, Err, length}

abbrev pub Inside : {E : Type 0} → List ℕ → Result ℕ E → Type 0
Inside room (Ok n) = n ≤ length room
Inside room (Err e) = Unit {0}
