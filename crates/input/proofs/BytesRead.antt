-- The bytes that were read, as the front of the room.
use Prim.Native.Nat.{ℕ, ◌≤◌}
use mathlib.Core.Path.{◌≡◌, sym}
use mathlib.Core.List.{List}
use lib.ListN.{length, take}
use lib.Seq.{length-take-le}
use Rattle.std.specs.Prelude.{Result, Ok}
use Rattle.input.specs.Input.{Inside}

module _ {E : Type 0} (room : List ℕ) (r : Result ℕ E) (h : Inside room r) (n : ℕ) (e : r ≡ Ok n) where
  pub read_inside : n ≤ length room
  read_inside = rw e at h

  pub read_front : n ≡ length (take n room)
  read_front = sym (length-take-le n room read_inside)
