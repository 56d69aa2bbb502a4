-- Internal: bytes written one after another into a buffer.
use Rattle.std.specs.Prelude.{ℕ, ◌+◌, ◌≤◌, ◌≡◌, List, length}
use Rattle.items.specs.Write.{placed}

-- There is room for the bytes at a place.
pub record Fits (bytes : List ℕ) (at : ℕ) (room : List ℕ) : Type 0 where
  pub inside : at + length bytes ≤ length room

-- The bytes stand at their place, and next is the place behind them.
pub record Put (bytes : List ℕ) (at : ℕ) (before : List ℕ) (next : ℕ) (after : List ℕ) : Type 0 where
  pub bytes_put : after ≡ placed bytes at before
  pub behind : next ≡ at + length bytes
