-- Internal: guesses by number. A guess is a set of facts of a row; read as a number whose highest bit is the row's first fact, the guesses in ascending
-- order are those of `hunt`; `hunt-first` and `hunt-none` in proofs/Guesses say so.
use Rattle.std.specs.Prelude.{ℕ, zero, suc, ◌-◌, ◌/◌, ◌%◌, ◌≡◌, Bool, true, false, cond, not, List, [], ◌∷◌, eqb, length, get_or}
use Rattle.theory.specs.Rule.{mem, NoRepeat, Program, Mask, FactSet, adjoin}
use Rattle.theory.specs.Check.{least_of}
use Rattle.theory.specs.Search.{guessed}

-- bit j of a number, bit 0 the lowest
abbrev pub bit : ℕ → ℕ → Bool
bit w zero = eqb (w % 2) 1
bit w (suc j) = bit (w / 2) j

-- two truth values differ
abbrev pub unlike : Bool → Bool → Bool
unlike true b = not b
unlike false b = b

-- the fact of bit j: the row has that of the highest bit first
abbrev pub fact_at : List ℕ → ℕ → ℕ
fact_at ks j = get_or ks (length ks - suc j) 0

-- the guess numbered g: the facts of G, and those of the row whose bit is set
abbrev pub guess_at : List ℕ → FactSet → ℕ → FactSet
guess_at [] G g = G
guess_at (k ∷ ks) G g = guess_at ks (cond (bit g (length ks)) (adjoin G k) G) g

-- the facts of the row that are not in the guess
abbrev pub left_out : List ℕ → ℕ → List ℕ
left_out [] g = []
left_out (k ∷ ks) g = cond (bit g (length ks)) (left_out ks g) (k ∷ left_out ks g)

-- A row of constraint facts to guess beside G, which has none of them. The constraint facts that are not in the row stand as in G, whatever is guessed.
pub record GuessRow (P : Program) (on : Mask) (ks : List ℕ) (G : FactSet) : Type 0 where
  pub once : NoRepeat ks
  pub free : (k : ℕ) → mem k ks ≡ true → G k ≡ false
  pub asked : (k : ℕ) → mem k ks ≡ true → mem k (guessed P on) ≡ true
  pub sure : (x k : ℕ) → mem k (guessed P on) ≡ true → mem k ks ≡ false → least_of P on (guess_at ks G x) k ≡ G k
