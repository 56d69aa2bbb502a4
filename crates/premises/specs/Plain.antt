-- Internal: the plain rules by premise (document 02, wish 8), and behind them the rules in force, as rows of bits of one array that is lent like the tables.
use Rattle.std.specs.Prelude.{ℕ, ◌+◌, ◌<◌, ◌≡◌, Bool, true, false, ◌&&◌, List, length, replicate}
use Rattle.theory.specs.Rule.{keep, mem, up_to, Program, count, rule, plain}
use Rattle.items.specs.Item.{narrow, max_facts, has}
use Rattle.bits.specs.Flags.{row_words}
use Rattle.bits.specs.Matrix.{matrix_words, bit_in, numbers_in, Matrix}
use Rattle.premises.specs.Premises.{plain_ones, Asked}

-- "for each fact exactly the plain rules with that premise, each once, ascending"
abbrev pub plain_with : Program → ℕ → List ℕ
plain_with P f = keep (λ i. plain P i && mem f (rule P i).premises) (up_to (count P))

-- a row for each fact, and one for the rules in force
abbrev pub plain_words : ℕ
plain_words = matrix_words + row_words

-- the rules in force
abbrev pub mask_in : List ℕ → ℕ → Bool
mask_in index i = bit_in index (max_facts narrow) i

-- The index of a program. Only plain rules are in force, whichever they are.
pub record PlainIndexed (P : Program) (index : List ℕ) : Type 0 where
  pub words : length index ≡ plain_words
  pub rows : Asked P (plain_ones P) index
  pub only_plain : (i : ℕ) → mask_in index i ≡ true → plain P i ≡ true

-- The index before it is filled.
pub record Zeroed (index : List ℕ) : Type 0 where
  pub zeros : ◌≡◌ {A = List ℕ} index (replicate plain_words 0)

-- The row of each fact, by the sentence of the wish.
abbrev pub RowsAre : Program → List ℕ → Type 0
RowsAre P index = (f : ℕ) → f < max_facts narrow → numbers_in index f ≡ plain_with P f

-- The rules in force are those of a mask.
abbrev pub Masks : List ℕ → List ℕ → Type 0
Masks mask index = (i : ℕ) → mask_in index i ≡ has mask i

-- They stand behind rows that are still empty.
pub record MaskPut (mask index : List ℕ) : Type 0 where
  pub words : length index ≡ plain_words
  pub no_rows : Matrix (max_facts narrow) (λ f k. false) index
  pub masks : Masks mask index

-- the mask has plain rules alone
abbrev pub OnlyPlain : Program → List ℕ → Type 0
OnlyPlain P mask = (i : ℕ) → has mask i ≡ true → plain P i ≡ true
