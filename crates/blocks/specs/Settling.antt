-- Internal: what the rules derive in each lane from the facts that it holds out.
use Rattle.std.specs.Prelude.{ℕ, ◌<◌, ◌≡◌, Bool, true, false, not, ◌&&◌, ◌||◌, List, ◌⊎◌, eqb, length, get_or}
use Rattle.theory.specs.Rule.{all, Program, in_force, rule}
use Rattle.theory.specs.Check.{least_of}
use Rattle.theory.specs.Guesses.{bit}
use Rattle.bits.specs.Flags.{word_bits, total, Flags}
use Rattle.premises.specs.Premises.{Places, premises_at}
use Rattle.lanes.specs.Lanes.{lane_words, lane_cells, lane_in, Fit}

-- A body has kept the lanes that have each of the facts.
pub record MetAll (facts words before after : List ℕ) : Type 0 where
  pub places : length after ≡ length before
  pub kept : length before ≡ lane_words → (w t : ℕ) → w < lane_words → t < word_bits → bit (get_or after w 0) t ≡ bit (get_or before w 0) t && all (lane_in words w t) facts
  pub fitting : length before ≡ lane_words → Fit before → Fit after

-- a lane derives the premises of a rule and holds out its constraints
abbrev pub fires_in : Program → List ℕ → List ℕ → ℕ → ℕ → ℕ → Bool
fires_in P outs derived i w t = all (lane_in derived w t) (rule P i).premises && all (lane_in outs w t) (rule P i).constraints

-- A rule has derived its conclusion in every lane where it fires.
pub record Fired (P : Program) (i : ℕ) (outs before after : List ℕ) (new : Bool) : Type 0 where
  pub places : length after ≡ lane_cells
  pub adds : (w t f : ℕ) → w < lane_words → t < word_bits → lane_in after w t f ≡ lane_in before w t f || (eqb f (rule P i).conclusion && fires_in P outs before i w t)
  pub fitting : Fit before → Fit after
  pub same : new ≡ false → after ≡ before
  pub more : new ≡ true → total before < total after

-- A rule has been looked at: where its conclusion was new in some lane, the places whose rules ask it are to be looked at again.
pub record Stepped (P : Program) (R : Places) (p : ℕ → Bool) (i : ℕ) (outs before waiting after waiting' : List ℕ) : Type 0 where
  pub places : length after ≡ lane_cells
  pub adds : (w t f : ℕ) → w < lane_words → t < word_bits → lane_in after w t f ≡ lane_in before w t f || (eqb f (rule P i).conclusion && fires_in P outs before i w t)
  pub fitting : Fit before → Fit after
  -- the places that wait now
  pub waits : ℕ → Bool
  pub flags : Flags waits waiting'
  pub still : (k : ℕ) → p k ≡ true → waits k ≡ true
  pub taken : (k : ℕ) → waits k ≡ true → p k ≡ false → R.taken k ≡ true
  -- no premise of a rule that does not wait is new in any lane
  pub known : (k : ℕ) → R.taken k ≡ true → waits k ≡ false → (w t : ℕ) → w < lane_words → t < word_bits → all (lane_in after w t) (premises_at P R k) ≡ all (lane_in before w t) (premises_at P R k)
  pub forward : ((waiting' ≡ waiting) × (after ≡ before)) ⊎ (total before < total after)

-- Every lane derives what follows from the facts that it holds out.
pub record Settled (P : Program) (outs derived : List ℕ) : Type 0 where
  pub places : length derived ≡ lane_cells
  pub least : (w t : ℕ) → w < lane_words → t < word_bits → lane_in derived w t ≡ least_of P (in_force P) (λ k. not (lane_in outs w t k))
