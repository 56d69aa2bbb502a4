-- The rules of a row are indexed.
use Prim.Native.Nat.{ℕ, ◌≤◌, ◌<◌}
use mathlib.Core.Path.{◌≡◌, refl, ap, subst, fun_ext}
use mathlib.Core.Bool.{Bool, true, false, ◌&&◌}
use mathlib.Core.List.{List}
use native.Mathlib.Omega.{arith}
use borrow.Author.Tests.{ltb-true, lt-ltb}
use lib.ListN.{length, get_or}
use lib.Dec.{ltb}
use Rattle.theory.specs.Rule.{all, mem, nothing, Program, count, rule}
use Rattle.theory.proofs.Lists.{all-elem, get_or-mem}
use Rattle.items.specs.Item.{narrow, max_facts}
use Rattle.bits.specs.Flags.{Flags}
use Rattle.bits.specs.Matrix.{Matrix}
use Rattle.premises.specs.Premises.{in_row, ripe, Asked, Counted}
use Rattle.premises.specs.Filling.{Listed, Indexing}

-- the rule at a place of the row is one of the program
pub rule_known : {P : Program} {row : List ℕ} → Listed P row → (n : ℕ) → n < length row → get_or row n 0 < count P
rule_known {P} {row} l n h = ltb-true (get_or row n 0) (count P) (all-elem (λ i. ltb i (count P)) row l.known (get_or row n 0) (get_or-mem row n h))

-- All places are passed.
module _ {P : Program} (row : List ℕ) {asks missing awake : List ℕ} {n : ℕ} (w : Indexing P (in_row row) n asks missing awake) (past : length row ≤ n) where
  passed : (t : Bool) (k : ℕ) → ltb k n && ltb k (length row) && t ≡ ltb k (length row) && t
  passed t k = go (ltb k (length row)) refl
    where
      none : (b : Bool) → b && false ≡ false
      none true = refl
      none false = refl

      go : (b : Bool) → ltb k (length row) ≡ b → ltb k n && b && t ≡ b && t
      go true q = let low : k < length row = ltb-true k (length row) q in ap (λ (b : Bool). b && true && t) (lt-ltb k n (omega arith))
      go false q = ap (λ (b : Bool). b && t) (none (ltb k n))

  pub all_asked : Asked P (in_row row) asks
  all_asked = record { matrix = subst (λ (q : ℕ → ℕ → Bool). Matrix (max_facts narrow) q asks) (fun_ext (λ f. fun_ext (λ k. passed (mem f (rule P (get_or row k 0)).premises) k))) w.asked }

  pub all-counted : Counted P (in_row row) nothing missing
  all-counted = record { places = w.places; counts = λ k h. let low : k < length row = ltb-true k (length row) h in w.counts k (omega arith) h }

  pub all-ripe : Flags (ripe P (in_row row) nothing) awake
  all-ripe = subst (λ (p : ℕ → Bool). Flags p awake) (fun_ext (λ k. passed (all nothing (rule P (get_or row k 0)).premises) k)) w.woken
