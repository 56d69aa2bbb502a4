-- The plain rules are indexed.
use Prim.Native.Nat.{ℕ, ◌≤◌, ◌<◌}
use mathlib.Core.Path.{◌≡◌, refl, ap, subst, fun_ext}
use mathlib.Core.Bool.{Bool, true, false, not, ◌&&◌}
use mathlib.Core.List.{List}
use native.Mathlib.Omega.{arith}
use borrow.Author.Tests.{lt-ltb, ltb-true}
use lib.Dec.{ltb}
use Rattle.theory.specs.Rule.{all, mem, nothing, null, in_force, Program, count, rule, plain, exception}
use Rattle.theory.proofs.Bools.{never, false_of, and_left}
use Rattle.theory.proofs.Run.{not-both}
use Rattle.items.specs.Item.{narrow, max_facts, max_rules}
use Rattle.bits.specs.Flags.{Flags}
use Rattle.bits.specs.Matrix.{Matrix}
use Rattle.bits.proofs.MatrixMarked.{row_is}
use Rattle.premises.specs.Premises.{plain_ones, ripe, Asked, Counted}
use Rattle.premises.specs.Filling.{Indexing}
use Rattle.premises.specs.Plain.{RowsAre}

-- A rule of the program is plain exactly where it is no exception rule.
pub plain-there : (P : Program) (i : ℕ) → i < count P → exception P i ≡ false → plain P i ≡ true
unfolding plain exception
plain-there P i h e = rw (lt-ltb i (count P) h) (go (null (rule P i).constraints) (rw (lt-ltb i (count P) h) at e))
  where
    go : (b : Bool) → not b ≡ false → b ≡ true
    go true q = refl
    go false q = never refl q

pub none_plain : (P : Program) (i : ℕ) → exception P i ≡ true → plain P i ≡ false
none_plain P i e = false_of (plain P i) (λ p. not-both P (in_force P) i p e)

pub plain_known : (P : Program) (i : ℕ) → plain P i ≡ true → i < count P
unfolding plain
plain_known P i t = ltb-true i (count P) (and_left (ltb i (count P)) _ t)

-- All rules are passed.
module _ {P : Program} {index missing ready : List ℕ} {n : ℕ} (few : count P ≤ max_rules) (w : Indexing P (plain_ones P) n index missing ready) (e : n ≡ count P) where
  passed : (t : Bool) (k : ℕ) → ltb k n && plain P k && t ≡ plain P k && t
  passed t k = go (plain P k) refl
    where
      go : (b : Bool) → plain P k ≡ b → ltb k n && b && t ≡ b && t
      go true q = let low : k < count P = plain_known P k q in ap (λ (b : Bool). b && true && t) (lt-ltb k n (omega arith))
      go false q = ap (λ (b : Bool). b && t) (no (ltb k n))
        where
          no : (b : Bool) → b && false ≡ false
          no true = refl
          no false = refl

  pub plain-asked : Asked P (plain_ones P) index
  plain-asked = record { matrix = subst (λ (q : ℕ → ℕ → Bool). Matrix (max_facts narrow) q index) (fun_ext (λ f. fun_ext (λ k. passed (mem f (rule P k).premises) k))) w.asked }

  pub plain-counted : Counted P (plain_ones P) nothing missing
  plain-counted = record { places = w.places; counts = λ k h. let low : k < count P = plain_known P k h in w.counts k (omega arith) h }

  pub plain-ripe : Flags (ripe P (plain_ones P) nothing) ready
  plain-ripe = subst (λ (p : ℕ → Bool). Flags p ready) (fun_ext (λ k. passed (all nothing (rule P k).premises) k)) w.woken

  -- each row is the list of the wish
  pub rows_are : RowsAre P index
  rows_are f h = row_is plain-asked.matrix f h (count P) few (λ i t. plain_known P i (and_left (plain P i) _ t))
