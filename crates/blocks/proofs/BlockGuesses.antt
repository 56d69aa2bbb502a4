-- The lanes of a block are its guesses: what they derive, which of them fit, and the first of all guesses that does.
use Prim.Native.Nat.{ℕ, ◌+◌, ◌*◌, ◌-◌, ◌/◌, ◌%◌, ◌^◌, ◌<◌, ◌≤◌}
use native.Mathlib.Decide.{dec_lt}
use native.Mathlib.Nat.{mod-eq_of_lt}
use native.Mathlib.Omega.{arith}
use mathlib.Core.Path.{◌≡◌, refl, sym, ap, subst, ◌∙◌}
use mathlib.Core.Bool.{Bool, true, false, not, ◌&&◌}
use mathlib.Core.List.{List}
use mathlib.Core.Logic.{by_cases}
use mathlib.Core.Option.{some}
use Rattle.std.specs.Prelude.{Some, None}
use Rattle.std.specs.Prelude as std
use lib.ListN.{length}
use lib.Pow.{pow_mono}
use Rattle.theory.specs.Rule.{mem, Program, FactSet, in_force}
use Rattle.theory.specs.Conditions.{Bounded}
use Rattle.theory.specs.Search.{guessed, fits}
use Rattle.theory.specs.Guesses.{bit, unlike, fact_at, guess_at}
use Rattle.theory.proofs.Bools.{never}
use Rattle.theory.proofs.Lists.{all-elem, all-fails}
use Rattle.theory.proofs.Stable.{least_of-agrees, constraint_below}
use Rattle.theory.proofs.Search.{constraint_guessed, guessed-constraint}
use Rattle.theory.proofs.Guesses.{guess_off, guess-at, fact-in, bit-of, hunt-first, hunt-none, fits-where, fits-apart}
use Rattle.items.specs.Item.{narrow, max_facts, max_guessed, has}
use Rattle.bits.specs.Flags.{word_bits}
use Rattle.index.specs.Literal.{outside}
use Rattle.nogoods.specs.Nogoods.{Passed}
use Rattle.lanes.specs.Lanes.{lane_words, lane_count, lane_cells, lane_in, lane_guess}
use Rattle.lanes.specs.Held.{BaseHeld, BlockHeld}
use Rattle.guessing.specs.Guessing.{sure_in, RowBase, derived_by, fits_at, Derived}
use Rattle.guessing.specs.First.{first_fit}
use Rattle.blocks.specs.Find.{lane_derives, lane_fits, LaneFound, Tried, PassedTo, FoundBefore, Found}

-- Beside the row every lane holds out what is held out at the base.
pub record Beside (row base outs : List ℕ) : Type 0 where
  pub places : length outs ≡ lane_cells
  pub held : (k w t : ℕ) → mem k row ≡ false → k < max_facts narrow → w < lane_words → t < word_bits → lane_in outs w t k ≡ has base (outside k)

pub base_beside : (row : List ℕ) {base outs : List ℕ} → BaseHeld base outs → Beside row base outs
base_beside row b = record { places = b.places; held = λ k w t m l h u. b.held k w t l h u }

pub block_beside : {row base outs outs' : List ℕ} {c : ℕ} → Beside row base outs → BlockHeld row c outs outs' → Beside row base outs'
block_beside b h = record { places = h.places ∙ b.places; held = λ k w t m l u v. h.others k w t m u v ∙ b.held k w t m l u v }

-- the number of guesses, as the code shifts it
pub guesses-of : (places : ℕ) → places ≤ max_guessed → (1 * 2 ^ places % 18446744073709551616 ≡ 2 ^ places) × (2 ^ places ≤ 65536)
guesses-of places l =
    let few : 2 ^ places ≤ 65536 = pow_mono {i = places} {j = 16} l in
    let one : 1 * 2 ^ places ≡ 2 ^ places = omega arith in
    (mod-eq_of_lt (omega arith) ∙ one, few)

pub block_start : (P : Program) (row base : List ℕ) (from : ℕ) → Passed (fits_at P row base) 0 from → PassedTo P row base (from / lane_count)
block_start P row base from p x l h = p x l (omega arith)

-- no guess of the blocks before one fits
pub none_before : (P : Program) (row base : List ℕ) (c end : ℕ) → end ≤ c → PassedTo P row base c → FoundBefore P row base end None
none_before P row base c end l p = record { one_fits = λ found e. let z : ◌≡◌ {A = ℕ} 0 1 = cc in absurd (omega arith); none_fits = λ e x a h. p x a (omega arith) }

-- What is found in the first part is what is found, ..
pub found_first : {P : Program} {row base found : List ℕ} {end : ℕ} → FoundBefore P row base end (Some found) → Found P row base (Some found)
found_first f = record { one_fits = f.one_fits; none_fits = λ e. let z : ◌≡◌ {A = ℕ} 0 1 = cc in absurd (omega arith) }

-- .. and so is what is found where the blocks have all guesses.
pub found_in : {P : Program} {row base : List ℕ} {end : ℕ} (answer : std.Option (List ℕ)) → 2 ^ length row ≤ end * lane_count → FoundBefore P row base end answer → Found P row base answer
found_in {P} {row} {base} {end} answer m f =
    record {
      one_fits = f.one_fits;
      none_fits = λ e. hunt-none (fits P (in_force P)) row (sure_in P row base) (λ x h. f.none_fits e x (omega arith) (omega arith));
    }

module _ {P : Program} (bounded : Bounded P) (few : P.facts ≤ max_facts narrow) {row base : List ℕ} (r : RowBase P row base) {before outs : List ℕ} {c : ℕ} (b : Beside row base before) (h : BlockHeld row c before outs) where
  -- A lane holds out what its guess leaves out.
  lane_agrees : (w t : ℕ) → w < lane_words → t < word_bits → (k : ℕ) → mem k (guessed P (in_force P)) ≡ true → not (lane_in outs w t k) ≡ guess_at row (sure_in P row base) (lane_guess c w t) k
  lane_agrees w t u v k m = go (mem k row) refl
    where
      twice : (x : Bool) → not (not x) ≡ x
      twice true = refl
      twice false = refl

      sure_is : (a x y : Bool) → a ≡ true → x ≡ false → not y ≡ a && not x && not y
      sure_is a x y p q = rw (p, q) refl

      go : (x : Bool) → mem k row ≡ x → not (lane_in outs w t k) ≡ guess_at row (sure_in P row base) (lane_guess c w t) k
      go true e =
          let j : (j : ℕ) × (j < length row) × (fact_at row j ≡ k) = bit-of row k e in
          ap (λ (f : ℕ). not (lane_in outs w t f)) (sym j.2)
          ∙ ap not (h.held b.places j.0 w t j.1 u v)
          ∙ twice (bit (lane_guess c w t) j.0)
          ∙ sym (guess-at row (sure_in P row base) (lane_guess c w t) j.0 r.to_guess.once r.to_guess.free j.1)
          ∙ ap (guess_at row (sure_in P row base) (lane_guess c w t)) j.2
      go false e =
          let l : k < P.facts = constraint_below P (in_force P) bounded k (guessed-constraint P (in_force P) k m) in
          ap not (h.others k w t e u v ∙ b.held k w t e (omega (arith, few)) u v)
          ∙ sure_is (mem k (guessed P (in_force P))) (mem k row) (has base (outside k)) m e
          ∙ sym (guess_off row (sure_in P row base) (lane_guess c w t) k e)

  -- So it derives what its guess derives, ..
  lane-derives : (w t : ℕ) → w < lane_words → t < word_bits → lane_derives P outs w t ≡ derived_by P row base (lane_guess c w t)
  lane-derives w t u v =
      least_of-agrees P (in_force P) (λ k. not (lane_in outs w t k)) (guess_at row (sure_in P row base) (lane_guess c w t))
      (λ k q. lane_agrees w t u v k (constraint_guessed P (in_force P) bounded k q))

  -- .. and fits where its guess fits.
  lane-fits : (w t : ℕ) → w < lane_words → t < word_bits → fits_at P row base (lane_guess c w t) ≡ lane_fits P row outs w t
  lane-fits w t u v = go (lane_fits P row outs w t) refl
    where
      Test : ℕ → Bool
      Test k = unlike (lane_derives P outs w t k) (lane_in outs w t k)

      apart : (d x : Bool) → unlike d (not x) ≡ true → d ≡ x
      apart true true q = refl
      apart true false q = never q refl
      apart false true q = never q refl
      apart false false q = refl

      alike : (d x : Bool) → unlike d (not x) ≡ false → d ≡ not x
      alike true true q = never refl q
      alike true false q = refl
      alike false true q = refl
      alike false false q = never refl q

      at_row : (j : ℕ) → j < length row → lane_in outs w t (fact_at row j) ≡ not (bit (lane_guess c w t) j)
      at_row j l = h.held b.places j w t l u v

      derives_at : (k : ℕ) → lane_derives P outs w t k ≡ derived_by P row base (lane_guess c w t) k
      derives_at k = ap (λ (S : FactSet). S k) (lane-derives w t u v)

      go : (x : Bool) → lane_fits P row outs w t ≡ x → fits_at P row base (lane_guess c w t) ≡ x
      go true e =
          fits-where P (in_force P) row (sure_in P row base) r.to_guess (lane_guess c w t)
          (λ j l. sym (derives_at (fact_at row j)) ∙ apart (lane_derives P outs w t (fact_at row j)) (bit (lane_guess c w t) j)
          (sym (ap (unlike (lane_derives P outs w t (fact_at row j))) (at_row j l)) ∙ all-elem (λ k. unlike (lane_derives P outs w t k) (lane_in outs w t k)) row e (fact_at row j) (fact-in row j l)))
      go false e =
          let (k, m, q) = all-fails (λ k. unlike (lane_derives P outs w t k) (lane_in outs w t k)) row e in
          let j : (j : ℕ) × (j < length row) × (fact_at row j ≡ k) = bit-of row k m in
          let q' : unlike (lane_derives P outs w t (fact_at row j.0)) (lane_in outs w t (fact_at row j.0)) ≡ false = subst (λ (f : ℕ). unlike (lane_derives P outs w t f) (lane_in outs w t f) ≡ false) (sym j.2) q in
          fits-apart P (in_force P) row (sure_in P row base) r.to_guess (lane_guess c w t) j.0 j.1
          (sym (derives_at (fact_at row j.0)) ∙ alike (lane_derives P outs w t (fact_at row j.0)) (bit (lane_guess c w t) j.0) (sym (ap (unlike (lane_derives P outs w t (fact_at row j.0))) (at_row j.0 j.1)) ∙ q'))

  -- Each guess of the block is that of a lane.
  in_block : (Q : ℕ → Type 0) → ((w t : ℕ) → w < lane_words → t < word_bits → Q (lane_guess c w t)) → (x : ℕ) → c * lane_count ≤ x → x < (c + 1) * lane_count → Q x
  in_block Q q x l u =
      let is : lane_guess c (x / word_bits - c * lane_words) (x % word_bits) ≡ x = omega arith in
      subst Q is (q (x / word_bits - c * lane_words) (x % word_bits) (omega arith) (omega arith))

  module _ (p : PassedTo P row base c) where
    -- Where no lane fits, the block is passed.
    pub block_passed : Tried P row outs None → PassedTo P row base (c + 1)
    block_passed t x l u =
        by_cases (dec_lt x (c * lane_count)) (p x l)
        (λ n. in_block (λ y. fits_at P row base y ≡ false) (λ w s a d. lane-fits w s a d ∙ t.none_fits refl w s a d) x (omega arith) u)

    -- The first lane that fits has the first guess that fits.
    pub block_found : {marks : List ℕ} (end : ℕ) → Tried P row outs (Some marks) → FoundBefore P row base end (Some marks)
    block_found {marks} end t =
        record {
          one_fits = λ found e. let is : marks ≡ found = cc in subst (λ (x : List ℕ). (length x ≡ max_facts narrow) × (g : ℕ) × (first_fit P row base ≡ some (guess_at row (sure_in P row base) g)) × Derived P row base g x) is ((t.one_fits marks refl).0, lane_guess c f.word f.lane, first, derived);
          none_fits = λ e. let z : ◌≡◌ {A = ℕ} 0 1 = cc in absurd (omega arith);
        }
      where
        f : LaneFound P row outs marks
        f = (t.one_fits marks refl).1

        earlier : (x : ℕ) → x < lane_guess c f.word f.lane → fits_at P row base x ≡ false
        earlier x l =
            by_cases (dec_lt x (c * lane_count)) (p x (omega arith))
            (λ n. in_block (λ y. y < lane_guess c f.word f.lane → fits_at P row base y ≡ false)
            (λ w s a d m. lane-fits w s a d ∙ f.none_before w s a d (omega arith)) x (omega arith) (omega (arith, f.word_inside, f.lane_inside)) l)

        first : first_fit P row base ≡ some (guess_at row (sure_in P row base) (lane_guess c f.word f.lane))
        first =
            hunt-first (fits P (in_force P)) row (sure_in P row base) (lane_guess c f.word f.lane)
            (lane-fits f.word f.lane f.word_inside f.lane_inside ∙ f.fits) earlier

        derived : Derived P row base (lane_guess c f.word f.lane) marks
        derived g l = f.derives g l ∙ ap (λ (S : FactSet). S g) (lane-derives f.word f.lane f.word_inside f.lane_inside)
