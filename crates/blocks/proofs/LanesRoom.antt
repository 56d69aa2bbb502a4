-- Why settling ends: each rule that is looked at leaves fewer places that wait, or derives something new in some lane, of which there is an end.
use Prim.Native.Nat.{ℕ, suc, ◌+◌, ◌*◌, ◌-◌, ◌<◌, ◌≤◌}
use native.Mathlib.Nat.{mul-le-mul_right, suc-mul}
use native.Mathlib.Omega.{arith}
use mathlib.Core.Path.{◌≡◌, ap}
use mathlib.Core.Bool.{Bool, true, false}
use mathlib.Core.List.{List, [], ◌∷◌}
use mathlib.Core.Logic.{◌⊎◌, inl, inr, ⊎_elim}
use borrow.Author.Tests.{ltb-true, ltb-false}
use lib.Dec.{ltb}
use lib.ListN.{length, get_or, get_or-eq_default}
use Rattle.theory.specs.Rule.{Program}
use Rattle.theory.proofs.Bools.{either}
use Rattle.bits.specs.Flags.{word_bits, row_words, total, Flags, word}
use Rattle.bits.proofs.WordBits.{word_fits}
use Rattle.premises.specs.Premises.{Places}
use Rattle.lanes.specs.Lanes.{lane_cells, Fit}
use Rattle.blocks.specs.Settling.{Stepped}

-- more than any word, than all words of a row, and than all words of the facts
abbrev word_most : ℕ
word_most = 18446744073709551616

abbrev row_most : ℕ
row_most = row_words * word_most

abbrev lanes_most : ℕ
lanes_most = lane_cells * word_most

total-fits : (xs : List ℕ) → Fit xs → total xs ≤ length xs * word_most
total-fits [] f = omega arith
total-fits (x ∷ xs) f =
    let r : total xs ≤ length xs * word_most = total-fits xs (λ i. f (suc i)) in
    let l : x < word_most = f 0 in
    omega arith

flags_fit : {p : ℕ → Bool} {row : List ℕ} → Flags p row → Fit row
flags_fit {p} {row} f i = ⊎_elim inside past (either (ltb i row_words))
  where
    inside : ltb i row_words ≡ true → get_or row i 0 < word_most
    inside q =
        let e : get_or row i 0 ≡ word p (i * word_bits) word_bits = f.words i (ltb-true i row_words q) in
        let l : word p (i * word_bits) word_bits < word_most = word_fits p (i * word_bits) word_bits in
        omega arith

    past : ltb i row_words ≡ false → get_or row i 0 < word_most
    past q =
        let h : row_words ≤ i = ltb-false i row_words q in
        let z : get_or row i 0 ≡ 0 = get_or-eq_default row 0 (omega (arith, f.places)) in
        omega arith

-- a number falls whose high part falls, where the low part is within its bounds
high_falls : (a b h p q : ℕ) → a < b → q ≤ h → 0 < p → a * h + q < b * h + p
high_falls a b h p q l m n =
    let u : suc a * h ≤ b * h = mul-le-mul_right h l in
    let v : suc a * h ≡ a * h + h = suc-mul a h in
    omega arith

-- what can still be new in some lane, and then the places that wait
abbrev pub room_left : List ℕ → List ℕ → ℕ
room_left derived pending = (lanes_most - total derived) * row_most + total pending

pub room-less : {P : Program} {R : Places} {p : ℕ → Bool} {i : ℕ} {outs derived pending₁ derived' pending' : List ℕ} (pending : List ℕ) → Fit derived → total pending₁ < total pending → Stepped P R p i outs derived pending₁ derived' pending' → room_left derived' pending' < room_left derived pending
room-less {derived = derived} {pending₁ = pending₁} {derived' = derived'} {pending' = pending'} pending f l d = go d.forward
  where
    less : (t u most : ℕ) → t < u → u ≤ most → most - u < most - t
    less t u most l m = omega arith

    go : ((pending' ≡ pending₁) × (derived' ≡ derived)) ⊎ (total derived < total derived') → room_left derived' pending' < room_left derived pending
    go (inl q) =
        let a : total pending' ≡ total pending₁ = ap total q.0 in
        let b : total derived' ≡ total derived = ap total q.1 in
        let c : (lanes_most - total derived') * row_most ≡ (lanes_most - total derived) * row_most = ap (λ (n : ℕ). (lanes_most - n) * row_most) b in
        omega arith
    go (inr m) =
        let a : total derived' ≤ length derived' * word_most = total-fits derived' (d.fitting f) in
        let n : length derived' ≡ lane_cells = d.places in
        let b : total pending' ≤ length pending' * word_most = total-fits pending' (flags_fit d.flags) in
        let k : length pending' ≡ row_words = d.flags.places in
        high_falls (lanes_most - total derived') (lanes_most - total derived) row_most (total pending) (total pending') (less (total derived) (total derived') lanes_most m (rw n at a)) (rw k at b) (omega arith)
