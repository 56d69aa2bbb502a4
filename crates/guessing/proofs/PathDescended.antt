-- The way down to a guess: the places from the highest on are decided, and the others stand as in.
use Prim.Native.Nat.{ℕ, zero, suc, ◌+◌, ◌*◌, ◌-◌, ◌%◌, ◌^◌, ◌<◌, ◌≤◌}
use native.Mathlib.Decide.{dec_lt, ℕ_discrete}
use native.Mathlib.Nat.{mod-eq_of_lt, one-mul, pow-suc}
use native.Mathlib.Numerals.{add-one}
use native.Mathlib.Omega.{arith}
use mathlib.Core.Path.{◌≡◌, refl, sym, ap, subst, ◌∙◌}
use mathlib.Core.Bool.{Bool, true, false, not, ◌||◌}
use mathlib.Core.List.{List, [], ◌∷◌}
use mathlib.Core.Logic.{by_cases}
use borrow.Author.Tests.{eq-eqb, ne_eqb}
use lib.Dec.{eqb}
use lib.ListN.{length, get_or, take, drop}
use lib.Pow.{pow_pos, shl_exact}
use Rattle.theory.specs.Rule.{mem, Program, in_force}
use Rattle.theory.specs.Conditions.{Bounded}
use Rattle.theory.specs.Search.{guessed}
use Rattle.theory.specs.Guesses.{bit, fact_at, guess_at}
use Rattle.theory.proofs.Bools.{never, or-none, or_right}
use Rattle.theory.proofs.Stable.{least_anti}
use Rattle.theory.proofs.Guesses.{guess_off, guess-at, fact-in, fact-once, bit-of, guess_mono, fits-apart}
use Rattle.items.specs.Item.{narrow, max_facts, max_guessed, has}
use Rattle.index.specs.Literal.{outside}
use Rattle.index.specs.Cells.{on_in}
use Rattle.propagation.specs.State.{Settled, HeldToo}
use Rattle.guessing.specs.Guessing.{sure_in, Base, derived_by, fits_at, Derived}
use Rattle.guessing.specs.Descended.{Descended}
use Rattle.guessing.proofs.GuessDerived.{settled_set}
use Rattle.guessing.proofs.PathBits.{low_set, enough, top_in, top_out, bit-out, others_out, lacks-here, within}

-- the number of guesses over a row, as the code shifts it
pub guesses-shifted : (n : ℕ) → n ≤ max_guessed → 1 * 2 ^ n % 4294967296 ≡ 2 ^ n
guesses-shifted n l = shl_exact {a = 1} 1 n 32 (omega arith) (omega arith) ∙ one-mul (2 ^ n)

-- the element at a place alone
pub one_of : (row : List ℕ) (n : ℕ) → n < length row → drop n (take (n + 1) row) ≡ get_or row n 0 ∷ []
one_of row n l = ap (λ (m : ℕ). drop n (take m row)) (add-one n) ∙ go row n l
  where
    go : (xs : List ℕ) (k : ℕ) → k < length xs → drop k (take (suc k) xs) ≡ get_or xs k 0 ∷ []
    go [] k h = absurd (omega arith)
    go (x ∷ xs) zero h = refl
    go (x ∷ xs) (suc k) h = go xs k (omega arith)

-- Before the place n of the row: the guess has all the places that are not decided, nothing is lost before it, and the marks hold out what it leaves out.
pub record Descending (P : Program) (R row base : List ℕ) (from n guess : ℕ) (marks left : List ℕ) : Type 0 where
  pub inside : n ≤ length row
  pub undecided_in : guess % 2 ^ (length row - n) ≡ 2 ^ (length row - n) - 1
  pub small : guess < 2 ^ length row
  pub onward : from ≤ guess
  pub passed : (y : ℕ) → from ≤ y → y + 2 ^ (length row - n) ≤ guess → fits_at P row base y ≡ false
  pub settled : Settled P (on_in R) marks left
  pub in-row : (j : ℕ) → j < length row → has marks (outside (fact_at row j)) ≡ not (bit guess j)
  pub beside : (k : ℕ) → mem k row ≡ false → has marks (outside k) ≡ has base (outside k)

module _ {P : Program} (bounded : Bounded P) {R row base missing : List ℕ} (b : Base P R row base missing) {from : ℕ} where
  -- At first every place is in, and nothing is held out.
  pub none_decided : from < 2 ^ length row → Descending P R row base from 0 (2 ^ length row - 1) base missing
  none_decided l =
      let p : 0 < 2 ^ length row = pow_pos (length row) in
      let z : length row ≡ length row - 0 = omega arith in
      record {
        inside = omega arith;
        undecided_in = subst (λ (k : ℕ). (2 ^ length row - 1) % 2 ^ k ≡ 2 ^ k - 1) z (mod-eq_of_lt (omega arith));
        small = omega arith;
        onward = omega arith;
        passed = λ y h m. let u : y + 2 ^ length row ≤ 2 ^ length row - 1 = subst (λ (k : ℕ). y + 2 ^ k ≤ 2 ^ length row - 1) (sym z) m in absurd (omega arith);
        settled = b.settled;
        in-row = λ j h. b.row_base.undecided (fact_at row j) (fact-in row j h) ∙ sym (ap not (low_set (length row) (2 ^ length row - 1) j (mod-eq_of_lt (omega (arith, pow_pos (length row)))) h));
        beside = λ k m. refl;
      }

  module _ {n guess : ℕ} {marks left : List ℕ} (w : Descending P R row base from n guess marks left) where
    -- The marks show what the guess derives.
    pub guess_shown : Derived P row base guess marks
    guess_shown = settled_set P bounded R marks left (guess_at row (sure_in P row base) guess) b.in-force w.settled agree
      where
        agree : (k : ℕ) → mem k (guessed P (in_force P)) ≡ true → not (has marks (outside k)) ≡ guess_at row (sure_in P row base) guess k
        agree k m = go (mem k row) refl
          where
            twice : (x : Bool) → not (not x) ≡ x
            twice true = refl
            twice false = refl

            go : (x : Bool) → mem k row ≡ x → not (has marks (outside k)) ≡ guess_at row (sure_in P row base) guess k
            go true e =
                let j : (j : ℕ) × (j < length row) × (fact_at row j ≡ k) = bit-of row k e in
                ap (λ (f : ℕ). not (has marks (outside f))) (sym j.2)
                ∙ ap not (w.in-row j.0 j.1)
                ∙ twice (bit guess j.0)
                ∙ sym (guess-at row (sure_in P row base) guess j.0 b.row_base.to_guess.once b.row_base.to_guess.free j.1)
                ∙ ap (guess_at row (sure_in P row base) guess) j.2
            go false e =
                ap not (w.beside k e)
                ∙ sym (rw (m, e) refl)
                ∙ sym (guess_off row (sure_in P row base) guess k e)

    pub all-decided : length row ≤ n → Descended P row base from guess marks
    all-decided l =
        let z : length row - n ≡ 0 = omega arith in
        record {
          onward = w.onward;
          inside = w.small;
          passed = λ y h m. w.passed y h (subst (λ (k : ℕ). y + 2 ^ k ≤ guess) (sym z) (omega arith));
          derived = guess_shown;
        }

    -- The next place.
    module _ (l : n < length row) where
      abbrev q : ℕ
      q = length row - (n + 1)

      open_places : length row - n ≡ suc q
      open_places = omega arith

      top : guess % 2 ^ suc q ≡ 2 ^ suc q - 1
      top = subst (λ (k : ℕ). guess % 2 ^ k ≡ 2 ^ k - 1) open_places w.undecided_in

      earlier : (y : ℕ) → from ≤ y → y + 2 ^ suc q ≤ guess → fits_at P row base y ≡ false
      earlier y h m = w.passed y h (subst (λ (k : ℕ). y + 2 ^ k ≤ guess) (sym open_places) m)

      next-fact : get_or row n 0 ≡ fact_at row q
      next-fact = let e : length row - suc q ≡ n = omega arith in ap (λ (k : ℕ). get_or row k 0) (sym e)

      pub next-enough : 2 ^ q ≤ guess
      next-enough = enough q guess top

      stays_in : ((y : ℕ) → from ≤ y → y + 2 ^ q ≤ guess → guess < y + 2 ^ suc q → fits_at P row base y ≡ false) → Descending P R row base from (n + 1) guess marks left
      stays_in h =
          record {
            inside = omega arith;
            undecided_in = top_in q guess top;
            small = w.small;
            onward = w.onward;
            passed = λ y f m. by_cases (dec_lt guess (y + 2 ^ suc q)) (λ u. h y f m u) (λ u. earlier y f (omega arith));
            settled = w.settled;
            in-row = w.in-row;
            beside = w.beside;
          }

      -- It is in where its fact is derived: a guess without it derives it too, ..
      pub derived_in : has marks (get_or row n 0) ≡ true → get_or row n 0 < max_facts narrow → Descending P R row base from (n + 1) guess marks left
      derived_in t s = stays_in (λ y f m u. refuted y m u)
        where
          refuted : (y : ℕ) → y + 2 ^ q ≤ guess → guess < y + 2 ^ suc q → fits_at P row base y ≡ false
          refuted y m u =
              let derived : derived_by P row base guess (fact_at row q) ≡ true = subst (λ (f : ℕ). derived_by P row base guess f ≡ true) next-fact (sym (guess_shown (get_or row n 0) s) ∙ t) in
              fits-apart P (in_force P) row (sure_in P row base) b.row_base.to_guess y q (omega arith)
              (least_anti P (in_force P) (guess_at row (sure_in P row base) y) (guess_at row (sure_in P row base) guess) (guess_mono row (sure_in P row base) (sure_in P row base) y guess (λ f z. z) (λ j h. within q guess top y m u j)) (fact_at row q) derived
              ∙ sym (ap not (lacks-here q guess top y m u)))

      -- .. or where a guess without it would come before; ..
      pub due_in : guess - 2 ^ q < from → Descending P R row base from (n + 1) guess marks left
      due_in d = stays_in (λ y f m u. absurd (omega arith))

      -- .. else it is held out.
      pub held_out : from ≤ guess - 2 ^ q → (marks' left' : List ℕ) → Settled P (on_in R) marks' left' → HeldToo marks (drop n (take (n + 1) row)) marks' → Descending P R row base from (n + 1) (guess - 2 ^ q) marks' left'
      held_out d marks' left' s held =
          record {
            inside = omega arith;
            undecided_in = top_out q guess top;
            small = let g : guess < 2 ^ length row = w.small in omega arith;
            onward = d;
            passed = λ y f m. earlier y f (let e : 2 ^ suc q ≡ 2 ^ q * 2 = pow-suc 2 q in let g : 2 ^ q ≤ guess = next-enough in omega arith);
            settled = s;
            in-row = in_row';
            beside = λ k m. also k ∙ ap (λ (x : Bool). has marks (outside k) || x) (ne_eqb k (fact_at row q) (λ e. never (subst (λ (f : ℕ). mem f row ≡ true) (sym e) (fact-in row q (omega arith))) m)) ∙ or-none (has marks (outside k)) ∙ w.beside k m;
          }
        where
          also : (k : ℕ) → has marks' (outside k) ≡ has marks (outside k) || eqb k (fact_at row q)
          also k =
              held k
              ∙ ap (λ (xs : List ℕ). has marks (outside k) || mem k xs) (one_of row n l ∙ ap (λ (f : ℕ). f ∷ []) next-fact)
              ∙ ap (λ (x : Bool). has marks (outside k) || x) (or-none (eqb k (fact_at row q)))

          apart : (j : ℕ) → j < length row → (j ≡ q → ⊥) → fact_at row j ≡ fact_at row q → ⊥
          apart j h ne e = ne (fact-once row j q b.row_base.to_guess.once h (omega arith) e)

          in_row' : (j : ℕ) → j < length row → has marks' (outside (fact_at row j)) ≡ not (bit (guess - 2 ^ q) j)
          in_row' j h = also (fact_at row j) ∙ by_cases (ℕ_discrete j q) same other
            where
              same : j ≡ q → has marks (outside (fact_at row j)) || eqb (fact_at row j) (fact_at row q) ≡ not (bit (guess - 2 ^ q) j)
              same e =
                  or_right (has marks (outside (fact_at row j))) (eqb (fact_at row j) (fact_at row q)) (eq-eqb _ _ (ap (fact_at row) e))
                  ∙ sym (ap not (ap (bit (guess - 2 ^ q)) e ∙ bit-out q guess top))

              other : (j ≡ q → ⊥) → has marks (outside (fact_at row j)) || eqb (fact_at row j) (fact_at row q) ≡ not (bit (guess - 2 ^ q) j)
              other ne =
                  ap (λ (x : Bool). has marks (outside (fact_at row j)) || x) (ne_eqb (fact_at row j) (fact_at row q) (apart j h ne))
                  ∙ or-none (has marks (outside (fact_at row j)))
                  ∙ w.in-row j h
                  ∙ ap not (sym (others_out q guess top j ne))
