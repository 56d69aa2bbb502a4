-- The loop over the guesses: those before the one at hand do not fit, and what is stored refutes.
use Prim.Native.Nat.{ℕ, suc, ◌+◌, ◌*◌, ◌-◌, ◌%◌, ◌^◌, ◌<◌, ◌≤◌}
use native.Mathlib.Decide.{ℕ_discrete, dec_lt}
use native.Mathlib.Nat.{one-mul}
use native.Mathlib.Omega.{arith}
use mathlib.Core.Path.{◌≡◌, sym, subst, ◌∙◌}
use mathlib.Core.Bool.{Bool, true, false}
use mathlib.Core.List.{List}
use mathlib.Core.Logic.{by_cases}
use lib.Dec.{ltb}
use lib.ListN.{length, take, set, length-set}
use lib.Pow.{pow_mono, shl_exact}
use Rattle.std.specs.Prelude.{Option, Some, None}
use Rattle.theory.proofs.Lists.{element_below}
use Rattle.theory.specs.Rule.{all, Program, in_force}
use Rattle.theory.specs.Search.{fits}
use Rattle.theory.specs.Guesses.{fact_at}
use Rattle.theory.proofs.Guesses.{hunt-first, hunt-none, fits-where, fits-apart}
use Rattle.items.specs.Item.{narrow, max_facts, max_guessed}
use Rattle.nogoods.specs.declared.nogood.Nogood.{Nogood}
use Rattle.nogoods.specs.Nogoods.{guesses, most_kept, Passed, Refutes, Stored}
use Rattle.guessing.specs.Guessing.{Base, sure_in, fits_at, Derived, Conflict}
use Rattle.guessing.specs.Compared.{Compares}
use Rattle.guessing.specs.First.{Tells, Sought}
use Rattle.guessing.specs.Descended.{Descended}
use Rattle.guessing.specs.declared.first.First.TheVariants.{Fits, Nothing, Open}
use Rattle.guessing.proofs.BoundsStored.{one_stored}

-- Before one guess is tried.
pub record Trying (pass : ℕ → Bool) (nogoods : List Nogood) (kept guess : ℕ) : Type 0 where
  pub room : kept ≤ most_kept
  pub below : guess ≤ guesses
  pub places : length nogoods ≡ most_kept
  pub stored : Stored pass (take kept nogoods)
  pub passed : Passed pass 0 guess

-- how many guesses the code takes
pub end_of : (n : ℕ) → n ≤ max_guessed → (1 * 2 ^ n) % 4294967296 ≡ 2 ^ n
end_of n l = shl_exact {a = 1} 1 n 32 (omega arith) (omega arith) ∙ one-mul (2 ^ n)

pub end_below : (n : ℕ) → n ≤ max_guessed → 2 ^ n ≤ guesses
end_below n l = pow_mono {i = n} {j = 16} l

module _ {pass : ℕ → Bool} {nogoods : List Nogood} {kept guess : ℕ} (w : Trying pass nogoods kept guess) where
  pub go_on : (r : ℕ) → r ≤ guesses → Passed pass guess r → Trying pass nogoods kept r
  go_on r l p = record { room = w.room; below = l; places = w.places; stored = w.stored; passed = all-passed }
    where
      all-passed : Passed pass 0 r
      all-passed x a m = by_cases (dec_lt x guess) (λ q. w.passed x a q) (λ n. p x (omega arith) m)

  pub one_more : kept < most_kept → guess < guesses → pass guess ≡ false → (n : Nogood) → Refutes pass n.mask n.value → Trying pass (set nogoods kept n) (kept + 1) (guess + 1)
  one_more free l e n refutes =
      record {
        room = omega arith;
        below = omega arith;
        places = length-set nogoods kept n ∙ w.places;
        stored = one_stored nogoods kept n (omega (arith, w.places)) w.stored refutes;
        passed = λ x a q. by_cases (ℕ_discrete x guess) (λ is. subst (λ (g : ℕ). pass g ≡ false) (sym is) e) (λ ne. w.passed x a (omega arith));
      }

-- A guess whose marks are there already.
pub already_marked : {P : Program} {row base marks : List ℕ} {guess : ℕ} → guess < 2 ^ length row → Derived P row base guess marks → Descended P row base guess guess marks
already_marked l d = record { onward = omega arith; inside = l; passed = λ x a m. absurd (omega arith); derived = d }

module _ {P : Program} {R row base missing : List ℕ} (b : Base P R row base missing) where
  -- What the comparison with what a guess derives tells of the guess.
  pub tells : all (λ k. ltb k (max_facts narrow)) row ≡ true → (g : ℕ) (marks : List ℕ) → Derived P row base g marks → (r : Option ℕ) → Compares row g marks r → Tells P row base g r
  tells small g marks derived r c =
      record {
        same = λ e. fits-where P (in_force P) row (sure_in P row base) b.row_base.to_guess g (λ j l. sym (derived (fact_at row j) (below j l)) ∙ c.same e j l);
        apart = λ j e. let l : j < length row = (c.apart j e).0 in (l, sym (derived (fact_at row j) (below j l)) ∙ (c.apart j e).1);
      }
    where
      below : (j : ℕ) → j < length row → fact_at row j < max_facts narrow
      below j l = element_below (max_facts narrow) row (length row - suc j) small (omega arith)

  -- A guess fits, and none before it.
  pub fits-first : {g : ℕ} → Passed (fits_at P row base) 0 g → (marks : List ℕ) (r : Option ℕ) → Tells P row base g r → r ≡ None → Derived P row base g marks → Sought P row base Fits marks
  fits-first {g} passed marks r t same d =
      record {
        found = λ _. (g, hunt-first (fits P (in_force P)) row (sure_in P row base) g (t.same same) (λ x m. passed x (omega arith) m), d);
        none_fits = λ e. absurd (let z : ◌≡◌ {A = ℕ} 0 1 = cc in omega arith);
        left = λ n e. absurd (let z : ◌≡◌ {A = ℕ} 0 1 = cc in omega arith);
      }

  module _ {nogoods : List Nogood} {kept g : ℕ} (w : Trying (fits_at P row base) nogoods kept g) where
    -- No guess is left.
    pub ends : (marks : List ℕ) → (1 * 2 ^ length row) % 4294967296 ≤ g → Sought P row base Nothing marks
    ends marks l =
        record {
          found = λ e. absurd (let z : ◌≡◌ {A = ℕ} 0 1 = cc in omega arith);
          none_fits = λ _. hunt-none (fits P (in_force P)) row (sure_in P row base) (λ x m. w.passed x (omega arith) (omega (arith, end_of (length row) b.row_base.few)));
          left = λ n e. absurd (let z : ◌≡◌ {A = ℕ} 0 1 = cc in omega arith);
        }

    -- It does not, and there is no room for a nogood more.
    pub leaves : (marks : List ℕ) → Sought P row base (Open g) marks
    leaves marks =
        record {
          found = λ e. absurd (let z : ◌≡◌ {A = ℕ} 0 1 = cc in omega arith);
          none_fits = λ e. absurd (let z : ◌≡◌ {A = ℕ} 0 1 = cc in omega arith);
          left = λ n e. let is : g ≡ n = cc in subst (λ (m : ℕ). (m ≤ guesses) × Passed (fits_at P row base) 0 m) is (w.below, w.passed);
        }

  -- A place at which a guess is apart is a conflict, ..
  pub conflict : {g j : ℕ} → g < (1 * 2 ^ length row) % 4294967296 → (r : Option ℕ) → Tells P row base g r → r ≡ Some j → Conflict P row base g j
  conflict {g} {j} l r t e =
      record {
        small = omega (arith, end_of (length row) b.row_base.few, end_below (length row) b.row_base.few);
        inside = (t.apart j e).0;
        apart = (t.apart j e).1;
      }

  -- .. so that the guess does not fit.
  pub fits_not : {g j : ℕ} → Conflict P row base g j → fits_at P row base g ≡ false
  fits_not {g} {j} c = fits-apart P (in_force P) row (sure_in P row base) b.row_base.to_guess g j c.inside c.apart
