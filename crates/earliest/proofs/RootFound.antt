-- The root of the search: nothing is held out, all constraint facts are guessed, and the first guess that fits gives the set that the search takes.
use Prim.Native.Nat.{ℕ, zero, suc, ◌<◌, ◌≤◌}
use native.Mathlib.Omega.{arith}
use mathlib.Core.Path.{◌≡◌, refl, sym, ap, subst, fun_ext, ◌∙◌}
use mathlib.Core.Bool.{Bool, true, false, cond, not, ◌&&◌}
use mathlib.Core.List.{List, [], ◌∷◌}
use mathlib.Core.Logic.{⊎_elim}
use mathlib.Core.Option.{Option, none, some}
use Rattle.std.specs.Prelude.{Some, None}
use Rattle.std.specs.Prelude as std
use borrow.Author.Tests.{ltb-true, ltb-false}
use lib.Dec.{ltb}
use lib.ListN.{length, replicate}
use Rattle.theory.specs.Rule.{mem, NoRepeat, keep, Program, FactSet, in_force, nothing, constraint_fact, count}
use Rattle.theory.specs.Conditions.{Bounded}
use Rattle.theory.specs.Lists.{down_from}
use Rattle.theory.specs.Search.{guessed, fits, hunt, search}
use Rattle.theory.specs.Guesses.{guess_at}
use Rattle.theory.proofs.Bools.{either, never, and_left, and-true, false_of, or-none}
use Rattle.theory.proofs.Lists.{mem-keep, mem-down_from}
use Rattle.theory.proofs.Stable.{least_of-least, least_within}
use Rattle.items.specs.Item.{narrow, max_facts, max_rules, max_guessed, has}
use Rattle.marking.proofs.MarksPainted.{unmarked, past_end}
use Rattle.index.specs.Literal.{outside, literals}
use Rattle.index.specs.Cells.{on_in}
use Rattle.index.specs.Index.{LeftOut}
use Rattle.propagation.specs.State.{HeldToo}
use Rattle.guessing.specs.Guessing.{sure_in, derived_by, Derived}
use Rattle.guessing.specs.First.{first_fit}
use Rattle.blocks.specs.Find.{Found}
use Rattle.earliest.specs.Root.{AtRoot, Shown, Kept}

down_once : (p : ℕ → Bool) (n : ℕ) → NoRepeat (keep p (down_from n))
down_once p zero = tt
down_once p (suc n) = go (p n) (down_once p n)
  where
    later : mem n (keep p (down_from n)) ≡ false
    later =
        false_of (mem n (keep p (down_from n)))
        (λ m. let t : n < n = mem-down_from n n (and_left (mem n (down_from n)) (p n) (rw (mem-keep p (down_from n) n) at m)) in absurd (omega arith))

    go : (b : Bool) → NoRepeat (keep p (down_from n)) → NoRepeat (cond b (n ∷ keep p (down_from n)) (keep p (down_from n)))
    go true r = (later, r)
    go false r = r

guessed-once : (P : Program) → NoRepeat (guessed P (in_force P))
unfolding guessed
guessed-once P = down_once (constraint_fact P (in_force P)) P.facts

-- What is sure beside the row: nothing.
module _ (P : Program) {row : List ℕ} (every : row ≡ guessed P (in_force P)) (base : List ℕ) where
  none_sure : (k : ℕ) → sure_in P row base k ≡ false
  none_sure k = ap (λ (ks : List ℕ). mem k (guessed P (in_force P)) && not (mem k ks) && not (has base (outside k))) every ∙ apart (mem k (guessed P (in_force P))) (has base (outside k))
    where
      apart : (a b : Bool) → a && not a && not b ≡ false
      apart true b = refl
      apart false b = refl

  pub root_base : length row ≤ max_guessed → ((k : ℕ) → has base (outside k) ≡ false) → AtRoot P row base
  root_base few none_held =
      record {
        every = every;
        none_held = none_held;
        row_base = record {
          few = few;
          undecided = λ k m. none_held k;
          to_guess = record {
            once = subst NoRepeat (sym every) (guessed-once P);
            free = λ k m. none_sure k;
            asked = λ k m. ap (mem k) (sym every) ∙ m;
            sure = λ x k m o. never m (ap (mem k) (sym every) ∙ o);
          };
        };
      }

  -- The first guess that fits is the one that the search takes.
  first-is : first_fit P row base ≡ hunt (fits P (in_force P)) (guessed P (in_force P)) nothing
  first-is =
      ap (λ (ks : List ℕ). hunt (fits P (in_force P)) ks (sure_in P row base)) every
      ∙ ap (hunt (fits P (in_force P)) (guessed P (in_force P))) (fun_ext none_sure)

  none_shown : ◌≡◌ {A = Option FactSet} (first_fit P row base) none → Shown (search P (in_force P)) None
  unfolding search
  none_shown e = let q : ◌≡◌ {A = Option FactSet} (hunt (fits P (in_force P)) (guessed P (in_force P)) nothing) none = sym first-is ∙ e in rw (q, search) refl

  one_shown : (found : List ℕ) (g : ℕ) → first_fit P row base ≡ some (guess_at row (sure_in P row base) g) → length found ≡ max_facts narrow → has found ≡ derived_by P row base g → Shown (search P (in_force P)) (Some found)
  unfolding search
  one_shown found g e l h = let q : hunt (fits P (in_force P)) (guessed P (in_force P)) nothing ≡ some (guess_at row (sure_in P row base) g) = sym first-is ∙ e in rw (q, search) (found, refl, l, h)

-- Bytes for the facts alone show a whole set.
bytes_show : {P : Program} → Bounded P → P.facts ≤ max_facts narrow → (row base found : List ℕ) (g : ℕ) → length found ≡ max_facts narrow → Derived P row base g found → has found ≡ derived_by P row base g
bytes_show {P} b few row base found g size d = fun_ext (λ f. ⊎_elim (λ t. d f (ltb-true f (max_facts narrow) t)) (past f) (either (ltb f (max_facts narrow))))
  where
    past : (f : ℕ) → ltb f (max_facts narrow) ≡ false → has found f ≡ derived_by P row base g f
    past f t =
        let l : max_facts narrow ≤ f = ltb-false f (max_facts narrow) t in
        past_end found f (omega (arith, size))
        ∙ sym (least_within P (in_force P) (guess_at row (sure_in P row base) g) (derived_by P row base g) b (least_of-least P (in_force P) (guess_at row (sure_in P row base) g)) f (omega (arith, few)))

-- every rule in force is in the index
pub all_in : (P : Program) (R : List ℕ) → LeftOut P (replicate max_rules 0) R → (i : ℕ) → i < count P → on_in R i ≡ in_force P i
all_in P R o i l = o i l ∙ ap (λ (b : Bool). in_force P i && not b) (ap (λ (g : ℕ → Bool). g i) (unmarked max_rules)) ∙ and-true (in_force P i)

-- nothing is held out
pub none_out : (before base : List ℕ) → before ≡ replicate literals 0 → HeldToo before [] base → (k : ℕ) → has base (outside k) ≡ false
none_out before base e h k =
    h k ∙ or-none (has before (outside k)) ∙ ap (λ (l : List ℕ). has l (outside k)) e ∙ ap (λ (g : ℕ → Bool). g (outside k)) (unmarked literals)

-- What the guesses find is what the search takes.
module _ {P : Program} (b : Bounded P) (few : P.facts ≤ max_facts narrow) {row base : List ℕ} (r : AtRoot P row base) where
  pub nothing-shown : ◌≡◌ {A = Option FactSet} (first_fit P row base) none → Shown (search P (in_force P)) None
  nothing-shown e = none_shown P r.every base e

  pub fits-shown : (marks found : List ℕ) → ((g : ℕ) × (first_fit P row base ≡ some (guess_at row (sure_in P row base) g)) × Derived P row base g marks) → Kept marks found → Shown (search P (in_force P)) (Some found)
  fits-shown marks found w k =
      one_shown P r.every base found w.0 w.1 k.places (bytes_show b few row base found w.0 k.places (λ f l. k.facts f l ∙ w.2 f l))

  pub found_shown : (answer : std.Option (List ℕ)) → Found P row base answer → Shown (search P (in_force P)) answer
  found_shown None f = nothing-shown (f.none_fits refl)
  found_shown (Some found) f = let w = f.one_fits found refl in one_shown P r.every base found w.1 w.2 w.0 (bytes_show b few row base found w.1 w.0 w.3)
