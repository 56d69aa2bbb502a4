-- Looking at a rule: what is found along its premises, or along its constraints.
use Prim.Native.Nat.{ℕ, suc, ◌+◌, ◌<◌, ◌≤◌}
use mathlib.Core.Path.{◌≡◌, refl, sym, ap, ◌∙◌}
use mathlib.Core.Bool.{Bool, true, false, cond}
use mathlib.Core.List.{List, [], ◌∷◌, reverse}
use mathlib.Core.Logic.{inl, inr, ⊎_elim}
use native.Mathlib.Omega.{arith}
use borrow.Author.Tests.{eqb-true, eqb-false}
use lib.Dec.{eqb, ltb}
use lib.ListN.{length, get_or}
use Rattle.std.specs.Prelude.{Ok}
use Rattle.theory.specs.Rule.{all, mem, Program, in_force, count, rule}
use Rattle.theory.specs.Places.{rank_in}
use Rattle.theory.proofs.Bools.{either, never}
use Rattle.theory.proofs.Lists.{mem-cases, get_or-mem, element_below}
use Rattle.items.specs.Item.{narrow, max_facts}
use Rattle.tables.specs.Ranking.{RanksSoFar}
use Rattle.tables.proofs.PartsHeld.{mem-reverse, mem-reversed, all-reverse}
use Rattle.components.specs.declared.look.Look.TheVariants.{Seen}
use Rattle.components.specs.Open.{unmet, closed, nowhere, seen_of}
use Rattle.components.specs.Look.{body_part, Noted, PremisePlace, Asked, PartFinds}

-- A fact is a premise, or a constraint, of rule i.
pub record Element (P : Program) (i : ℕ) (barring : Bool) (f : ℕ) : Type 0 where
  pub names : mem f (body_part P i barring) ≡ true
  pub known : f < P.facts

-- A list has the premises, or the constraints, of rule i.
pub record Owned (P : Program) (i : ℕ) (barring : Bool) (own : List ℕ) : Type 0 where
  pub same : (g : ℕ) → mem g own ≡ mem g (body_part P i barring)
  pub below : all (λ f. ltb f P.facts) own ≡ true

pub premises-owned : (P : Program) (i : ℕ) {own : List ℕ} → own ≡ (rule P i).premises → all (λ f. ltb f P.facts) own ≡ true → Owned P i false own
premises-owned P i e below = record { same = λ g. ap (mem g) e; below = below }

pub constraints-owned : (P : Program) (i : ℕ) {own : List ℕ} → own ≡ reverse (rule P i).constraints → all (λ f. ltb f P.facts) own ≡ true → Owned P i true own
constraints-owned P i e below = record { same = mem-reversed (rule P i).constraints e; below = below }

-- .. and so has it in the order of the file
pub constraints-owned_back : (P : Program) (i : ℕ) (own : List ℕ) → own ≡ reverse (rule P i).constraints → all (λ f. ltb f P.facts) own ≡ true → Owned P i true (reverse own)
constraints-owned_back P i own e below =
    record { same = λ g. mem-reverse g own ∙ mem-reversed (rule P i).constraints e g; below = all-reverse (λ f. ltb f P.facts) own ∙ below }

-- what stands in the list is one
pub element : {P : Program} {i : ℕ} {barring : Bool} {own : List ℕ} → Owned P i barring own → (j : ℕ) → j < length own → (f : ℕ) → f ≡ get_or own j 0 → Element P i barring f
element {own = own} s j h f e = rw e (record { names = sym (s.same (get_or own j 0)) ∙ get_or-mem own j h; known = element_below _ own j s.below h })

-- what is in a list stands at some place of it
place_of : (g : ℕ) (own : List ℕ) → mem g own ≡ true → (j : ℕ) × ((j < length own) × (g ≡ get_or own j 0))
place_of g [] m = never m refl
place_of g (x ∷ xs) m =
    ⊎_elim
    (λ e. (0, (omega arith, e)))
    (λ e. let (j, (high, is)) = place_of g xs e in (suc j, (omega arith, is)))
    (mem-cases g x xs m)

-- A fact that is closed was met and is not open.
pub closed-noted : {barring : Bool} {seen : List ℕ} {low g : ℕ} → seen_of seen g ≡ closed → Noted barring seen low g
closed-noted e = record { met = λ u. omega arith; not_before = λ l. absurd (omega arith) }

-- .. nor is one that has no place and was met
pub placeless_noted : {barring : Bool} {seen : List ℕ} {low g : ℕ} → (seen_of seen g ≡ unmet → ⊥) → max_facts narrow ≤ seen_of seen g → Noted barring seen low g
placeless_noted met no_place = record { met = met; not_before = λ l. absurd (omega arith) }

-- an open premise
pub open_noted : {seen : List ℕ} {low g : ℕ} → low ≤ seen_of seen g → seen_of seen g < max_facts narrow → Noted false seen low g
open_noted up small = record { met = λ u. omega arith; not_before = λ l. (refl, up) }

-- A walk along a list: what was found so far holds for every rule in force whose premises, or constraints, stand there.
pub record Looking (P : Program) (barring : Bool) (own seen ranks : List ℕ) (j low high : ℕ) : Type 0 where
  pub finds : (i : ℕ) → i < count P → in_force P i ≡ true → Owned P i barring own → PremisePlace P i seen low × Asked P i seen ranks high
  pub passed : (k : ℕ) → k < j → Noted barring seen low (get_or own k 0) × (rank_in ranks (get_or own k 0) + cond barring 1 0 ≤ high)

pub nothing-found : (P : Program) (barring : Bool) (own seen ranks : List ℕ) → Looking P barring own seen ranks 0 nowhere 0
nothing-found P barring own seen ranks =
    record {
      finds = λ i h on s. (inl refl, record { under = λ rank r. omega arith; bounded = λ b most less. omega arith });
      passed = λ k high. absurd (omega arith);
    }

module _ {P : Program} {barring : Bool} {own seen ranks : List ℕ} {j low high : ℕ} (w : Looking P barring own seen ranks j low high) where
  -- One more is passed, and asks for no more than was found.
  pub no-more_found : (f : ℕ) → f ≡ get_or own j 0 → Noted barring seen low f → rank_in ranks f + cond barring 1 0 ≤ high → Looking P barring own seen ranks (j + 1) low high
  no-more_found f e noted asks =
      record {
        finds = w.finds;
        passed = λ k h. ⊎_elim (λ q. let same : k ≡ j = eqb-true k j q in rw (same, ← e) (noted, asks)) (λ q. let other : k ≡ j → ⊥ = eqb-false k j q in w.passed k (omega arith)) (either (eqb k j));
      }

  -- At the end all were passed.
  pub all_found : length own ≤ j → (i : ℕ) → i < count P → in_force P i ≡ true → Owned P i barring own → PartFinds P i barring seen ranks (Ok (Seen low high))
  all_found h i k on s = (w.finds i k on s, λ g m. let (a, (l, is)) = place_of g own (s.same g ∙ m) in rw is (w.passed a (omega arith)))

  -- A higher rank that is asked for counts from now on.
  higher-found : (more : ℕ) → high ≤ more → ((i : ℕ) → i < count P → in_force P i ≡ true → Owned P i barring own → Asked P i seen ranks more) → Looking P barring own seen ranks j low more
  higher-found more up asked =
      record {
        finds = λ i k on s. ((w.finds i k on s).0, asked i k on s);
        passed = λ k h. ((w.passed k h).0, omega (arith, (w.passed k h).1));
      }

module _ {P : Program} {own seen ranks : List ℕ} {j low high : ℕ} (w : Looking P false own seen ranks j low high) (h : j < length own) (f : ℕ) (e : f ≡ get_or own j 0) where
  -- the place of an open premise
  pub place_found : seen_of seen f < max_facts narrow → seen_of seen f < low → Looking P false own seen ranks j (seen_of seen f) high
  place_found small lower =
      record {
        finds = λ i k on s. let here = element s j h f e in (inr (f, (here.names, (here.known, (refl, small)))), (w.finds i k on s).1);
        passed = λ k u. let (noted, asks) = w.passed k u in (record { met = noted.met; not_before = λ is_open. (refl, omega (arith, (noted.not_before is_open).1)) }, asks);
      }

  -- the conclusion has at least the rank of a premise
  pub rank_found : RanksSoFar P ranks → Noted false seen low f → high < rank_in ranks f → Looking P false own seen ranks (j + 1) low (rank_in ranks f)
  rank_found r noted more =
      no-more_found
      (higher-found w (rank_in ranks f) (omega arith)
      (λ i k on s. record {
        under = λ rank t. omega (arith, r.under rank t f, t.not_below i k on f (element s j h f e).names);
        bounded = λ b most less. most f;
      }))
      f e noted (omega arith)

-- .. and one above that of a constraint
pub above_found : {P : Program} {own seen ranks : List ℕ} {j low high : ℕ} → Looking P true own seen ranks j low high → j < length own → (f : ℕ) → f ≡ get_or own j 0 → RanksSoFar P ranks → Noted true seen low f → high < rank_in ranks f + 1 → Looking P true own seen ranks (j + 1) low (rank_in ranks f + 1)
above_found {P} {own} {seen} {ranks} {j} w h f e r noted more =
    no-more_found
    (higher-found w (rank_in ranks f + 1) (omega arith)
    (λ i k on s. let here = element s j h f e in record {
      under = λ rank t. omega (arith, r.under rank t f, t.above i k on f here.names);
      bounded = λ b most less. omega (arith, less f here.known noted.met (λ l. never refl (noted.not_before l).0));
    }))
    f e noted (omega arith)
