-- Ranks by raising: what a rule asks, that no raise goes above any ranks, and that a program has ranks exactly where the raising ends; what it
-- ends at are then the least.
use Prim.Native.Nat.{ℕ, suc, ◌-◌, ◌*◌, ◌≤◌, ◌<◌}
use native.Mathlib.Omega.{arith}
use mathlib.Core.Path.{◌≡◌, refl, ap}
use mathlib.Core.Bool.{Bool, true, false, cond}
use mathlib.Core.List.{List, [], ◌∷◌}
use mathlib.Core.Logic.{⊎_elim}
use mathlib.Core.Option.{Option, none, some}
use borrow.Author.Tests.{eqb-true, ltb-true, ltb-false, leb-true, leb-false, not-true}
use lib.Dec.{eqb, ltb, leb}
use Rattle.theory.specs.Rule.{any, mem, up_to, how_many, Program, Mask, count, rule, constraint_fact}
use Rattle.theory.specs.Conditions.{Bounded}
use Rattle.theory.specs.Lists.{sum_of}
use Rattle.theory.specs.Layers.{Ranks, LeastRanks, Cycle, higher, highest, asks, lacking, raise, all_zero, lowest_lacking, ranks_of, is_layered}
use Rattle.theory.proofs.Bools.{never, and_left, and_right, and_both, not_of_false, false_of}
use Rattle.theory.proofs.Lists.{eqb-self, mem-here, mem-there, mem-cases, Found, seek-some, seek-none, any-witness, up_to-mem, mem-up_to, length-range}
use Rattle.theory.proofs.Counted.{counted_most, sum_less, sum_most}
use Rattle.theory.proofs.Cycles.{none_below, no-cycle, cycle_or_ranks}
use Rattle.theory.proofs.Walk as walk

-- The higher of two numbers.
higher-left : (a b : ℕ) → a ≤ higher a b
higher-left a b = go (leb a b) refl
  where
    go : (t : Bool) → leb a b ≡ t → a ≤ cond t b a
    go true e = leb-true a b e
    go false e = omega arith

higher-right : (a b : ℕ) → b ≤ higher a b
higher-right a b = go (leb a b) refl
  where
    go : (t : Bool) → leb a b ≡ t → b ≤ cond t b a
    go true e = omega arith
    go false e = let l : b < a = leb-false a b e in omega arith

higher-below : (a b n : ℕ) → a ≤ n → b ≤ n → higher a b ≤ n
higher-below a b n l u = go (leb a b)
  where
    go : (t : Bool) → cond t b a ≤ n
    go true = u
    go false = l

-- The highest of a list is above each, and below whatever is.
pub highest-above : (value : ℕ → ℕ) (fs : List ℕ) (f : ℕ) → mem f fs ≡ true → value f ≤ highest value fs
highest-above value [] f m = never m refl
highest-above value (g ∷ fs) f m =
    let here : value g ≤ higher (value g) (highest value fs) = higher-left _ _ in
    let rest : highest value fs ≤ higher (value g) (highest value fs) = higher-right _ _ in
    ⊎_elim
    (λ e. rw e here)
    (λ e. let u : value f ≤ highest value fs = highest-above value fs f e in omega arith)
    (mem-cases f g fs m)

pub highest-below : (value : ℕ → ℕ) (fs : List ℕ) (n : ℕ) → ((f : ℕ) → mem f fs ≡ true → value f ≤ n) → highest value fs ≤ n
highest-below value [] n h = omega arith
highest-below value (g ∷ fs) n h =
    higher-below _ _ n (h g (mem-here g fs)) (highest-below value fs n (λ f m. h f (mem-there f g fs m)))

-- A rule asks for the rank of each premise, for more than that of each constraint, and for no more than that.
module _ (P : Program) where
  pub asks-premise : (rank : ℕ → ℕ) (i f : ℕ) → mem f (rule P i).premises ≡ true → rank f ≤ asks P rank i
  unfolding asks
  asks-premise rank i f m =
      let l : rank f ≤ highest rank (rule P i).premises = highest-above rank (rule P i).premises f m in
      let u : highest rank (rule P i).premises ≤ asks P rank i = higher-left _ _ in
      omega arith

  pub asks-constraint : (rank : ℕ → ℕ) (i f : ℕ) → mem f (rule P i).constraints ≡ true → rank f < asks P rank i
  unfolding asks
  asks-constraint rank i f m =
      let l : suc (rank f) ≤ highest (λ k. suc (rank k)) (rule P i).constraints = highest-above (λ k. suc (rank k)) (rule P i).constraints f m in
      let u : highest (λ k. suc (rank k)) (rule P i).constraints ≤ asks P rank i = higher-right (highest rank (rule P i).premises) _ in
      omega arith

  pub asks-below : (rank : ℕ → ℕ) (i n : ℕ) → ((f : ℕ) → mem f (rule P i).premises ≡ true → rank f ≤ n) → ((f : ℕ) → mem f (rule P i).constraints ≡ true → rank f < n) → asks P rank i ≤ n
  unfolding asks
  asks-below rank i n p k = higher-below _ _ n (highest-below rank (rule P i).premises n p) (highest-below (λ f. suc (rank f)) (rule P i).constraints n k)

module _ (P : Program) (on : Mask) where
  -- a rule in force that does not lack has what it asks
  enough : (rank : ℕ → ℕ) (i : ℕ) → on i ≡ true → lacking P on rank i ≡ false → asks P rank i ≤ rank (rule P i).conclusion
  unfolding lacking
  enough rank i o n = ltb-false _ _ (false_of (ltb (rank (rule P i).conclusion) (asks P rank i)) (λ t. never (and_both o t) n))

  pub none_lacking : (rank : ℕ → ℕ) → ((i : ℕ) → i < count P → lacking P on rank i ≡ false) → Ranks P on rank
  none_lacking rank n =
      record {
        not_below = λ i l o f m. let a : asks P rank i ≤ rank (rule P i).conclusion = enough rank i o (n i l) in omega (arith, asks-premise P rank i f m);
        above = λ i l o f m. let a : asks P rank i ≤ rank (rule P i).conclusion = enough rank i o (n i l) in omega (arith, asks-constraint P rank i f m);
      }

  -- Below ranks, no rule asks for more than they give.
  pub under_asks : (rank other : ℕ → ℕ) → ((f : ℕ) → rank f ≤ other f) → Ranks P on other → (i : ℕ) → i < count P → on i ≡ true → asks P rank i ≤ other (rule P i).conclusion
  under_asks rank other under r i l o =
      asks-below P rank i (other (rule P i).conclusion)
      (λ f m. omega (arith, under f, r.not_below i l o f m))
      (λ f m. omega (arith, under f, r.above i l o f m))

  -- What is raised at a turn: the conclusion of a rule in force that asks for more.
  short : (rank : ℕ → ℕ) (i : ℕ) → lowest_lacking P on rank ≡ some i → (i < count P) × (on i ≡ true) × (rank (rule P i).conclusion < asks P rank i)
  unfolding lacking
  short rank i e =
      let found : Found (lacking P on rank) (up_to (count P)) i = seek-some _ _ i e in
      (mem-up_to (count P) i found.element, and_left _ _ found.passes, ltb-true _ _ (and_right (on i) _ found.passes))

  -- So a raise stays below any ranks, and leaves less up to them.
  module _ (other : ℕ → ℕ) (r : Ranks P on other) where
    abbrev Under : (ℕ → ℕ) → Type 0
    Under rank = (f : ℕ) → rank f ≤ other f

    raise-under : (rank : ℕ → ℕ) (i : ℕ) → Under rank → lowest_lacking P on rank ≡ some i → Under (raise P rank i)
    raise-under rank i under e f = go (eqb f (rule P i).conclusion) refl
      where
        go : (b : Bool) → eqb f (rule P i).conclusion ≡ b → cond b (asks P rank i) (rank f) ≤ other f
        go true q = let (l, o, _) = short rank i e in rw (eqb-true f (rule P i).conclusion q) (under_asks rank other under r i l o)
        go false q = under f

    pub ranks_under : Under (ranks_of P on)
    unfolding ranks_of
    ranks_under = walk.kept (lowest_lacking P on) (raise P) Under raise-under (suc P.facts * suc P.facts) all_zero (λ f. omega arith)

    abbrev room : (ℕ → ℕ) → ℕ
    room rank = sum_of (λ f. other f - rank f) (up_to (suc P.facts))

    raise-room : Bounded P → (rank : ℕ → ℕ) (i : ℕ) → Under rank → lowest_lacking P on rank ≡ some i → room (raise P rank i) < room rank
    raise-room b rank i under e =
        let (l, o, less) = short rank i e in
        let asked : asks P rank i ≤ other (rule P i).conclusion = under_asks rank other under r i l o in
        let risen : raise P rank i (rule P i).conclusion ≡ asks P rank i = ap (λ (t : Bool). cond t (asks P rank i) (rank (rule P i).conclusion)) (eqb-self (rule P i).conclusion) in
        sum_less (λ f. other f - raise P rank i f) (λ f. other f - rank f) (λ f. lower f (eqb f (rule P i).conclusion) refl less) (up_to (suc P.facts))
        (rule P i).conclusion (up_to-mem (suc P.facts) (rule P i).conclusion (omega (arith, b.conclusion_below i l))) (omega arith)
      where
        lower : (f : ℕ) (t : Bool) → eqb f (rule P i).conclusion ≡ t → rank (rule P i).conclusion < asks P rank i → other f - cond t (asks P rank i) (rank f) ≤ other f - rank f
        lower f true q less = rw (eqb-true f (rule P i).conclusion q) (omega arith)
        lower f false q less = omega arith

    -- There are turns enough where the ranks are at most the count of facts.
    ranks_end : Bounded P → ((f : ℕ) → other f ≤ P.facts) → ◌≡◌ {A = Option ℕ} (lowest_lacking P on (ranks_of P on)) none
    unfolding ranks_of
    ranks_end b few =
        walk.ends (lowest_lacking P on) (raise P) Under room (λ rank i under e. (raise-under rank i under e, raise-room b rank i under e)) (suc P.facts * suc P.facts) all_zero (λ f. omega arith) turns
      where
        turns : room all_zero ≤ suc P.facts * suc P.facts
        turns = rw (length-range 0 (suc P.facts)) at (sum_most (λ f. other f - 0) (suc P.facts) (λ f. omega (arith, few f)) (up_to (suc P.facts)))

  -- Where no rule lacks at the end, the ranks are the least. That is so where there are ranks at all, and that is where no cycle goes through a
  -- constraint.
  pub layered_least : is_layered P on ≡ true → LeastRanks P on (ranks_of P on)
  unfolding is_layered
  layered_least e =
      record { ranks = none_lacking (ranks_of P on) (none_below (lacking P on (ranks_of P on)) (count P) (not-true _ e)); least = ranks_under }

  pub ranks_layered : Bounded P → (rank : ℕ → ℕ) → Ranks P on rank → is_layered P on ≡ true
  unfolding is_layered
  ranks_layered b rank r =
      ⊎_elim
      (λ c. absurd (no-cycle P on rank r c))
      (λ t. not_of_false (false_of (any (lacking P on (ranks_of P on)) (up_to (count P))) (none_lacks (ranks_end t.0 t.1 b (λ f. omega (arith, t.2 f, counted_most (constraint_fact P on) P.facts))))))
      (cycle_or_ranks P on b)
    where
      none_lacks : ◌≡◌ {A = Option ℕ} (lowest_lacking P on (ranks_of P on)) none → any (lacking P on (ranks_of P on)) (up_to (count P)) ≡ true → ⊥
      none_lacks e t =
          let (i, m, q) = any-witness (lacking P on (ranks_of P on)) (up_to (count P)) t in
          never q (seek-none (lacking P on (ranks_of P on)) (up_to (count P)) e i m)

  pub unlayered_cycle : Bounded P → is_layered P on ≡ false → Cycle P on
  unlayered_cycle b e = ⊎_elim (λ c. c) (λ t. never (ranks_layered b t.0 t.1) e) (cycle_or_ranks P on b)

  pub cycle_unlayered : Cycle P on → is_layered P on ≡ false
  cycle_unlayered c = false_of (is_layered P on) (λ e. no-cycle P on (ranks_of P on) (layered_least e).ranks c)

  -- The least ranks are the same however they are found, and none is above the number of constraint facts.
  pub least_ranks_same : (rank other : ℕ → ℕ) → LeastRanks P on rank → LeastRanks P on other → (f : ℕ) → rank f ≡ other f
  least_ranks_same rank other l m f = omega (arith, l.least other m.ranks f, m.least rank l.ranks f)

  -- The rank of a fact is below the count of facts: no fact bars itself.
  pub least_below : Bounded P → (rank : ℕ → ℕ) → LeastRanks P on rank → (f : ℕ) → f < P.facts → rank f < P.facts
  least_below b rank l f h =
      ⊎_elim (λ c. absurd (no-cycle P on rank l.ranks c)) (λ t. omega (arith, l.least t.0 t.1 f, t.3 f h)) (cycle_or_ranks P on b)

  pub least_few : Bounded P → (rank : ℕ → ℕ) → LeastRanks P on rank → (f : ℕ) → rank f ≤ how_many (constraint_fact P on) (up_to P.facts)
  least_few b rank l f =
      ⊎_elim (λ c. absurd (no-cycle P on rank l.ranks c)) (λ t. omega (arith, l.least t.0 t.1 f, t.2 f)) (cycle_or_ranks P on b)
