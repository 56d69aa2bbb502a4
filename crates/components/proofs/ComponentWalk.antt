-- The walk along dependencies: what the fact that is looked at says of all open facts, when components are merged, and where a cycle is met.
use Prim.Native.Nat.{ℕ, ◌≤◌, ◌<◌}
use native.Mathlib.Omega.{arith}
use mathlib.Core.Path.{◌≡◌, sym, subst}
use mathlib.Core.Bool.{Bool, true, false}
use mathlib.Core.List.{List}
use mathlib.Core.Logic.{◌⊎◌, inl, inr, ⊎_elim}
use borrow.Author.Tests.{leb-true, leb-false}
use lib.Dec.{leb}
use Rattle.theory.specs.Rule.{mem, Program, in_force, count, rule}
use Rattle.theory.specs.Layers.{Cycle}
use Rattle.theory.proofs.Bools.{either}
use Rattle.items.specs.Item.{narrow, max_facts}
use Rattle.std.specs.Prelude.{Err}
use Rattle.components.specs.declared.look.Cyclic.{Cyclic}
use Rattle.components.specs.Open.{Reaches, ReachesBarred, nowhere, seen_of, fact_at, opener_at, root_place, Walking, Current, MayOpen, Gone, Merges}
use Rattle.components.specs.Look.{body_part}
use Rattle.components.proofs.Reaching.{one_link, barring_link, reaches_join, then_barred, round}

-- No root is behind the fact that is looked at, so where fewer roots are left none is.
pub current_fewer : (roots : List ℕ) (n m left at : ℕ) → left ≤ m → Current roots n m at → Current roots n left at
current_fewer roots n m left at few here = record { inside = here.inside; no_root_behind = λ t l. here.no_root_behind t (omega arith) }

-- It can be left for the fact that opened it, where all roots that stay are before it: none of them stands between the two.
pub left-for_opener : {P : Program} {seen stack roots : List ℕ} {n m at : ℕ} (k left : ℕ) → Walking P seen stack roots n m → 0 < at → at < n → at ≤ k → left ≤ m → ((t : ℕ) → t < left → root_place roots t < at) → Current roots k left (opener_at stack at)
left-for_opener {at = at} k left w some-before inside up few before =
    record { inside = omega (arith, w.opener_earlier at some-before inside); no_root_behind = λ t l. w.opener_rooted at t some-before inside (omega arith) (before t l) }

module _ {P : Program} {seen stack roots : List ℕ} {n m at : ℕ} (w : Walking P seen stack roots n m) (here : Current roots n m at) where
  -- every open fact depends on the one that is looked at
  to_current : (a : ℕ) → a < n → Reaches P (fact_at stack a) (fact_at stack at)
  to_current a l = w.reaches a at l here.inside (λ t u behind. absurd (omega (arith, here.no_root_behind t u)))

  module _ (i : ℕ) (known : i < count P) (on : in_force P i ≡ true) (concludes : (rule P i).conclusion ≡ fact_at stack at) where
    from-current : (g : ℕ) (barring : Bool) → mem g (body_part P i barring) ≡ true → Reaches P (fact_at stack at) g
    from-current g barring named = subst (λ f. Reaches P f g) concludes (one_link P i g barring known on named)

    barred-from_current : (g : ℕ) → mem g (rule P i).constraints ≡ true → ReachesBarred P (fact_at stack at) g
    barred-from_current g named = subst (λ f. ReachesBarred P f g) concludes (barring_link P i g known on named)

    -- So what a rule in force of that fact names may be opened.
    pub may_open : (g : ℕ) (barring : Bool) → mem g (body_part P i barring) ≡ true → MayOpen P stack n g barring
    may_open g barring named a l = (
      reaches_join P (fact_at stack a) (fact_at stack at) g (to_current a l) (from-current g barring named),
      λ by. then_barred P (fact_at stack a) (fact_at stack at) g (to_current a l) (barred-from_current g (subst (λ b. mem g (body_part P i b) ≡ true) by named)),
    )

    -- A constraint of it that is open closes a cycle.
    pub open_constraint_cycle : (k : ℕ) → mem k (rule P i).constraints ≡ true → k < P.facts → seen_of seen k < max_facts narrow → Cycle P (in_force P)
    open_constraint_cycle k named low is_open =
        let (l, there) = w.place_there k low is_open in
        round P (fact_at stack at) k (barred-from_current k named) (subst (λ f. Reaches P f (fact_at stack at)) there (to_current (seen_of seen k) l))

    -- A premise of it that is open, at the place low.
    module _ (g low : ℕ) (named : mem g (rule P i).premises ≡ true) (below : g < P.facts) (place : seen_of seen g ≡ low) (is_open : low < max_facts narrow) where
      low_inside : low < n
      low_inside = subst (λ c. c < n) place (w.place_there g below (rw place is_open)).0

      low_there : fact_at stack low ≡ g
      low_there = subst (λ c. fact_at stack c ≡ g) place (w.place_there g below (rw place is_open)).1

      back : Reaches P (fact_at stack at) (fact_at stack low)
      back = subst (λ f. Reaches P (fact_at stack at) f) (sym low_there) (from-current g false named)

      -- The roots behind that place go: the facts there depend on each other.
      pub merged : (left : ℕ) → Gone roots m low left → Walking P seen stack roots n left
      merged left gone =
          record {
            seen_places = w.seen_places;
            stack_places = w.stack_places;
            root_places = w.root_places;
            room = w.room;
            few = w.few;
            fact_there = w.fact_there;
            place_there = w.place_there;
            opener_earlier = w.opener_earlier;
            opener_rooted = λ a t h l u. w.opener_rooted a t h l (omega (arith, gone.0));
            first_root = first;
            root_inside = λ t l. w.root_inside t (omega (arith, gone.0));
            ascending = λ t u l h. w.ascending t u l (omega (arith, gone.0));
            reaches = λ a b la lb behind. ⊎_elim (λ e. over a b la lb behind (leb-true _ _ e)) (λ e. under a b la lb behind (leb-false _ _ e)) (either (leb low a));
            barred_root = λ t l. w.barred_root t (omega (arith, gone.0));
          }
        where
          first : 0 < n → (0 < left) × (root_place roots 0 ≡ 0)
          first h =
              let (some_root, is-first) = w.first_root h in
              ⊎_elim
              (λ e. (leb-true 1 left e, is-first))
              (λ e. let none : left < 1 = leb-false 1 left e in absurd (omega (arith, (gone.1 0 (omega arith) some_root).0, is-first)))
              (either (leb 1 left))

          -- a root behind b that stays is behind a; one that goes is behind low
          stays : (t : ℕ) → t < m → (t < left) ⊎ (low < root_place roots t)
          stays t l = ⊎_elim (λ e. inr (gone.1 t (leb-true _ _ e) l).0) (λ e. inl (leb-false _ _ e)) (either (leb left t))

          -- from a fact at the place or behind it: by the one that is looked at, and the place
          over : (a b : ℕ) → a < n → b < n → ((t : ℕ) → t < left → b < root_place roots t → a < root_place roots t) → low ≤ a → Reaches P (fact_at stack a) (fact_at stack b)
          over a b la lb behind h =
              reaches_join P (fact_at stack a) (fact_at stack low) (fact_at stack b)
              (reaches_join P (fact_at stack a) (fact_at stack at) (fact_at stack low) (to_current a la) back)
              (w.reaches low b low_inside lb (λ t l u. ⊎_elim (λ s. omega (arith, behind t s u)) (λ s. s) (stays t l)))

          -- from a fact before it: as before
          under : (a b : ℕ) → a < n → b < n → ((t : ℕ) → t < left → b < root_place roots t → a < root_place roots t) → a < low → Reaches P (fact_at stack a) (fact_at stack b)
          under a b la lb behind h = w.reaches a b la lb (λ t l u. ⊎_elim (λ s. behind t s u) (λ s. omega (arith, s)) (stays t l))

      -- Where one of the roots that would go was met by a constraint, a cycle is met.
      pub merge_cycle : (e : Cyclic) → Merges roots m low (Err e) → Cycle P (in_force P)
      merge_cycle e gone =
          let (t, (l, (behind, met))) = gone in
          round P (fact_at stack low) (fact_at stack (root_place roots t))
          (w.barred_root t l met low behind)
          (reaches_join P (fact_at stack (root_place roots t)) (fact_at stack at) (fact_at stack low) (to_current (root_place roots t) (w.root_inside t l).1) back)

-- Where no premise is open no root goes.
module _ {P : Program} {seen stack roots : List ℕ} {n m : ℕ} (w : Walking P seen stack roots n m) where
  none_behind : (t : ℕ) → t < m → nowhere < root_place roots t → ⊥
  none_behind t l h = absurd (omega (arith, (w.root_inside t l).1, w.room, w.few))

  pub none_merged : (left : ℕ) → Gone roots m nowhere left → Walking P seen stack roots n left
  none_merged left gone = subst (λ r. Walking P seen stack roots n r) all_left w
    where
      all_left : m ≡ left
      all_left =
          ⊎_elim
          (λ e. let h : m ≤ left = leb-true _ _ e in omega (arith, gone.0))
          (λ e. let h : left < m = leb-false _ _ e in absurd (none_behind left h (gone.1 left (omega arith) h).0))
          (either (leb m left))

  pub none_cycle : (e : Cyclic) → Merges roots m nowhere (Err e) → ⊥
  none_cycle e gone = none_behind gone.0 gone.1.0 gone.1.1.0
