-- A fact that is opened: the last one of the stack, and a root.
use Prim.Native.Nat.{ℕ, ◌+◌, ◌-◌, ◌<◌, ◌≤◌}
use native.Mathlib.Omega.{arith}
use mathlib.Core.Path.{◌≡◌, refl, sym, ap, ◌∙◌}
use mathlib.Core.Bool.{Bool, true, false, cond, not}
use mathlib.Core.List.{List, []}
use mathlib.Core.Logic.{⊎_elim}
use borrow.Author.Tests.{eqb-true, eqb-false, eq-eqb, ne_eqb, lt-ltb, le-ltb, leb-true, leb-false}
use lib.ListN.{get_or, set, length-set}
use lib.Seq.{get_or-set_same, get_or-set_other}
use lib.Dec.{eqb, ltb, leb}
use Rattle.theory.specs.Rule.{Program}
use Rattle.theory.proofs.Bools.{either}
use Rattle.theory.proofs.Counted.{counted_less}
use Rattle.items.specs.Item.{narrow, max_facts}
use Rattle.components.specs.Open.{Reaches, ReachesBarred, unmet, seen_of, fact_at, opener_at, root_place, root_barred, unmet_count, Walking, Current, MayOpen, Opened}
use Rattle.components.proofs.StackCells.{stack_cell, cell_fact, cell_opener, same_fact, same_opener}

-- The cell of a root: its place, and so many more where it was met by a constraint.
abbrev pub root_cell : Bool → ℕ → ℕ
root_cell barring n = cond barring (n + max_facts narrow) n

-- The place of a root, and whether it was met by a constraint, as its cell tells them.
module _ (roots : List ℕ) (t : ℕ) where
  pub low_place : get_or roots t 0 < max_facts narrow → root_place roots t ≡ get_or roots t 0
  unfolding root_place
  low_place h = rw (lt-ltb (get_or roots t 0) (max_facts narrow) h) refl

  pub high_place : max_facts narrow ≤ get_or roots t 0 → root_place roots t ≡ get_or roots t 0 - max_facts narrow
  unfolding root_place
  high_place h = rw (le-ltb (get_or roots t 0) (max_facts narrow) h) refl

  low_open : get_or roots t 0 < max_facts narrow → root_barred roots t ≡ false
  unfolding root_barred
  low_open h = ap not (lt-ltb (get_or roots t 0) (max_facts narrow) h)

  high_barred : max_facts narrow ≤ get_or roots t 0 → root_barred roots t ≡ true
  unfolding root_barred
  high_barred h = ap not (le-ltb (get_or roots t 0) (max_facts narrow) h)

  pub barred-told : leb (max_facts narrow) (get_or roots t 0) ≡ root_barred roots t
  barred-told = ⊎_elim (λ e. e ∙ sym (high_barred (leb-true _ _ e))) (λ e. e ∙ sym (low_open (leb-false _ _ e))) (either (leb (max_facts narrow) (get_or roots t 0)))

  cell_told : (barring : Bool) (n : ℕ) → n < max_facts narrow → get_or roots t 0 ≡ root_cell barring n → (root_place roots t ≡ n) × (root_barred roots t ≡ barring)
  cell_told true n h e =
      let place : root_place roots t ≡ get_or roots t 0 - max_facts narrow = high_place (omega arith) in
      (omega arith, high_barred (omega arith))
  cell_told false n h e =
      let place : root_place roots t ≡ get_or roots t 0 = low_place (omega arith) in
      (omega arith, low_open (omega arith))

  -- a root whose cell stays as it is stays the same
  same_place : (roots' : List ℕ) → get_or roots' t 0 ≡ get_or roots t 0 → root_place roots' t ≡ root_place roots t
  unfolding root_place
  same_place roots' e = ap (λ (c : ℕ). cond (ltb c (max_facts narrow)) c (c - max_facts narrow)) e

  same_barred : (roots' : List ℕ) → get_or roots' t 0 ≡ get_or roots t 0 → root_barred roots' t ≡ root_barred roots t
  unfolding root_barred
  same_barred roots' e = ap (λ (c : ℕ). not (ltb c (max_facts narrow))) e

-- What is below one more than k is k, or below it.
last_or : {A : Type 0} (k x : ℕ) → x < k + 1 → (x ≡ k → A) → (x < k → A) → A
last_or k x h last before =
    ⊎_elim (λ e. last (eqb-true x k e)) (λ e. let other : x ≡ k → ⊥ = eqb-false x k e in before (omega arith)) (either (eqb x k))

-- The fact f was not met and may be opened, by the fact that is looked at: it gets the place n, and the root m stands there.
module _ {P : Program} {seen stack roots : List ℕ} {n m opener : ℕ} (w : Walking P seen stack roots n m) (small : n < max_facts narrow) (fewer : m ≤ n)
    (here : 0 < n → Current roots n m opener) (f : ℕ) (known : f < P.facts) (new : seen_of seen f ≡ unmet) (barring : Bool) (may : MayOpen P stack n f barring) where
  abbrev seen' : List ℕ
  seen' = set seen f n

  abbrev stack' : List ℕ
  stack' = set stack n (stack_cell f opener)

  abbrev roots' : List ℕ
  roots' = set roots m (root_cell barring n)

  -- What is new, and what stays as it was.
  new_seen : seen_of seen' f ≡ n
  new_seen = get_or-set_same seen f n 0 (omega (arith, w.seen_places, w.few))

  new_stack_cell : get_or stack' n 0 ≡ stack_cell f opener
  new_stack_cell = get_or-set_same stack n (stack_cell f opener) 0 (omega (arith, w.stack_places))

  new_fact : fact_at stack' n ≡ f
  new_fact = cell_fact stack' n f opener (omega (arith, w.few)) new_stack_cell

  new_opener : opener_at stack' n ≡ opener
  new_opener = cell_opener stack' n f opener (omega (arith, w.few)) new_stack_cell

  new_cell : (root_place roots' m ≡ n) × (root_barred roots' m ≡ barring)
  new_cell = cell_told roots' m barring n small (get_or-set_same roots m (root_cell barring n) 0 (omega (arith, w.root_places)))

  new_place : root_place roots' m ≡ n
  new_place = new_cell.0

  other_seen : (g : ℕ) → (g ≡ f → ⊥) → seen_of seen' g ≡ seen_of seen g
  other_seen g o = get_or-set_other seen f g n 0 o

  old_stack_cell : (a : ℕ) → a < n → get_or stack' a 0 ≡ get_or stack a 0
  old_stack_cell a h = get_or-set_other stack n a (stack_cell f opener) 0 (λ (e : a ≡ n). omega arith)

  old_fact : (a : ℕ) → a < n → fact_at stack' a ≡ fact_at stack a
  old_fact a h = same_fact stack a stack' (old_stack_cell a h)

  old_opener : (a : ℕ) → a < n → opener_at stack' a ≡ opener_at stack a
  old_opener a h = same_opener stack a stack' (old_stack_cell a h)

  old_place : (t : ℕ) → t < m → root_place roots' t ≡ root_place roots t
  old_place t h = same_place roots t roots' (get_or-set_other roots m t (root_cell barring n) 0 (λ (e : t ≡ m). omega arith))

  old_barred : (t : ℕ) → t < m → root_barred roots' t ≡ root_barred roots t
  old_barred t h = same_barred roots t roots' (get_or-set_other roots m t (root_cell barring n) 0 (λ (e : t ≡ m). omega arith))

  -- the new fact was at no place
  not_there : (a : ℕ) → a < n → fact_at stack a ≡ f → ⊥
  not_there a h e =
      let there : seen_of seen (fact_at stack a) ≡ a = (w.fact_there a h).1 in
      let nowhere : seen_of seen (fact_at stack a) ≡ unmet = ap (seen_of seen) e ∙ new in
      omega arith

  one_less : unmet_count P seen ≡ unmet_count P seen' + 1
  one_less =
      counted_less (λ g. eqb (seen_of seen g) unmet) (λ g. eqb (seen_of seen' g) unmet) P.facts f known
      (eq-eqb (seen_of seen f) unmet new)
      (ne_eqb (seen_of seen' f) unmet (λ (e : seen_of seen' f ≡ unmet). omega (arith, new_seen)))
      (λ g e. ap (λ (k : ℕ). eqb k unmet) (sym (other_seen g (λ q. eqb-false f g e (sym q)))))

  there_now : (a : ℕ) → a < n + 1 → (fact_at stack' a < P.facts) × (seen_of seen' (fact_at stack' a) ≡ a)
  there_now a h = last_or n a h last before
    where
      last : a ≡ n → (fact_at stack' a < P.facts) × (seen_of seen' (fact_at stack' a) ≡ a)
      last e = rw (e, new_fact) (known, new_seen)

      before : a < n → (fact_at stack' a < P.facts) × (seen_of seen' (fact_at stack' a) ≡ a)
      before l = rw (old_fact a l) ((w.fact_there a l).0, other_seen (fact_at stack a) (not_there a l) ∙ (w.fact_there a l).1)

  placed-now : (g : ℕ) → g < P.facts → seen_of seen' g < max_facts narrow → (seen_of seen' g < n + 1) × (fact_at stack' (seen_of seen' g) ≡ g)
  placed-now g l h = ⊎_elim (λ e. is_new (eqb-true g f e)) (λ e. other (eqb-false g f e)) (either (eqb g f))
    where
      is_new : g ≡ f → (seen_of seen' g < n + 1) × (fact_at stack' (seen_of seen' g) ≡ g)
      is_new e = rw (e, new_seen) (omega arith, new_fact)

      other : (g ≡ f → ⊥) → (seen_of seen' g < n + 1) × (fact_at stack' (seen_of seen' g) ≡ g)
      other o =
          let same : seen_of seen' g ≡ seen_of seen g = other_seen g o in
          let there : (seen_of seen g < n) × (fact_at stack (seen_of seen g) ≡ g) = w.place_there g l (omega arith) in
          rw same (omega (arith, there.0), old_fact (seen_of seen g) there.0 ∙ there.1)

  -- The new fact was opened by the one that is looked at, with no root behind it; the new root is no earlier than the new fact.
  earlier_now : (a : ℕ) → 0 < a → a < n + 1 → opener_at stack' a < a
  earlier_now a some-before h = last_or n a h last before
    where
      last : a ≡ n → opener_at stack' a < a
      last e = rw (e, new_opener) (here (omega arith)).inside

      before : a < n → opener_at stack' a < a
      before l = rw (old_opener a l) (w.opener_earlier a some-before l)

  rooted_now : (a t : ℕ) → 0 < a → a < n + 1 → t < m + 1 → root_place roots' t < a → root_place roots' t ≤ opener_at stack' a
  rooted_now a t some-before h k u = last_or m t k new_root old_root
    where
      new_root : t ≡ m → root_place roots' t ≤ opener_at stack' a
      new_root e = let place : root_place roots' t ≡ n = rw e new_place in absurd (omega arith)

      old_root : t < m → root_place roots' t ≤ opener_at stack' a
      old_root o = last_or n a h last before
        where
          last : a ≡ n → root_place roots' t ≤ opener_at stack' a
          last e = rw (e, new_opener, old_place t o) ((here (omega arith)).no_root_behind t o)

          before : a < n → root_place roots' t ≤ opener_at stack' a
          before l = rw (old_opener a l, old_place t o) (w.opener_rooted a t some-before l o (rw (old_place t o) at u))

  -- the new root is the first where none was, and then no fact was open
  first-now : root_place roots' 0 ≡ 0
  first-now = ⊎_elim (λ e. none (eqb-true m 0 e)) (λ e. some_root (eqb-false m 0 e)) (either (eqb m 0))
    where
      none : m ≡ 0 → root_place roots' 0 ≡ 0
      none e = ⊎_elim (λ z. empty (eqb-true n 0 z)) (λ z. absurd (full (eqb-false n 0 z))) (either (eqb n 0))
        where
          empty : n ≡ 0 → root_place roots' 0 ≡ 0
          empty z = ap (root_place roots') (sym e) ∙ (new_place ∙ z)

          full : (n ≡ 0 → ⊥) → ⊥
          full z = let rooted : 0 < m = (w.first_root (omega arith)).0 in omega arith

      some_root : (m ≡ 0 → ⊥) → root_place roots' 0 ≡ 0
      some_root o =
          let inside : root_place roots 0 < n = (w.root_inside 0 (omega arith)).1 in
          old_place 0 (omega arith) ∙ (w.first_root (omega arith)).1

  inside_now : (t : ℕ) → t < m + 1 → (t ≤ root_place roots' t) × (root_place roots' t < n + 1)
  inside_now t h = last_or m t h last before
    where
      last : t ≡ m → (t ≤ root_place roots' t) × (root_place roots' t < n + 1)
      last e = rw (e, new_place) (fewer, omega arith)

      before : t < m → (t ≤ root_place roots' t) × (root_place roots' t < n + 1)
      before l = rw (old_place t l) ((w.root_inside t l).0, omega (arith, (w.root_inside t l).1))

  ascending-now : (t u : ℕ) → t < u → u < m + 1 → root_place roots' t < root_place roots' u
  ascending-now t u l h = last_or m u h last before
    where
      last : u ≡ m → root_place roots' t < root_place roots' u
      last e = rw (e, new_place, old_place t (omega arith)) (w.root_inside t (omega arith)).1

      before : u < m → root_place roots' t < root_place roots' u
      before o = rw (old_place t (omega arith), old_place u o) (w.ascending t u l o)

  -- Every open fact depends on the new one, which as a root stands between it and those before it.
  reaches_now : (a b : ℕ) → a < n + 1 → b < n + 1 → ((t : ℕ) → t < m + 1 → b < root_place roots' t → a < root_place roots' t) → Reaches P (fact_at stack' a) (fact_at stack' b)
  reaches_now a b la lb behind = last_or n b lb (λ eb. last_or n a la (itself eb) (to_new eb)) (λ ob. last_or n a la (from-new ob) (before ob))
    where
      itself : b ≡ n → a ≡ n → Reaches P (fact_at stack' a) (fact_at stack' b)
      itself eb ea = ([], ap (fact_at stack') (ea ∙ sym eb))

      to_new : b ≡ n → a < n → Reaches P (fact_at stack' a) (fact_at stack' b)
      to_new eb oa = rw (eb, new_fact, old_fact a oa) (may a oa).0

      from-new : b < n → a ≡ n → Reaches P (fact_at stack' a) (fact_at stack' b)
      from-new ob ea =
          let back : a < root_place roots' m = behind m (omega arith) (omega (arith, new_place)) in
          absurd (omega (arith, new_place))

      before : b < n → a < n → Reaches P (fact_at stack' a) (fact_at stack' b)
      before ob oa = rw (old_fact a oa, old_fact b ob) (w.reaches a b oa ob (λ t l o. rw (← old_place t l) (behind t (omega arith) (rw (old_place t l) o))))

  barred-now : (t : ℕ) → t < m + 1 → root_barred roots' t ≡ true → (a : ℕ) → a < root_place roots' t → ReachesBarred P (fact_at stack' a) (fact_at stack' (root_place roots' t))
  barred-now t h b a l = last_or m t h last before
    where
      last : t ≡ m → ReachesBarred P (fact_at stack' a) (fact_at stack' (root_place roots' t))
      last e =
          let low : a < n = rw (e, new_place) at l in
          rw (e, new_place, new_fact, old_fact a low) ((may a low).1 (sym new_cell.1 ∙ rw e at b))

      before : t < m → ReachesBarred P (fact_at stack' a) (fact_at stack' (root_place roots' t))
      before o =
          let inside : root_place roots t < n = (w.root_inside t o).1 in
          let low : a < root_place roots t = rw (old_place t o) at l in
          rw (old_place t o, old_fact (root_place roots t) inside, old_fact a (omega arith)) (w.barred_root t o (sym (old_barred t o) ∙ b) a low)

  opened : Walking P seen' stack' roots' (n + 1) (m + 1)
  opened =
      record {
        seen_places = length-set seen f n ∙ w.seen_places;
        stack_places = length-set stack n (stack_cell f opener) ∙ w.stack_places;
        root_places = length-set roots m (root_cell barring n) ∙ w.root_places;
        room = omega (arith, w.room, one_less);
        few = w.few;
        fact_there = there_now;
        place_there = placed-now;
        opener_earlier = earlier_now;
        opener_rooted = rooted_now;
        first_root = λ _. (omega arith, first-now);
        root_inside = inside_now;
        ascending = ascending-now;
        reaches = reaches_now;
        barred_root = barred-now;
      }

  pub fact-opened : Opened P seen stack roots n m opener f seen' stack' roots'
  fact-opened =
      record {
        walking = opened;
        fewer = one_less;
        place = new_seen;
        others = other_seen;
        own_opener = new_opener;
        openers = old_opener;
        own_root = new_place;
        roots_kept = old_place;
      }
