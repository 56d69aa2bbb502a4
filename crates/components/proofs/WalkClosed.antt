-- The last component is closed: what the walk knows then of the facts that stay open, and of the ranks.
use Prim.Native.Nat.{ℕ, ◌-◌, ◌≤◌, ◌<◌}
use native.Mathlib.Omega.{arith}
use mathlib.Core.Path.{◌≡◌, refl, sym, ap, subst, ◌∙◌}
use mathlib.Core.Bool.{Bool, true, false, ◌&&◌}
use mathlib.Core.List.{List}
use mathlib.Core.Logic.{◌⊎◌, inl, inr, ⊎_elim}
use borrow.Author.Tests.{eqb-true, eqb-false, eq-eqb, ne_eqb, ltb-true, ltb-false, lt-ltb, leb-true, le-leb}
use lib.Dec.{eqb, ltb, leb}
use Rattle.theory.specs.Rule.{up_to, Program, in_force}
use Rattle.theory.specs.Layers.{Ranks}
use Rattle.theory.specs.Places.{rank_in}
use Rattle.theory.proofs.Bools.{either, never, and_left, and_right, and_both}
use Rattle.theory.proofs.Lists.{how_many-ext}
use Rattle.theory.proofs.Cycles.{chain_rank}
use Rattle.items.specs.Item.{narrow, max_facts}
use Rattle.tables.specs.Ranking.{RanksSoFar}
use Rattle.components.specs.Open.{Reaches, unmet, seen_of, fact_at, root_place, unmet_count, closed, Walking, Current, ClosedFrom}

-- the last root has the highest place
pub last-highest : {P : Program} {seen stack roots : List ℕ} {n m : ℕ} → Walking P seen stack roots n m → (t : ℕ) → t < m → root_place roots t ≤ root_place roots (m - 1)
last-highest {m = m} w t l =
    ⊎_elim
    (λ e. let same : t ≡ m - 1 = eqb-true _ _ e in rw same (omega arith))
    (λ e. let ne : t ≡ m - 1 → ⊥ = eqb-false _ _ e in omega (arith, w.ascending t (m - 1) (omega arith) (omega arith)))
    (either (eqb t (m - 1)))

module _ {P : Program} {seen stack roots : List ℕ} {n m at : ℕ} (w : Walking P seen stack roots n m) (here : Current roots n m at) (some_root : 0 < m) (last : root_place roots (m - 1) ≡ at) {seen' ranks ranks' : List ℕ} (c : ClosedFrom stack at n seen ranks seen' ranks') where
  -- a fact on the stack has the place where it stands
  own-place : (f a : ℕ) → a < n → fact_at stack a ≡ f → seen_of seen f ≡ a
  own-place f a l e = subst (λ g. seen_of seen g ≡ a) e (w.fact_there a l).1

  -- A fact is closed, as it stood on the stack from the place on; or nothing has changed for it.
  pub record Shut (f : ℕ) : Type 0 where
    pub place : ℕ
    pub low : at ≤ place
    pub high : place < n
    pub there : fact_at stack place ≡ f

  pub record Kept (f : ℕ) : Type 0 where
    pub same_seen : seen_of seen' f ≡ seen_of seen f
    pub same_rank : rank_in ranks' f ≡ rank_in ranks f

  -- is f one of those, standing at a?
  abbrev goes : ℕ → ℕ → Bool
  goes f a = leb at a && (ltb a n && eqb (fact_at stack a) f)

  pub shut_or_kept : (f : ℕ) → Shut f ⊎ Kept f
  shut_or_kept f = ⊎_elim (λ e. inl (shut e)) (λ e. inr (kept e)) (either (goes f (seen_of seen f)))
    where
      shut : goes f (seen_of seen f) ≡ true → Shut f
      shut e =
          let rest = and_right (leb at (seen_of seen f)) _ e in
          record {
            place = seen_of seen f;
            low = leb-true _ _ (and_left _ _ e);
            high = ltb-true _ _ (and_left _ _ rest);
            there = eqb-true _ _ (and_right (ltb (seen_of seen f) n) _ rest);
          }

      kept : goes f (seen_of seen f) ≡ false → Kept f
      kept e =
          let same = c.keeps f (λ a low high is. never (subst (λ b. goes f b ≡ true) (sym (own-place f a high is)) (and_both (le-leb _ _ low) (and_both (lt-ltb _ _ high) (eq-eqb _ _ is)))) e) in
          record { same_seen = same.0; same_rank = same.1 }

  pub shut_now : (f : ℕ) → Shut f → seen_of seen' f ≡ closed
  shut_now f s = subst (λ g. seen_of seen' g ≡ closed) s.there (c.closes s.place s.low s.high).0

  pub shut_before : (f : ℕ) (s : Shut f) → seen_of seen f ≡ s.place
  shut_before f s = own-place f s.place s.high s.there

  pub shut_rank : (f : ℕ) → Shut f → rank_in ranks' f ≡ rank_in ranks (fact_at stack c.top)
  shut_rank f s = subst (λ g. rank_in ranks' g ≡ rank_in ranks (fact_at stack c.top)) s.there (c.closes s.place s.low s.high).1

  -- A fact that is closed depends on the one whose rank it gets: no root stands between them.
  shut_reaches : (f : ℕ) → Shut f → Reaches P f (fact_at stack c.top)
  shut_reaches f s =
      subst (λ g. Reaches P g (fact_at stack c.top)) s.there
      (w.reaches s.place c.top s.high c.top_inside.1 (λ t l behind. absurd (omega (arith, here.no_root_behind t l, c.top_inside.0))))

  -- So no rank is too high.
  pub closed-ranks : RanksSoFar P ranks → RanksSoFar P ranks'
  closed-ranks so_far =
      record {
        places = c.rank_places ∙ so_far.places;
        low = λ f. ⊎_elim (λ s. rw (shut_rank f s) (so_far.low (fact_at stack c.top))) (λ k. rw k.same_rank (so_far.low f)) (shut_or_kept f);
        under = λ rank r f. ⊎_elim (λ s. rw (shut_rank f s) (under_shut rank r f s)) (λ k. rw k.same_rank (so_far.under rank r f)) (shut_or_kept f);
      }
    where
      under_shut : (rank : ℕ → ℕ) → Ranks P (in_force P) rank → (f : ℕ) → Shut f → rank_in ranks (fact_at stack c.top) ≤ rank f
      under_shut rank r f s =
          let chain = shut_reaches f s in
          omega (arith, so_far.under rank r (fact_at stack c.top), chain_rank P (in_force P) rank r f chain.0 (fact_at stack c.top) chain.1)

  -- No fact was unmet that is closed now.
  pub closed-unmet : unmet_count P seen' ≡ unmet_count P seen
  closed-unmet = how_many-ext (λ f. eqb (seen_of seen' f) unmet) (λ f. eqb (seen_of seen f) unmet) (up_to P.facts) (λ f m. ⊎_elim (shut f) (λ k. ap (λ a. eqb a unmet) k.same_seen) (shut_or_kept f))
    where
      shut : (f : ℕ) → Shut f → eqb (seen_of seen' f) unmet ≡ eqb (seen_of seen f) unmet
      shut f s =
          rw (shut_now f s, shut_before f s)
          (sym (ne_eqb s.place unmet (λ e. let far : s.place < n = s.high in omega (arith, w.room, w.few))))

  -- The walk goes on with the facts before the place.
  pub closed-walking : Walking P seen' stack roots at (m - 1)
  closed-walking =
      record {
        seen_places = c.seen_places ∙ w.seen_places;
        stack_places = w.stack_places;
        root_places = w.root_places;
        room = omega (arith, w.room, closed-unmet, here.inside);
        few = w.few;
        fact_there = there;
        place_there = places;
        opener_earlier = λ a h l. w.opener_earlier a h (omega (arith, here.inside));
        opener_rooted = λ a t h l u. w.opener_rooted a t h (omega (arith, here.inside)) (omega arith);
        first_root = first;
        root_inside = λ t l. ((w.root_inside t (omega arith)).0, omega (arith, w.ascending t (m - 1) l (omega arith)));
        ascending = λ t u l h. w.ascending t u l (omega arith);
        reaches = λ a b la lb behind. w.reaches a b (omega (arith, here.inside)) (omega (arith, here.inside)) (λ t l u. still a b la behind t l u);
        barred_root = λ t l. w.barred_root t (omega arith);
      }
    where
      there : (a : ℕ) → a < at → (fact_at stack a < P.facts) × (seen_of seen' (fact_at stack a) ≡ a)
      there a l =
          let old = w.fact_there a (omega (arith, here.inside)) in
          (old.0, ⊎_elim (λ s. absurd (omega (arith, s.low, shut_before (fact_at stack a) s, old.1))) (λ k. k.same_seen ∙ old.1) (shut_or_kept (fact_at stack a)))

      places : (f : ℕ) → f < P.facts → seen_of seen' f < max_facts narrow → (seen_of seen' f < at) × (fact_at stack (seen_of seen' f) ≡ f)
      places f low is_open = ⊎_elim (λ s. absurd (omega (arith, shut_now f s))) go (shut_or_kept f)
        where
          go : Kept f → (seen_of seen' f < at) × (fact_at stack (seen_of seen' f) ≡ f)
          go k = rw k.same_seen (before (ltb (seen_of seen f) at) refl, old.1)
            where
              old : (seen_of seen f < n) × (fact_at stack (seen_of seen f) ≡ f)
              old = w.place_there f low (rw k.same_seen at is_open)

              before : (b : Bool) → ltb (seen_of seen f) at ≡ b → seen_of seen f < at
              before true e = ltb-true _ _ e
              before false e =
                  let behind : at ≤ seen_of seen f = ltb-false _ _ e in
                  absurd (omega (arith, shut_now f (record { place = seen_of seen f; low = behind; high = old.0; there = old.1 })))

      first : 0 < at → (0 < m - 1) × (root_place roots 0 ≡ 0)
      first h = let is-first = (w.first_root (omega (arith, here.inside))).1 in (more (ltb 0 (m - 1)) refl is-first, is-first)
        where
          more : (b : Bool) → ltb 0 (m - 1) ≡ b → root_place roots 0 ≡ 0 → 0 < m - 1
          more true e z = ltb-true _ _ e
          more false e z =
              let none : m - 1 ≤ 0 = ltb-false _ _ e in
              let only : m - 1 ≡ 0 = omega arith in
              let place : root_place roots 0 ≡ at = subst (λ t. root_place roots t ≡ at) only last in
              absurd (omega arith)

      -- the last root is behind all that stay
      still : (a b : ℕ) → a < at → ((t : ℕ) → t < m - 1 → b < root_place roots t → a < root_place roots t) → (t : ℕ) → t < m → b < root_place roots t → a < root_place roots t
      still a b la behind t l u =
          ⊎_elim
          (λ e. behind t (ltb-true _ _ e) u)
          (λ e. let high : m - 1 ≤ t = ltb-false _ _ e in let is_last : t ≡ m - 1 = omega arith in rw (is_last, last) la)
          (either (ltb t (m - 1)))
