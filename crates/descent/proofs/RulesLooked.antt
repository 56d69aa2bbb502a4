-- The rules that were looked at: what is known of them stays where a fact is opened, left or closed.
use Prim.Native.Nat.{ℕ, ◌+◌, ◌-◌, ◌≤◌, ◌<◌}
use native.Mathlib.Omega.{arith}
use mathlib.Core.Path.{◌≡◌, sym, ap, subst, ◌∙◌}
use mathlib.Core.Bool.{true}
use mathlib.Core.List.{List}
use mathlib.Core.Logic.{◌⊎◌, inl, inr, ⊎_elim}
use borrow.Author.Tests.{eqb-true, eqb-false, ltb-true}
use lib.ListN.{get_or}
use lib.Dec.{eqb, ltb}
use Rattle.theory.specs.Rule.{mem, Program, in_force, count, rule}
use Rattle.theory.specs.Conditions.{Bounded}
use Rattle.theory.specs.Places.{rank_in}
use Rattle.theory.proofs.Bools.{either}
use Rattle.theory.proofs.Lists.{all-elem}
use Rattle.items.specs.Item.{narrow, max_facts}
use Rattle.threads.specs.Threads.{thread_end}
use Rattle.components.specs.Open.{unmet, closed, seen_of, fact_at, opener_at, root_place, unmet_count, Walking, Current, Opened, ClosedFrom}
use Rattle.components.proofs.WalkClosed.{Shut, Kept, shut_or_kept, shut_now, shut_before, shut_rank, closed-unmet, closed-walking}
use Rattle.descent.specs.Standing.{Together, WasLooked, PremiseHeld, ConstraintHeld, Looked, StaysMet}

-- two numbers are the same, or not
pub same_or : {A : Type 0} (x y : ℕ) → (x ≡ y → A) → ((x ≡ y → ⊥) → A) → A
same_or x y same other = ⊎_elim (λ e. same (eqb-true x y e)) (λ e. other (eqb-false x y e)) (either (eqb x y))

-- what a rule names is a fact of the program
pub premise_low : {P : Program} → Bounded P → (i g : ℕ) → i < count P → mem g (rule P i).premises ≡ true → g < P.facts
premise_low {P} b i g h m = ltb-true _ _ (all-elem (λ f. ltb f P.facts) (rule P i).premises (b.premises_below i h) g m)

pub constraint_low : {P : Program} → Bounded P → (i g : ℕ) → i < count P → mem g (rule P i).constraints ≡ true → g < P.facts
constraint_low {P} b i g h m = ltb-true _ _ (all-elem (λ f. ltb f P.facts) (rule P i).constraints (b.constraints_below i h) g m)

-- A fact is opened.
module _ {P : Program} {seen stack roots todo ranks : List ℕ} {n m at f : ℕ} {seen' stack' roots' : List ℕ} (w : Walking P seen stack roots n m) (k : Looked P seen stack roots todo ranks n m at) (low : f < P.facts) (new : seen_of seen f ≡ unmet) (o : Opened P seen stack roots n m at f seen' stack' roots') where
  small : n < max_facts narrow
  small = omega (arith, o.walking.room, w.few)

  -- what was met is another fact
  met_other : (g : ℕ) → (seen_of seen g ≡ unmet → ⊥) → seen_of seen' g ≡ seen_of seen g
  met_other g met = o.others g (λ e. met (ap (seen_of seen) e ∙ new))

  -- what does not have the new place is another fact
  placed-other : (g : ℕ) → (seen_of seen' g ≡ n → ⊥) → seen_of seen' g ≡ seen_of seen g
  placed-other g other = o.others g (λ e. other (ap (seen_of seen') e ∙ o.place))

  pub opened-met : StaysMet seen seen'
  opened-met g e = sym (placed-other g (λ q. absurd (omega (arith, small)))) ∙ e

  was_looked : (i : ℕ) → i < count P → in_force P i ≡ true → WasLooked P seen' todo i → (seen_of seen' (rule P i).conclusion ≡ seen_of seen (rule P i).conclusion) × WasLooked P seen todo i
  was_looked i h on d = same_or c f (λ e. absurd (not_new e)) (λ e. let same = o.others c e in (same, subst (λ x. (x ≡ closed) ⊎ ((x < max_facts narrow) × (i < get_or todo c 0))) same d))
    where
      c : ℕ
      c = (rule P i).conclusion

      not_new : c ≡ f → ⊥
      not_new e =
          let place : seen_of seen' c ≡ n = ap (seen_of seen') e ∙ o.place in
          ⊎_elim (λ q. omega (arith, small)) (λ q. omega (arith, q.1, k.none_yet i h on (ap (seen_of seen) e ∙ new))) d

  together_still : (a b : ℕ) → a < n → b < n → Together roots m a b → Together roots' (m + 1) a b
  together_still a b la lb both t l =
      same_or t m
      (λ e. let place : root_place roots' t ≡ n = ap (root_place roots') e ∙ o.own_root in (λ q. absurd (omega arith), λ q. absurd (omega arith)))
      (λ e. let inside : t < m = omega arith in rw (o.roots_kept t inside) (both t inside))

  pub looked_opened : Looked P seen' stack' roots' todo ranks (n + 1) (m + 1) n
  looked_opened =
      record {
        bounds = k.bounds;
        few_rules = k.few_rules;
        known = λ g l. same_or g f (λ e. inr (inr (rw (e, o.place) small))) (λ e. rw (o.others g e) (k.known g l));
        premises = premises_still;
        constraints = λ i h on d g m. let (same, before) = was_looked i h on d in let (is-closed, less) = k.constraints i h on before g m in (met_other g (λ e. omega arith) ∙ is-closed, less);
        none_yet = λ i h on e. k.none_yet i h on (opened-met (rule P i).conclusion e);
        none_behind = λ g l is_open behind. absurd (omega (arith, (o.walking.place_there g l is_open).0));
        none_between = λ b g l h from to. same_or b n (between_new b g h from to) (λ e. let before : b < n = omega arith in between_old b g before h from to);
        few_ranks = λ g. omega (arith, k.few_ranks g, o.fewer);
        closed_fewer = λ g l e. omega (arith, k.closed_fewer g l (sym (placed-other g (λ q. omega (arith, small))) ∙ e), o.fewer);
      }
    where
      premises_still : (i : ℕ) → i < count P → in_force P i ≡ true → WasLooked P seen' todo i → (g : ℕ) → mem g (rule P i).premises ≡ true → PremiseHeld seen' roots' ranks (m + 1) (rule P i).conclusion g
      premises_still i h on d g mg =
          let (same, before) = was_looked i h on d in
          ⊎_elim
          (λ (is-closed, less). inl (met_other g (λ e. omega arith) ∙ is-closed, less))
          (λ (open-c, (open-g, both)).
          inr (rw (same, met_other g (λ e. omega arith)) (open-c, (open-g, together_still _ _ (w.place_there _ (k.bounds.conclusion_below i h) open-c).0 (w.place_there g (premise_low k.bounds i g h mg) open-g).0 both))))
          (k.premises i h on before g mg)

      between_new : (b g : ℕ) → g < P.facts → opener_at stack' b < seen_of seen' g → seen_of seen' g < b → b ≡ n → get_or todo g 0 ≡ thread_end
      between_new b g h from to e =
          let same : seen_of seen' g ≡ seen_of seen g = placed-other g (λ q. omega arith) in
          let opener : opener_at stack' b ≡ at = ap (opener_at stack') e ∙ o.own_opener in
          k.none_behind g h (omega (arith, small)) (omega arith)

      between_old : (b g : ℕ) → b < n → g < P.facts → opener_at stack' b < seen_of seen' g → seen_of seen' g < b → get_or todo g 0 ≡ thread_end
      between_old b g l h from to =
          let same : seen_of seen' g ≡ seen_of seen g = placed-other g (λ q. omega arith) in
          k.none_between b g l h (omega (arith, o.openers b l)) (omega arith)

-- No rule is left of the fact that is looked at.
module _ {P : Program} {seen stack roots todo ranks : List ℕ} {n m at : ℕ} (w : Walking P seen stack roots n m) (inside : at < n) (k : Looked P seen stack roots todo ranks n m at) (done : get_or todo (fact_at stack at) 0 ≡ thread_end) where
  -- so has every fact at that place or behind it
  none_left : (f : ℕ) → f < P.facts → seen_of seen f < max_facts narrow → at ≤ seen_of seen f → get_or todo f 0 ≡ thread_end
  none_left f l is_open up =
      same_or (seen_of seen f) at
      (λ e. let there : fact_at stack at ≡ f = subst (λ a. fact_at stack a ≡ f) e (w.place_there f l is_open).1 in subst (λ g. get_or todo g 0 ≡ thread_end) there done)
      (λ e. k.none_behind f l is_open (omega arith))

  -- The last component is closed.
  module _ (here : Current roots n m at) (some_root : 0 < m) (last : root_place roots (m - 1) ≡ at) {seen' ranks' : List ℕ} (c : ClosedFrom stack at n seen ranks seen' ranks') where
    abbrev WasShut : ℕ → Type 0
    WasShut f = Shut w here some_root last c f

    abbrev WasKept : ℕ → Type 0
    WasKept f = Kept w here some_root last c f

    way : (f : ℕ) → WasShut f ⊎ WasKept f
    way f = shut_or_kept w here some_root last c f

    now_closed : (f : ℕ) → WasShut f → seen_of seen' f ≡ closed
    now_closed f s = shut_now w here some_root last c f s

    -- a fact that was shut was open, with no rule left, and got a rank that is not lower
    was_place : (f : ℕ) (s : WasShut f) → (at ≤ seen_of seen f) × (seen_of seen f < n)
    was_place f s = let e = shut_before w here some_root last c f s in (omega (arith, s.low, e), omega (arith, s.high, e))

    small_place : (f : ℕ) → seen_of seen f < n → seen_of seen f < max_facts narrow
    small_place f l = omega (arith, w.room, w.few)

    not_lower : (f : ℕ) → WasShut f → rank_in ranks f ≤ rank_in ranks' f
    not_lower f s = rw (shut_rank w here some_root last c f s) (subst (λ g. rank_in ranks g ≤ rank_in ranks (fact_at stack c.top)) s.there (c.top_highest s.place s.low s.high))

    -- what was closed is as it was
    closed-kept : (f : ℕ) → seen_of seen f ≡ closed → WasKept f
    closed-kept f e = ⊎_elim (λ s. let (low, high) = was_place f s in absurd (omega (arith, small_place f high))) (λ s. s) (way f)

    still_closed : (f : ℕ) → seen_of seen f ≡ closed → (seen_of seen' f ≡ closed) × (rank_in ranks' f ≡ rank_in ranks f)
    still_closed f e = let s = closed-kept f e in (s.same_seen ∙ e, s.same_rank)

    -- what stands from that place on is shut
    is_shut : (f : ℕ) → f < P.facts → seen_of seen f < max_facts narrow → at ≤ seen_of seen f → WasShut f
    is_shut f l is_open up = let (high, there) = w.place_there f l is_open in record { place = seen_of seen f; low = up; high = high; there = there }

    pub closed-met : StaysMet seen seen'
    closed-met f e = ⊎_elim (λ s. absurd (omega (arith, now_closed f s))) (λ s. sym s.same_seen ∙ e) (way f)

    -- A rule of a fact that was shut was looked at before, and so was one of another fact that was looked at now.
    looked_shut : (i : ℕ) → i < count P → WasShut (rule P i).conclusion → WasLooked P seen todo i
    looked_shut i h s =
        let (low, high) = was_place (rule P i).conclusion s in
        let is_open = small_place (rule P i).conclusion high in
        inr (is_open, omega (arith, none_left (rule P i).conclusion (k.bounds.conclusion_below i h) is_open low, k.few_rules))

    looked_kept : (i : ℕ) → WasKept (rule P i).conclusion → WasLooked P seen' todo i → WasLooked P seen todo i
    looked_kept i s d = subst (λ x. (x ≡ closed) ⊎ ((x < max_facts narrow) × (i < get_or todo (rule P i).conclusion 0))) s.same_seen d

    last-root : (m - 1) < m
    last-root = omega arith

    premise_closed : (i : ℕ) → i < count P → in_force P i ≡ true → (g : ℕ) → mem g (rule P i).premises ≡ true → WasShut (rule P i).conclusion → PremiseHeld seen' roots ranks' (m - 1) (rule P i).conclusion g
    premise_closed i h on g mg s =
        ⊎_elim
        (λ (is-closed, less). let (now, same) = still_closed g is-closed in inl (now, omega (arith, not_lower (rule P i).conclusion s)))
        (λ (open-c, (open-g, both)). let t = is_shut g (premise_low k.bounds i g h mg) open-g (behind both) in inl (now_closed g t, omega (arith, shut_rank w here some_root last c g t, shut_rank w here some_root last c (rule P i).conclusion s)))
        (k.premises i h on (looked_shut i h s) g mg)
      where
        behind : Together roots m (seen_of seen (rule P i).conclusion) (seen_of seen g) → at ≤ seen_of seen g
        behind both = subst (λ x. x ≤ seen_of seen g) last ((both (m - 1) last-root).0 (rw last (was_place (rule P i).conclusion s).0))

    premise_open : (i : ℕ) → i < count P → in_force P i ≡ true → (g : ℕ) → mem g (rule P i).premises ≡ true → WasKept (rule P i).conclusion → WasLooked P seen' todo i → PremiseHeld seen' roots ranks' (m - 1) (rule P i).conclusion g
    premise_open i h on g mg s d =
        ⊎_elim
        (λ (is-closed, less). let (now, same) = still_closed g is-closed in inl (now, omega (arith, s.same_rank)))
        (λ (open-c, (open-g, both)). ⊎_elim (λ t. absurd (apart open-c both t)) (λ t. inr (rw (s.same_seen, t.same_seen) (open-c, (open-g, λ r l. both r (omega arith))))) (way g))
        (k.premises i h on (looked_kept i s d) g mg)
      where
        apart : seen_of seen (rule P i).conclusion < max_facts narrow → Together roots m (seen_of seen (rule P i).conclusion) (seen_of seen g) → WasShut g → ⊥
        apart open-c both t =
            let up : at ≤ seen_of seen (rule P i).conclusion = subst (λ x. x ≤ seen_of seen (rule P i).conclusion) last ((both (m - 1) last-root).1 (rw last (was_place g t).0)) in
            omega (arith, now_closed (rule P i).conclusion (is_shut (rule P i).conclusion (k.bounds.conclusion_below i h) open-c up), s.same_seen)

    constraint_still : (i : ℕ) → i < count P → in_force P i ≡ true → WasLooked P seen' todo i → (g : ℕ) → mem g (rule P i).constraints ≡ true → ConstraintHeld seen' ranks' (rule P i).conclusion g
    constraint_still i h on d g mg = ⊎_elim (λ s. go (looked_shut i h s) (not_lower (rule P i).conclusion s)) (λ s. go (looked_kept i s d) (omega (arith, s.same_rank))) (way (rule P i).conclusion)
      where
        go : WasLooked P seen todo i → rank_in ranks (rule P i).conclusion ≤ rank_in ranks' (rule P i).conclusion → ConstraintHeld seen' ranks' (rule P i).conclusion g
        go before up = let (is-closed, less) = k.constraints i h on before g mg in let (now, same) = still_closed g is-closed in (now, omega arith)

    -- an open fact is as it was
    open_kept : (f : ℕ) → seen_of seen' f < max_facts narrow → seen_of seen' f ≡ seen_of seen f
    open_kept f l = ⊎_elim (λ s. absurd (omega (arith, now_closed f s))) (λ s. s.same_seen) (way f)

    same_unmet : unmet_count P seen' ≡ unmet_count P seen
    same_unmet = closed-unmet w here some_root last c

    pub looked_closed : Looked P seen' stack roots todo ranks' at (m - 1) (opener_at stack at)
    looked_closed =
        record {
          bounds = k.bounds;
          few_rules = k.few_rules;
          known = λ f l. ⊎_elim (λ s. inr (inl (now_closed f s))) (λ s. rw s.same_seen (k.known f l)) (way f);
          premises = λ i h on d g mg. ⊎_elim (premise_closed i h on g mg) (λ s. premise_open i h on g mg s d) (way (rule P i).conclusion);
          constraints = constraint_still;
          none_yet = λ i h on e. k.none_yet i h on (closed-met (rule P i).conclusion e);
          none_behind = λ f l is_open behind. let same = open_kept f is_open in k.none_between at f inside l (omega (arith, same)) (omega (arith, same, ((closed-walking w here some_root last c).place_there f l is_open).0));
          none_between = λ b f l h from to. let same = open_kept f (omega (arith, w.room, w.few)) in k.none_between b f (omega arith) h (omega (arith, same)) (omega (arith, same));
          few_ranks = λ f. ⊎_elim (λ s. omega (arith, shut_rank w here some_root last c f s, k.few_ranks (fact_at stack c.top), same_unmet)) (λ s. omega (arith, s.same_rank, k.few_ranks f, same_unmet)) (way f);
          closed_fewer = λ f l e. ⊎_elim (λ s. omega (arith, shut_rank w here some_root last c f s, k.few_ranks (fact_at stack c.top), same_unmet)) (λ s. omega (arith, s.same_rank, k.closed_fewer f l (sym s.same_seen ∙ e), same_unmet)) (way f);
        }

-- Another fact may be looked at, where no rule is left of the facts behind it.
pub looked_elsewhere : {P : Program} {seen stack roots todo ranks : List ℕ} {n m at : ℕ} → Looked P seen stack roots todo ranks n m at → (to : ℕ) → ((f : ℕ) → f < P.facts → seen_of seen f < max_facts narrow → to < seen_of seen f → get_or todo f 0 ≡ thread_end) → Looked P seen stack roots todo ranks n m to
looked_elsewhere k to none_behind =
    record {
      bounds = k.bounds;
      few_rules = k.few_rules;
      known = k.known;
      premises = k.premises;
      constraints = k.constraints;
      none_yet = k.none_yet;
      none_behind = none_behind;
      none_between = k.none_between;
      few_ranks = k.few_ranks;
      closed_fewer = k.closed_fewer;
    }
