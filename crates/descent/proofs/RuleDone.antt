-- A rule is done with: what is known of the rules that were looked at holds for it too, with the rank that it asks and the roots that are left.
use Prim.Native.Nat.{ℕ, ◌+◌, ◌-◌, ◌≤◌, ◌<◌}
use native.Mathlib.Omega.{arith}
use mathlib.Core.Path.{◌≡◌, refl, sym, ap, subst, ◌∙◌}
use mathlib.Core.Bool.{true, false}
use mathlib.Core.List.{List}
use mathlib.Core.Logic.{◌⊎◌, inl, inr, ⊎_elim}
use borrow.Author.Tests.{ltb-true, ltb-false}
use lib.ListN.{length, get_or, set}
use lib.Seq.{get_or-set_same, get_or-set_other}
use lib.Dec.{ltb}
use Rattle.theory.specs.Rule.{mem, Program, in_force, count, rule}
use Rattle.theory.specs.Places.{rank_in}
use Rattle.theory.proofs.Bools.{either, never}
use Rattle.items.specs.Item.{narrow, max_facts}
use Rattle.tables.proofs.RanksHeld.{fact-raised}
use Rattle.components.specs.Open.{unmet, closed, seen_of, root_place, unmet_count, Walking, Current}
use Rattle.components.specs.Look.{Asked, EachNoted}
use Rattle.components.proofs.WalkClosed.{last-highest}
use Rattle.descent.specs.Standing.{RuleOf, Threads, WasLooked, PremiseHeld, ConstraintHeld, Looked}
use Rattle.descent.proofs.RulesLooked.{same_or, premise_low, constraint_low}

-- A rank that a rule asks keeps the bound of all ranks.
pub high_few : {P : Program} {seen stack roots todo ranks : List ℕ} {n m at i high : ℕ} → Walking P seen stack roots n m → Looked P seen stack roots todo ranks n m at → Asked P i seen ranks high → high + (n + unmet_count P seen) ≤ P.facts
high_few {P} {seen} {ranks = ranks} {n = n} w k asked =
    omega (arith, w.room, asked.bounded (P.facts - (n + unmet_count P seen)) (λ f. omega (arith, k.few_ranks f)) below)
  where
    below : (f : ℕ) → f < P.facts → (seen_of seen f ≡ unmet → ⊥) → (seen_of seen f < max_facts narrow → ⊥) → rank_in ranks f < P.facts - (n + unmet_count P seen)
    below f l met not-open = ⊎_elim (λ e. absurd (met e)) (⊎_elim (λ e. omega (arith, k.closed_fewer f l e)) (λ e. absurd (not-open e))) (k.known f l)

-- A fact has the higher of its rank and one more.
pub record RankRaised (ranks ranks' : List ℕ) (fact high : ℕ) : Type 0 where
  pub others : (g : ℕ) → (g ≡ fact → ⊥) → rank_in ranks' g ≡ rank_in ranks g
  pub not_lower : rank_in ranks fact ≤ rank_in ranks' fact
  pub reached : high ≤ rank_in ranks' fact
  pub one_of : (rank_in ranks' fact ≡ high) ⊎ (rank_in ranks' fact ≡ rank_in ranks fact)

pub rank_raised : {ranks ranks' : List ℕ} {fact high : ℕ} → fact < length ranks → ((ranks' ≡ set ranks fact high) × (rank_in ranks fact < high)) ⊎ ((ranks' ≡ ranks) × (high ≤ rank_in ranks fact)) → RankRaised ranks ranks' fact high
rank_raised {ranks} {ranks'} {fact} {high} inside r = ⊎_elim up same r
  where
    up : (ranks' ≡ set ranks fact high) × (rank_in ranks fact < high) → RankRaised ranks ranks' fact high
    up (e, less) =
        let own : rank_in ranks' fact ≡ high = rw e (fact-raised ranks fact high inside) in
        record { others = λ g o. rw e (get_or-set_other ranks fact g high 0 o); not_lower = omega arith; reached = omega arith; one_of = inl own }

    same : (ranks' ≡ ranks) × (high ≤ rank_in ranks fact) → RankRaised ranks ranks' fact high
    same (e, enough) = rw e (record { others = λ g o. refl; not_lower = omega arith; reached = enough; one_of = inr refl })

-- The next rule i of the fact that is looked at, of which all facts were met.
pub record AllMet (P : Program) (seen stack roots todo next ranks : List ℕ) (n m at fact i low high : ℕ) : Type 0 where
  pub walking : Walking P seen stack roots n m
  pub looked : Looked P seen stack roots todo ranks n m at
  pub current : Current roots n m at
  pub threads : Threads P todo next
  pub low_fact : fact < P.facts
  pub is_place : seen_of seen fact ≡ at
  pub is_rule : get_or todo fact 0 ≡ i
  pub own : RuleOf P fact i
  pub asked : Asked P i seen ranks high
  pub premises_noted : EachNoted P i false seen ranks low high
  pub constraints_noted : EachNoted P i true seen ranks low high

module _ {P : Program} {seen stack roots todo next ranks : List ℕ} {n m at fact i low high : ℕ} (a : AllMet P seen stack roots todo next ranks n m at fact i low high)
    {left : ℕ} {ranks' : List ℕ} (w : Walking P seen stack roots n left) (few : left ≤ m) (lowest : 0 < left → root_place roots (left - 1) ≤ low) (r : RankRaised ranks ranks' fact high) where
  abbrev k : Looked P seen stack roots todo ranks n m at
  k = a.looked

  abbrev todo' : List ℕ
  todo' = set todo fact (get_or next i 0)

  small : seen_of seen fact < max_facts narrow
  small = omega (arith, a.is_place, a.current.inside, a.walking.room, a.walking.few)

  own-todo : get_or todo' fact 0 ≡ get_or next i 0
  own-todo = get_or-set_same todo fact (get_or next i 0) 0 (omega (arith, a.threads.todo_places, a.low_fact, a.walking.few))

  other_todo : (g : ℕ) → (g ≡ fact → ⊥) → get_or todo' g 0 ≡ get_or todo g 0
  other_todo g o = get_or-set_other todo fact g (get_or next i 0) 0 o

  -- what is closed, or was not met, is another fact
  not_own : (g : ℕ) → max_facts narrow ≤ seen_of seen g → g ≡ fact → ⊥
  not_own g far e = omega (arith, small, ap (seen_of seen) e)

  closed-rank : (g : ℕ) → seen_of seen g ≡ closed → rank_in ranks' g ≡ rank_in ranks g
  closed-rank g e = r.others g (not_own g (omega arith))

  none_lower : (g : ℕ) → rank_in ranks g ≤ rank_in ranks' g
  none_lower g = same_or g fact (λ e. rw e r.not_lower) (λ e. omega (arith, r.others g e))

  -- A rule that was looked at now was so before, or is this one.
  was_or_is : (j : ℕ) → j < count P → in_force P j ≡ true → WasLooked P seen todo' j → WasLooked P seen todo j ⊎ (j ≡ i)
  was_or_is j h on d = ⊎_elim (λ e. inl (inl e)) (λ (is_open, l). same_or (rule P j).conclusion fact (of_fact is_open l) (λ e. inl (inr (is_open, omega (arith, other_todo (rule P j).conclusion e))))) d
    where
      of_fact : seen_of seen (rule P j).conclusion < max_facts narrow → j < get_or todo' (rule P j).conclusion 0 → (rule P j).conclusion ≡ fact → WasLooked P seen todo j ⊎ (j ≡ i)
      of_fact is_open l e =
          let before : j < get_or next i 0 = omega (arith, ap (λ g. get_or todo' g 0) e, own-todo) in
          let old : get_or todo (rule P j).conclusion 0 ≡ i = ap (λ g. get_or todo g 0) e ∙ a.is_rule in
          same_or j i (λ q. inr q)
          (λ q. ⊎_elim (λ t. let less : j < i = ltb-true _ _ t in inl (inr (is_open, omega arith))) (λ t. let more : i ≤ j = ltb-false _ _ t in absurd (omega (arith, a.threads.next_least fact i j a.own (record { known = h; in-force = on; concludes = e }) (omega arith)))) (either (ltb j i)))

  -- the premises of a rule that was looked at before, and those of this one
  old_premise : (j : ℕ) → j < count P → in_force P j ≡ true → WasLooked P seen todo j → (g : ℕ) → mem g (rule P j).premises ≡ true → PremiseHeld seen roots ranks' left (rule P j).conclusion g
  old_premise j h on d g mg =
      ⊎_elim
      (λ (is-closed, less). inl (is-closed, omega (arith, closed-rank g is-closed, none_lower (rule P j).conclusion)))
      (λ (open-c, (open-g, both)). inr (open-c, (open-g, λ t l. both t (omega arith))))
      (k.premises j h on d g mg)

  own-premise : (g : ℕ) → mem g (rule P i).premises ≡ true → PremiseHeld seen roots ranks' left fact g
  own-premise g mg =
      let (noted, asks) = a.premises_noted g mg in
      ⊎_elim (λ e. absurd (noted.met e))
      (⊎_elim
      (λ e. inl (e, omega (arith, closed-rank g e, r.reached)))
      (λ e. let up = (noted.not_before e).1 in inr (small, (e, λ t l. (λ q. omega (arith, last-highest w t l, lowest (omega arith)), λ q. omega (arith, a.current.no_root_behind t (omega arith), a.is_place))))))
      (k.known g (premise_low k.bounds i g a.own.known mg))

  old_constraint : (j : ℕ) → j < count P → in_force P j ≡ true → WasLooked P seen todo j → (g : ℕ) → mem g (rule P j).constraints ≡ true → ConstraintHeld seen ranks' (rule P j).conclusion g
  old_constraint j h on d g mg = let (is-closed, less) = k.constraints j h on d g mg in (is-closed, omega (arith, closed-rank g is-closed, none_lower (rule P j).conclusion))

  own-constraint : (g : ℕ) → mem g (rule P i).constraints ≡ true → ConstraintHeld seen ranks' fact g
  own-constraint g mg =
      let (noted, asks) = a.constraints_noted g mg in
      ⊎_elim (λ e. absurd (noted.met e))
      (⊎_elim (λ e. (e, omega (arith, closed-rank g e, r.reached))) (λ e. never refl (noted.not_before e).0))
      (k.known g (constraint_low k.bounds i g a.own.known mg))

  pub looked_done : Looked P seen stack roots todo' ranks' n left at
  looked_done =
      record {
        bounds = k.bounds;
        few_rules = k.few_rules;
        known = k.known;
        premises = λ j h on d g mg. ⊎_elim (λ before. old_premise j h on before g mg) (λ e. is_premise j e g mg) (was_or_is j h on d);
        constraints = λ j h on d g mg. ⊎_elim (λ before. old_constraint j h on before g mg) (λ e. is_constraint j e g mg) (was_or_is j h on d);
        none_yet = λ j h on e. omega (arith, other_todo (rule P j).conclusion (not_own (rule P j).conclusion (omega arith)), k.none_yet j h on e);
        none_behind = λ f l is_open behind. other_todo f (λ e. omega (arith, ap (seen_of seen) e, a.is_place)) ∙ k.none_behind f l is_open behind;
        none_between = λ b f l h from to. other_todo f (λ e. omega (arith, k.none_between b f l h from to, ap (λ g. get_or todo g 0) e, a.is_rule, a.own.known, k.few_rules)) ∙ k.none_between b f l h from to;
        few_ranks = λ f. same_or f fact (λ e. rw e own-few) (λ e. omega (arith, r.others f e, k.few_ranks f));
        closed_fewer = λ f l e. omega (arith, closed-rank f e, k.closed_fewer f l e);
      }
    where
      is_premise : (j : ℕ) → j ≡ i → (g : ℕ) → mem g (rule P j).premises ≡ true → PremiseHeld seen roots ranks' left (rule P j).conclusion g
      is_premise j e g mg = subst (λ f. PremiseHeld seen roots ranks' left f g) (sym (ap (λ b. (rule P b).conclusion) e ∙ a.own.concludes)) (own-premise g (subst (λ b. mem g (rule P b).premises ≡ true) e mg))

      is_constraint : (j : ℕ) → j ≡ i → (g : ℕ) → mem g (rule P j).constraints ≡ true → ConstraintHeld seen ranks' (rule P j).conclusion g
      is_constraint j e g mg = subst (λ f. ConstraintHeld seen ranks' f g) (sym (ap (λ b. (rule P b).conclusion) e ∙ a.own.concludes)) (own-constraint g (subst (λ b. mem g (rule P b).constraints ≡ true) e mg))

      own-few : rank_in ranks' fact + (n + unmet_count P seen) ≤ P.facts
      own-few = ⊎_elim (λ e. omega (arith, high_few a.walking k a.asked)) (λ e. omega (arith, k.few_ranks fact)) r.one_of
