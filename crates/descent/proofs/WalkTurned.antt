-- A turn of the walk: each way that it can go keeps what the walk knows and leaves less to be done, or has met a cycle.
use Prim.Native.Nat.{ℕ, ◌+◌, ◌-◌, ◌*◌, ◌≤◌, ◌<◌}
use native.Mathlib.Omega.{arith}
use mathlib.Core.Path.{◌≡◌, sym, ap, subst, ◌∙◌}
use mathlib.Core.Bool.{Bool, true, false, cond}
use mathlib.Core.List.{List}
use mathlib.Core.Logic.{◌⊎◌, inl, inr, ⊎_elim}
use borrow.Author.Tests.{ne_eqb}
use lib.ListN.{length, get_or, set}
use lib.Dec.{eqb}
use Rattle.theory.specs.Rule.{Program, in_force, count, rule}
use Rattle.theory.specs.Layers.{Cycle}
use Rattle.theory.specs.Places.{rank_in}
use Rattle.items.specs.Item.{narrow, max_facts}
use Rattle.items.specs.declared.item.FactId.{FactId}
use Rattle.tables.specs.Ranking.{RanksSoFar}
use Rattle.threads.specs.Threads.{thread_end}
use Rattle.std.specs.Prelude.{Ok, Err}
use Rattle.components.specs.declared.look.Cyclic.{Cyclic}
use Rattle.components.specs.declared.look.Look.TheVariants.{Unmet, Seen}
use Rattle.components.specs.Open.{unmet, seen_of, fact_at, opener_at, root_place, unmet_count, Walking, Current, MayOpen, Opened, Gone, Merges, ClosedFrom}
use Rattle.components.specs.Look.{LookFinds}
use Rattle.components.proofs.ComponentWalk.{current_fewer, left-for_opener, may_open, open_constraint_cycle, merged, merge_cycle, none_merged, none_cycle}
use Rattle.tables.proofs.RanksHeld.{raised}
use Rattle.components.proofs.WalkClosed.{closed-ranks, closed-unmet, closed-walking}
use Rattle.components.specs.declared.«open».Standing.{Standing}
use Rattle.descent.specs.Standing.{RuleOf, threads_left, Stands, Turned}
use Rattle.descent.proofs.ThreadsFollowed.{followed, less-followed}
use Rattle.descent.proofs.RulesLooked.{same_or, opened-met, looked_opened, closed-met, looked_closed}
use Rattle.descent.proofs.RuleDone.{high_few, rank_raised, looked_done}

-- Less is left where there is less of what counts for many places, ..
fewer_left : (x y n at n' at' : ℕ) → x < y → at' < max_facts narrow → x * (max_facts narrow + 1) + cond (eqb n' 0) 0 (at' + 1) < y * (max_facts narrow + 1) + cond (eqb n 0) 0 (at + 1)
fewer_left x y n at n' at' l h = go (eqb n' 0)
  where
    go : (b : Bool) → x * (max_facts narrow + 1) + cond b 0 (at' + 1) < y * (max_facts narrow + 1) + cond (eqb n 0) 0 (at + 1)
    go true = omega arith
    go false = omega arith

-- .. or as much of that and the place is an earlier one, or no fact is open any more.
nearer_left : (x y n at n' at' : ℕ) → x ≡ y → 0 < n → (n' ≡ 0) ⊎ (at' < at) → x * (max_facts narrow + 1) + cond (eqb n' 0) 0 (at' + 1) < y * (max_facts narrow + 1) + cond (eqb n 0) 0 (at + 1)
nearer_left x y n at n' at' same some_open less =
    rw (ne_eqb n 0 (λ e. omega arith))
    (⊎_elim (λ e. rw e (omega arith)) (λ l. go l (eqb n' 0)) less)
  where
    go : at' < at → (b : Bool) → x * (max_facts narrow + 1) + cond b 0 (at' + 1) < y * (max_facts narrow + 1) + (at + 1)
    go l true = omega arith
    go l false = omega arith

module _ {P : Program} {seen stack roots todo next ranks : List ℕ} {s : Standing} (w : Stands P seen stack roots todo next ranks s) (some_open : 0 < s.height) where
  -- a fact is open, so one is looked at, and there is a root
  here : Current roots s.height s.roots s.at
  here = w.current some_open

  some_root : 0 < s.roots
  some_root = (w.walking.first_root some_open).0

  -- The facts that are open and the roots are few, and the one that is looked at is among them.
  pub few_open : s.height < max_facts narrow
  few_open = omega (arith, w.walking.room, w.walking.few)

  pub few_roots : s.roots ≤ s.height
  few_roots =
      let last : s.roots - 1 < s.roots = omega (arith, some_root) in
      omega (arith, (w.walking.root_inside (s.roots - 1) last).0, (w.walking.root_inside (s.roots - 1) last).1)

  looked_inside : s.at < s.height
  looked_inside = here.inside

  pub looked_small : s.at < max_facts narrow
  looked_small = omega (arith, looked_inside, few_open)

  -- what merging components asks, and what leaving a fact asks
  pub may_merge : (s.roots ≤ max_facts narrow) × (length roots ≡ max_facts narrow)
  may_merge = (omega (arith, few_roots, few_open), w.walking.root_places)

  pub may_leave : ((0 < s.height) × (s.height ≤ max_facts narrow) × (0 < s.roots) × (s.roots ≤ max_facts narrow) × (s.at < s.height)) × ((length seen ≡ max_facts narrow) × (length ranks ≡ max_facts narrow))
  may_leave = ((some_open, omega (arith, few_open), some_root, may_merge.0, looked_inside), (w.walking.seen_places, w.so_far.places))

  opener_before : 0 < s.at → opener_at stack s.at < s.at
  opener_before h = w.walking.opener_earlier s.at h looked_inside

  -- The last component is closed.
  module _ (not_behind : s.at ≤ root_place roots (s.roots - 1)) (seen' ranks' : List ℕ) (c : ClosedFrom stack s.at s.height seen ranks seen' ranks') where
    last-root : root_place roots (s.roots - 1) ≡ s.at
    last-root = let last : s.roots - 1 < s.roots = omega (arith, some_root) in omega (arith, here.no_root_behind (s.roots - 1) last)

    same_left : unmet_count P seen' + threads_left P todo ≡ unmet_count P seen + threads_left P todo
    same_left = ap (λ u. u + threads_left P todo) (closed-unmet w.walking here some_root last-root c)

    still : Walking P seen' stack roots s.at (s.roots - 1)
    still = closed-walking w.walking here some_root last-root c

    pub closed-last : get_or todo (fact_at stack s.at) 0 ≡ thread_end → Turned P seen todo s next (record { height = s.at; roots = s.roots - 1; at = opener_at stack s.at }) seen' stack roots todo ranks'
    closed-last done = (
      record {
        walking = still;
        current = λ h. left-for_opener s.at (s.roots - 1) w.walking h looked_inside (omega arith) (omega arith) (λ t l. (still.root_inside t l).1);
        threads = w.threads;
        so_far = closed-ranks w.walking here some_root last-root c w.so_far;
        looked = looked_closed w.walking looked_inside w.looked done here some_root last-root c;
      },
      (
        nearer_left _ _ s.height s.at s.at (opener_at stack s.at) same_left some_open (same_or s.at 0 (λ e. inl e) (λ e. inr (opener_before (omega arith)))),
        closed-met w.walking looked_inside w.looked done here some_root last-root c,
      ),
    )

-- The next rule of the fact is looked at.
pub record AtRule (P : Program) (seen stack roots todo next ranks : List ℕ) (s : Standing) (fact i : ℕ) : Type 0 where
  pub stands : Stands P seen stack roots todo next ranks s
  pub some_open : 0 < s.height
  pub is_fact : fact ≡ fact_at stack s.at
  pub is_rule : get_or todo fact 0 ≡ i
  pub not_end : i ≡ thread_end → ⊥

module _ {P : Program} {seen stack roots todo next ranks : List ℕ} {s : Standing} {fact i : ℕ} (l : AtRule P seen stack roots todo next ranks s fact i) where
  abbrev w : Stands P seen stack roots todo next ranks s
  w = l.stands

  abbrev now_here : Current roots s.height s.roots s.at
  now_here = here w l.some_open

  -- The fact is one of the program, and the rule is a rule of it.
  fact-low : fact < P.facts
  fact-low = rw l.is_fact (w.walking.fact_there s.at now_here.inside).0

  fact_small : fact < max_facts narrow
  fact_small = omega (arith, fact-low, w.walking.few)

  own-rule : RuleOf P fact i
  own-rule =
      ⊎_elim
      (λ e. absurd (l.not_end (sym l.is_rule ∙ e)))
      (λ h. subst (RuleOf P fact) l.is_rule h)
      (w.threads.todo_rule fact fact-low)

  pub rule_known : i < count P
  rule_known = own-rule.known

  pub rule-in_force : in_force P i ≡ true
  rule-in_force = own-rule.in-force

  own-place : seen_of seen fact ≡ s.at
  own-place = rw l.is_fact (w.walking.fact_there s.at now_here.inside).1

  concludes : (rule P i).conclusion ≡ fact_at stack s.at
  concludes = own-rule.concludes ∙ l.is_fact

  -- A fact that was not met is opened, and is looked at then.
  module _ {f : FactId} (barring : Bool) (found : LookFinds P i seen ranks (Ok (Unmet f barring))) where
    pub may_open_it : ((length seen ≡ max_facts narrow) × (length stack ≡ max_facts narrow) × (length roots ≡ max_facts narrow)) × ((s.height < max_facts narrow) × (s.roots ≤ s.height) × (s.at < max_facts narrow) × (f.0 < max_facts narrow))
    may_open_it = ((w.walking.seen_places, w.walking.stack_places, w.walking.root_places), (few_open w l.some_open, few_roots w l.some_open, looked_small w l.some_open, omega (arith, found.1.0, w.walking.few)))

    pub opened :
        (seen' stack' roots' : List ℕ)
        → (Walking P seen stack roots s.height s.roots → (0 < s.height → Current roots s.height s.roots s.at) → f.0 < P.facts → seen_of seen f.0 ≡ unmet → MayOpen P stack s.height f.0 barring → Opened P seen stack roots s.height s.roots s.at f.0 seen' stack' roots')
        → Turned P seen todo s next (record { height = s.height + 1; roots = s.roots + 1; at = s.height }) seen' stack' roots' todo ranks
    opened seen' stack' roots' opens =
        let o = opens w.walking w.current found.1.0 found.1.1 (may_open w.walking now_here i rule_known rule-in_force concludes f.0 barring found.0) in (
          record {
            walking = o.walking;
            current = λ _. record { inside = omega arith; no_root_behind = λ t u. omega (arith, (o.walking.root_inside t u).1) };
            threads = w.threads;
            so_far = w.so_far;
            looked = looked_opened w.walking w.looked found.1.0 found.1.1 o;
          },
          (fewer_left _ _ s.height s.at (s.height + 1) s.height (omega (arith, o.fewer)) (few_open w l.some_open), opened-met w.walking w.looked found.1.0 found.1.1 o),
        )

  -- A constraint that is open closes a cycle.
  pub barred-look : {e : Cyclic} → LookFinds P i seen ranks (Err e) → Cycle P (in_force P)
  barred-look (k, (named, (low, is_open))) = open_constraint_cycle w.walking now_here i rule_known rule-in_force concludes k named low is_open

  -- All facts of the rule were met. Its conclusion gets the rank that they ask; the roots behind the lowest open premise go, or a cycle is met.
  module _ {low high : ℕ} (met : LookFinds P i seen ranks (Ok (Seen low high))) where
    asked-rank : RanksSoFar P (set ranks fact high)
    asked-rank = raised P ranks fact high fact_small (omega (arith, high_few w.walking w.looked met.0.1, w.walking.few)) (λ rank r. subst (λ f. high ≤ rank f) own-rule.concludes (met.0.1.under rank r)) w.so_far

    pub merged_cycle : {e : Cyclic} → Merges roots s.roots low (Err e) → Cycle P (in_force P)
    merged_cycle {e} gone =
        ⊎_elim
        (λ none. absurd (none_cycle w.walking e (rw none at gone)))
        (λ (g, (named, (below, (place, is_open)))). merge_cycle w.walking now_here i rule_known rule-in_force concludes g low named below place is_open e gone)
        met.0.0

    left-walking : (left : ℕ) → Gone roots s.roots low left → Walking P seen stack roots s.height left
    left-walking left gone =
        ⊎_elim
        (λ e. none_merged w.walking left (rw e at gone))
        (λ (g, (named, (below, (place, is_open)))). merged w.walking now_here i rule_known rule-in_force concludes g low named below place is_open left gone)
        met.0.0

    -- The rule is done with: the fact's next one follows it in the thread. Its rank is raised where it was below the one that is asked.
    pub looked-on :
        {left : ℕ} (j : ℕ) (ranks' : List ℕ) → Merges roots s.roots low (Ok left) → j ≡ i → ((ranks' ≡ set ranks fact high) × (rank_in ranks fact < high)) ⊎ ((ranks' ≡ ranks) × (high ≤ rank_in ranks fact))
        → Turned P seen todo s next (record { height = s.height; roots = left; at = s.at }) seen stack roots (set todo fact (get_or next j 0)) ranks'
    looked-on {left} j ranks' gone same ranked =
        rw same (
          record {
            walking = left-walking left gone.0;
            current = λ _. current_fewer roots s.height s.roots left s.at gone.0.0 now_here;
            threads = followed w.threads w.walking.few fact-low l.is_rule own-rule;
            so_far = ⊎_elim (λ e. rw e.0 asked-rank) (λ e. rw e.0 w.so_far) ranked;
            looked =
                looked_done
                (record {
                  walking = w.walking;
                  looked = w.looked;
                  current = now_here;
                  threads = w.threads;
                  low_fact = fact-low;
                  is_place = own-place;
                  is_rule = l.is_rule;
                  own = own-rule;
                  asked = met.0.1;
                  premises_noted = met.1.0;
                  constraints_noted = met.1.1;
                })
                (left-walking left gone.0) gone.0.0 gone.1 (rank_raised (omega (arith, fact_small, w.so_far.places)) ranked);
          },
          (
            fewer_left _ _ s.height s.at s.height s.at
                (omega (arith, less-followed w.threads w.walking.few fact-low l.is_rule own-rule w.looked.few_rules))
                (looked_small w l.some_open),
            λ f e. e,
          ),
        )
