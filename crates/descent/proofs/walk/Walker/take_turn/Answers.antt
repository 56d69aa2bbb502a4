-- `take_turn`: each way that it goes is one of the laws of a turn.
use mathlib.Core.Path.{refl}
use mathlib.Core.Logic.{inl, inr}
use native.Mathlib.Omega.{arith}
use lib.ListN.{get_or}
use Rattle.tables.specs.Held.{held}
use Rattle.std.proofs.lemmas.Result.{err_from_is_err_and}
use Rattle.descent.proofs.WalkTurned.{few_open, few_roots, may_leave, AtRule, may_open_it, opened, barred-look, may_merge, merged_cycle, looked-on}
use Rattle.descent.proofs.walk.Walker.take_turn.Goals as goal
use Rattle.descent.proofs.walk.Walker.take_turn.Goals.{Else-rule, then-self-fact, else-self-fact}

pub leave-requires : goal.leave-requires
leave-requires c = (may_leave c.requires.stands c.requires.in_range).0

pub returns-then-rule : goal.returns-then-rule
returns-then-rule c = c.leave.ensures _ _ c.requires.stands (rw (← c.fact_at-fact.ensures.0) c.if-rule.true)

-- once there is a rule to look at
looking : (c : Else-rule) → AtRule (held c.args.tables.now) c.args.self.now.seen c.args.self.now.stack c.args.self.now.roots c.args.self.now.todo c.args.next.now c.args.self.now.ranks c.args.self.now.standing c.fact_at-fact.result (get_or c.args.self.now.todo c.fact_at-fact.result 0)
looking c = record { stands = c.requires.stands; some_open = c.requires.in_range; is_fact = c.fact_at-fact.ensures.0; is_rule = refl; not_end = c.if-rule.false }

pub returns-in_err-found : goal.returns-in_err-found
returns-in_err-found c =
    let p = err_from_is_err_and c.from_residual.result c.from_residual.ensures.1 in
    rw p.1 (barred-look (looking (goal.at.returns-in_err-found c).Else-rule) c.in_err-found.ensures)

-- the fact that is opened was found
pub open_fact-requires-clause-height_bound : goal.open_fact-requires-clause-height_bound
open_fact-requires-clause-height_bound c = (may_open_it (looking (goal.at.open_fact-requires-clause-height_bound c).Else-rule) _ (rw c.in-Unmet.is at c.in_ok-found.ensures)).1

pub overflow_add-self-in-Unmet : goal.overflow_add-self-in-Unmet
overflow_add-self-in-Unmet c = omega (arith, few_roots c.requires.stands c.requires.in_range, few_open c.requires.stands c.requires.in_range)

pub merge_roots-requires : goal.merge_roots-requires
merge_roots-requires c = let may = may_merge c.requires.stands c.requires.in_range in elim c.if-self-fact.branch [ then-self-fact w ↦ rw w.self-is may | else-self-fact w ↦ rw w.self-is may ]

pub returns-in_err-self-in-Seen : goal.returns-in_err-self-in-Seen
returns-in_err-self-in-Seen c =
    let p = err_from_is_err_and c.from_residual-in_err-self-in-Seen.result c.from_residual-in_err-self-in-Seen.ensures.1 in
    rw p.1
    (elim c.if-self-fact.branch [
      | then-self-fact w ↦ merged_cycle (looking (goal.at.returns-in_err-self-in-Seen c).Else-rule) (rw c.in-Seen.is at c.in_ok-found.ensures) (rw w.self-is at c.in_err-self-in-Seen.ensures)
      | else-self-fact w ↦ merged_cycle (looking (goal.at.returns-in_err-self-in-Seen c).Else-rule) (rw c.in-Seen.is at c.in_ok-found.ensures) (rw w.self-is at c.in_err-self-in-Seen.ensures)
    ])

pub returns-in-Unmet : goal.returns-in-Unmet
returns-in-Unmet c = opened (looking (goal.at.returns-in-Unmet c).Else-rule) _ (rw c.in-Unmet.is at c.in_ok-found.ensures) _ _ _ (c.open_fact.ensures _)

pub returns-in_ok-self-in-Seen : goal.returns-in_ok-self-in-Seen
returns-in_ok-self-in-Seen c =
    let look = looking (goal.at.returns-in_ok-self-in-Seen c).Else-rule in
    elim c.if-self-fact.branch [
      | then-self-fact w ↦ rw w.self-is (looked-on look (rw c.in-Seen.is at c.in_ok-found.ensures) _ _ (rw w.self-is at c.in_ok-self-in-Seen.ensures) c.wide.ensures (inl (refl, w.if-self-fact.true)))
      | else-self-fact w ↦ rw w.self-is (looked-on look (rw c.in-Seen.is at c.in_ok-found.ensures) _ _ (rw w.self-is at c.in_ok-self-in-Seen.ensures) c.wide.ensures (inr (refl, w.if-self-fact.false)))
    ]
