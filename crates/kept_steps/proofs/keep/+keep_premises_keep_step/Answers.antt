-- `keep_step` and `keep_premises`: keeping a step keeps the steps of its rule's premises, which stand before it.
use Prim.Native.Nat.{ℕ, ◌+◌, ◌*◌, ◌<◌}
use mathlib.Core.Path.{subst, sym, ◌∙◌}
use native.Mathlib.Omega.{arith}
use Rattle.theory.proofs.Lists.{element_below}
use Rattle.items.specs.Item.{narrow, max_facts, has}
use Rattle.tables.proofs.ProgramHeld.{facts_below}
use Rattle.kept_steps.specs.Keep.{place_of}
use Rattle.kept_steps.proofs.StepsPlaced.{rule_known, premise-before}
use Rattle.kept_steps.proofs.KeepLaws.{kept-already, new_kept, one_kept, all-kept}
use Rattle.kept_steps.proofs.keep.+keep_premises_keep_step.Goals as goal
use Rattle.kept_steps.proofs.keep.+keep_premises_keep_step.Goals.{keep_premises-After-wide, keep_premises-then-not-known, keep_premises-else-not-known}

-- a premise is one of the facts, and its step stands before
fact-inside : {t : ℕ} (c : keep_premises-After-wide t) → c.wide.result < max_facts narrow
fact-inside c =
    omega
    (arith, c.wide.ensures, element_below _ _ _ c.premises-fact-items.ensures.facts_below c.loop-fact-test.true, facts_below c.args.tables.now.well_formed)

earlier-inside : {t : ℕ} (c : keep_premises-After-wide t) → place_of c.args.places.now c.wide.result < c.args.k
earlier-inside c =
    rw c.wide.ensures
    (premise-before c.args.row.now _ _ c.requires.may_keep.traced c.requires.may_keep.placed c.requires.may_keep.inside c.premises-fact-items.ensures.elements c.loop-fact-test.true)

pub keep_premises-premises-fact-items-requires : goal.keep_premises-premises-fact-items-requires
keep_premises-premises-fact-items-requires t c = rule_known _ c.args.row.now c.requires.may_keep.traced _ c.requires.may_keep.inside

pub keep_premises-bounds-places-wide : goal.keep_premises-bounds-places-wide
keep_premises-bounds-places-wide t c = fact-inside (goal.at.keep_premises-bounds-places-wide t c).After-wide

pub keep_premises-is_kept-known-requires : goal.keep_premises-is_kept-known-requires
keep_premises-is_kept-known-requires t c = omega (arith, earlier-inside (goal.at.keep_premises-is_kept-known-requires t c).After-wide, c.requires.may_keep.few, c.requires.may_keep.inside)

pub keep_premises-keep_step-requires : goal.keep_premises-keep_step-requires
keep_premises-keep_step-requires t c =
    let may = c.requires.may_keep in
    let earlier = earlier-inside (goal.at.keep_premises-keep_step-requires t c).After-wide in (
      subst (λ (j : ℕ). place_of c.args.places.now c.wide.result * 2 + 1 < j) c.decreases (omega arith),
      record { few = may.few; cells = c.loop-fact.invariant.cells; traced = may.traced; placed = may.placed; inside = omega arith },
    )

pub keep_premises-loop-fact-preserved : goal.keep_premises-loop-fact-preserved
unfolding has
keep_premises-loop-fact-preserved t c =
    elim c.if-not-known.branch [
      | keep_premises-then-not-known w ↦ rw w.kept-is (one_kept c.loop-fact.invariant _ c.loop-fact-test.true w.keep_step.ensures.kept_len (rw (← c.wide.ensures) w.keep_step.ensures.keeps))
      | keep_premises-else-not-known w ↦ rw w.kept-is (one_kept c.loop-fact.invariant _ c.loop-fact-test.true c.loop-fact.invariant.cells (rw (← c.wide.ensures) (kept-already _ _ (sym c.is_kept-known.ensures ∙ w.if-not-known.false))))
    ]

pub keep_premises-returns-clause-keeps : goal.keep_premises-returns-clause-keeps
keep_premises-returns-clause-keeps t c = rw (← c.premises-fact-items.ensures.elements) (all-kept c.loop-fact.invariant c.loop-fact-test.false)

pub keep_step-returns-clause-keeps : goal.keep_step-returns-clause-keeps
keep_step-returns-clause-keeps t c =
    let may = c.requires.may_keep in
    new_kept c.args.row.now c.args.kept.now may.traced may.placed may.inside (omega (arith, may.few, may.cells)) c.keep_premises.ensures.keeps
