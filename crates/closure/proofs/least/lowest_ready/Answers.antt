-- `lowest_ready`: what waits from here on finds what all that waited find.
use Prim.Native.Nat.{◌<◌}
use mathlib.Core.Path.{sym, ◌∙◌}
use native.Mathlib.Omega.{arith}
use Rattle.items.specs.Item.{max_rules}
use Rattle.tables.proofs.ProgramHeld.{facts_below}
use Rattle.bits.specs.Flags.{Taken, total}
use Rattle.closure.proofs.LowestReady.{none_ready, rule_known, off_passed, concluded-passed, one_found, one_left}
use Rattle.closure.proofs.least.lowest_ready.Goals as goal
use Rattle.closure.proofs.least.lowest_ready.Goals.{In-Some}

-- once a rule is taken
took : (c : In-Some) → Taken c.loop-number.invariant.p c.take.result c.take.new.row
took c = c.take.ensures.by_index c.loop-number.invariant.p c.loop-number.invariant.flags

inside : (c : In-Some) → c.in-Some.number < max_rules
inside c = c.take.ensures.falls.inside _ c.in-Some.is

falls : (c : In-Some) → total c.take.new.row < total c.loop-number.ready
falls c = c.take.ensures.falls.less _ c.in-Some.is

pub returns : goal.returns
returns c = record {
  value = none_ready c.loop-number.invariant (c.take.ensures.by_index c.loop-number.invariant.p c.loop-number.invariant.flags) c.in_default.is;
  left = tt;
}

pub conclusion_in-held-requires : goal.conclusion_in-held-requires
conclusion_in-held-requires c = record {
  rule_known = rule_known c.loop-number.invariant (took (goal.at.conclusion_in-held-requires c).In-Some) _ c.in-Some.is;
  set_len = omega (arith, c.requires.plain_indexed.1, facts_below c.args.tables.now.well_formed);
}

pub returns-then-not-held : goal.returns-then-not-held
returns-then-not-held c = let on = sym c.marked_in.ensures ∙ c.if-marked_in.true in let out = sym c.conclusion_in-held.ensures ∙ c.if-not-held.true in
    record {
      value = one_found c.loop-number.invariant (took (goal.at.returns-then-not-held c).In-Some) _ c.in-Some.is on out;
      left = one_left c.loop-number.invariant (took (goal.at.returns-then-not-held c).In-Some) _ c.in-Some.is on out;
    }

pub loop-number-preserved-else-not-held : goal.loop-number-preserved-else-not-held
loop-number-preserved-else-not-held c = concluded-passed c.loop-number.invariant (took (goal.at.loop-number-preserved-else-not-held c).In-Some) _ c.in-Some.is (sym c.conclusion_in-held.ensures ∙ c.if-not-held.false)

pub loop-number-preserved : goal.loop-number-preserved
loop-number-preserved c = off_passed c.loop-number.invariant (took (goal.at.loop-number-preserved c).In-Some) _ c.in-Some.is (sym c.marked_in.ensures ∙ c.if-marked_in.false)
