-- `tell`: the rules in the row are still to be told; each one taken leaves fewer.
use Prim.Native.Nat.{◌/◌}
use native.Mathlib.Omega.{arith}
use Rattle.tables.proofs.ProgramHeld.{rules-below}
use Rattle.bits.specs.Flags.{word_bits, NoneBefore}
use Rattle.propagation.proofs.LiteralsTold.{nothing_yet, none_told, all_told, RuleTold, one_taken, turn_on, turn_concluded}
use Rattle.propagation.proofs.spread.tell.Goals as goal
use Rattle.propagation.proofs.spread.tell.Goals.{In-Some}

-- the rule taken
rule_told : (c : In-Some) → RuleTold c.loop-rule.invariant.0 c.take_from.ensures.by_index (rules-below c.args.tables.now.well_formed) c.in-Some.rule c.in-Some.is
rule_told c = one_taken c.loop-rule.invariant.0 c.take_from.ensures.by_index (rules-below c.args.tables.now.well_formed) c.in-Some.rule c.in-Some.is

-- no word before that of the rule taken has a bit left
before-there : (c : In-Some) → NoneBefore (c.in-Some.rule / word_bits) c.take_from.new.row
before-there c = c.take_from.ensures.by_index_2 _ c.in-Some.is

pub loop-rule-init : goal.loop-rule-init
loop-rule-init c = (none_told c.requires.indexed _ c.row_of-left.ensures c.requires.literal_known c.requires.spreading, nothing_yet _ _, λ k h. absurd (omega arith))

pub returns-clause-between : goal.returns-clause-between
returns-clause-between c = all_told c.loop-rule.invariant.0 c.take_from.ensures.by_index c.in_default.is

pub overflow_sub-missing : goal.overflow_sub-missing
overflow_sub-missing c = (rule_told (goal.at.overflow_sub-missing c).In-Some).some_missing

pub conclude-top-requires : goal.conclude-top-requires
conclude-top-requires c = record { rule_bound = ((rule_told (goal.at.conclude-top-requires c).In-Some).rule_known, c.loop-rule.invariant.0.spreading.on_stack) }

pub loop-rule-preserved-then-missing-rule-eq0 : goal.loop-rule-preserved-then-missing-rule-eq0
loop-rule-preserved-then-missing-rule-eq0 c = let t = turn_concluded _ _ _ _ _ (rule_told (goal.at.loop-rule-preserved-then-missing-rule-eq0 c).In-Some) c.loop-rule.invariant.1 c.if-missing-rule-eq0.true _ _ _ c.conclude-top.ensures in (t.0, t.1, before-there (goal.at.loop-rule-preserved-then-missing-rule-eq0 c).In-Some)

pub loop-rule-preserved : goal.loop-rule-preserved
loop-rule-preserved c = let t = turn_on _ _ _ _ _ (rule_told (goal.at.loop-rule-preserved c).In-Some) c.loop-rule.invariant.1 c.if-missing-rule-eq0.false in (t.0, t.1, before-there (goal.at.loop-rule-preserved c).In-Some)
