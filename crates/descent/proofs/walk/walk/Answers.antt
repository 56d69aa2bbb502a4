-- `walk`: between two walks no fact is open, and all facts passed were met.
use mathlib.Core.Path.{refl}
use native.Mathlib.Omega.{arith}
use Rattle.tables.specs.Held.{held}
use Rattle.std.proofs.lemmas.Result.{err_from_is_err_and}
use Rattle.tables.proofs.ProgramHeld.{facts_below, rules-below}
use Rattle.descent.proofs.WalkRested.{rests-first, all-walked, cycle_met}
use Rattle.descent.proofs.walk.walk.Goals as goal

pub thread-requires-clause-count_le_max_rules : goal.thread-requires-clause-count_le_max_rules
thread-requires-clause-count_le_max_rules c = omega (arith, c.rules.ensures, rules-below c.args.tables.now.well_formed)

pub loop-f-init : goal.loop-f-init
loop-f-init c = let held = c.args.tables.now.well_formed in
    (rests-first _ held.in_bounds (facts_below held) (rules-below held) c.keys_of-keys.ensures c.rules.ensures c.thread.ensures refl refl refl refl, λ g l. absurd (omega arith))

pub returns-in_err-walk_from : goal.returns-in_err-walk_from
returns-in_err-walk_from c = let p = err_from_is_err_and c.from_residual.result c.from_residual.ensures.1 in rw p.1 (cycle_met _ p.0 c.in_err-walk_from.ensures)

pub returns : goal.returns
returns c = let (rests, met) = c.loop-f.invariant in all-walked rests (λ f l. met f (omega (arith, c.loop-f-test.false, c.facts-facts.ensures)))
