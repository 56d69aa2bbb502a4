-- `grounds_tabled`: what the run leaves in memory is written, of its steps only those that are kept.
use Prim.Native.Nat.{◌<◌, ◌≤◌}
use mathlib.Core.Path.{◌≡◌, sym, ◌∙◌}
use mathlib.Core.Bool.{true}
use native.Mathlib.Omega.{arith}
use lib.ListN.{length, take}
use lib.Seq.{length-take-le}
use Rattle.items.specs.Item.{narrow, max_facts, has}
use Rattle.tables.proofs.ProgramHeld.{facts_below}
use Rattle.questions.specs.Questions.{named_in}
use Rattle.tables.specs.Held.{held}
use Rattle.stage.specs.Memory.{Holds}
use Rattle.run.specs.Stands.{run_in}
use Rattle.run.proofs.MemoryShown.{outset-held}
use Rattle.run.proofs.RunHeld.{may_write}
use Rattle.keeping.proofs.GroundsTold.{marked-small, front-known, fired-length, fired-traced, marked-fired, told-not, told-given}
use Rattle.keeping.proofs.tabled.grounds_tabled.Goals as goal
use Rattle.keeping.proofs.tabled.grounds_tabled.Goals.{After-from-count, After-keep_grounds-n, Else-not-is_derived}

-- the fact is marked
marked : (c : Else-not-is_derived) → has c.run_in_memory-taken.new.marks c.args.fact ≡ true
marked c = sym c.is_derived.ensures ∙ c.if-not-is_derived.false

-- the memory holds the run with so many steps
holds : (c : After-from-count) → Holds (held c.args.tables.now) (run_in c.args.tables.now.cells c.args.order.now) c.run_in_memory-taken.new.marks c.run_in_memory-taken.new.fired c.from-count.result
holds c = rw c.from-count.ensures c.run_in_memory-taken.ensures.held_2.holds

-- the steps of the run
run_length : (c : After-from-count) → length (take c.from-count.result c.run_in_memory-taken.new.fired) ≡ c.from-count.result
run_length c = fired-length (named_in c.args.order.now) (facts_below c.args.tables.now.well_formed) (holds c)

-- no more are kept
fewer : (c : After-keep_grounds-n) → (c.keep_grounds-n.result ≤ c.from-count.result) × (c.keep_grounds-n.result < max_facts narrow)
fewer c =
    let here : Holds (held c.args.tables.now) (run_in c.args.tables.now.cells c.args.order.now) c.run_in_memory-taken.new.marks c.run_in_memory-taken.new.fired c.from-count.result = rw c.from-count.ensures c.run_in_memory-taken.ensures.held_2.holds in
    let all = fired-length (named_in c.args.order.now) (facts_below c.args.tables.now.well_formed) here in
    (omega (arith, c.keep_grounds-n.ensures.upper_bound, all), omega (arith, c.keep_grounds-n.ensures.upper_bound, all, c.from-count.ensures, c.run_in_memory-taken.ensures.run_counted.few_steps))

pub run_in_memory-taken-requires : goal.run_in_memory-taken-requires
run_in_memory-taken-requires c = let p = c.requires in
    record {
      may_order = p.may_run.order_fits;
      held = outset-held _;
    }

pub returns-then-not-is_derived : goal.returns-then-not-is_derived
returns-then-not-is_derived c = told-not (named_in c.args.order.now) (facts_below c.args.tables.now.well_formed) c.run_in_memory-taken.ensures.held_2.holds c.args.fact _ _ _ (sym c.is_derived.ensures ∙ c.if-not-is_derived.true)

pub slice_bounds-keep_grounds-end : goal.slice_bounds-keep_grounds-end
slice_bounds-keep_grounds-end c = sym (run_length (goal.at.slice_bounds-keep_grounds-end c).After-from-count)

pub overflow_cast-fact : goal.overflow_cast-fact
overflow_cast-fact c = omega (arith, marked-small _ _ c.run_in_memory-taken.ensures.held_2.holds.marks_places (marked (goal.at.overflow_cast-fact c).Else-not-is_derived))

pub keep_grounds-n-requires : goal.keep_grounds-n-requires
keep_grounds-n-requires c = let order = named_in c.args.order.now in
    let here = (goal.at.keep_grounds-n-requires c).After-from-count in
    let few = facts_below c.args.tables.now.well_formed in
    record {
      row_len_bound = (omega (arith, run_length here, c.from-count.ensures, c.run_in_memory-taken.ensures.run_counted.few_steps), omega arith);
      traced = fired-traced order few (holds here);
      fact_value = marked-fired order few (holds here) _ (marked (goal.at.keep_grounds-n-requires c).Else-not-is_derived);
    }

pub write_results-requires : goal.write_results-requires
write_results-requires c = let p = c.requires in
    let kept = c.keep_grounds-n.ensures in
    let less = fewer (goal.at.write_results-requires c).After-keep_grounds-n in
    let room : c.keep_grounds-n.result ≤ length c.keep_grounds-n.new.out = omega (arith, less.1, kept.upper_bound.1) in
    record {
      writable = may_write (facts_below c.args.tables.now.well_formed) (holds (goal.at.write_results-requires c).After-from-count) p.may_run _ (omega (arith, less.0, length-take-le c.keep_grounds-n.result c.keep_grounds-n.new.out room)) (front-known (held c.args.tables.now) _ _ room kept.by_index);
    }

pub overflow_cast-result : goal.overflow_cast-result
overflow_cast-result c = omega (arith, (fewer (goal.at.overflow_cast-result c).After-keep_grounds-n).1)

pub returns : goal.returns
returns c = let here = holds (goal.at.returns c).After-from-count in
    let kept = c.keep_grounds-n.ensures in
    let wrote = c.write_results.ensures in
    told-given (named_in c.args.order.now) (facts_below c.args.tables.now.well_formed) here _ _ _ (marked (goal.at.returns c).Else-not-is_derived) kept.out_after (omega (arith, (fewer (goal.at.returns c).After-keep_grounds-n).1, kept.upper_bound.1))
    _ _ _ _ _ _
    (wrote.fact_marks_after _ here.shows.d here.shows.r)
    (wrote.rule_marks_after _ here.shows.d c.run_in_memory-taken.ensures.held_2.applied_shown)
    wrote.steps_after
