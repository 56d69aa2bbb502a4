-- `run_to`: the order gets yes, and what the run leaves is what the search leaves.
use Prim.Native.Nat.{◌≤◌}
use mathlib.Core.Path.{◌≡◌, sym, ◌∙◌}
use lib.ListN.{length}
use lib.Seq.{length-take-le}
use Rattle.theory.specs.Rule.{in_force}
use Rattle.theory.specs.Stable.{order_for}
use Rattle.items.specs.Item.{has}
use Rattle.items.specs.Write.{over}
use Rattle.reader.specs.Questions.{program_of}
use Rattle.questions.specs.Questions.{naming}
use Rattle.run.proofs.RunAsked.{run-there}
use Rattle.search.proofs.SearchAsked.{AllYesses, all_yes}
use Rattle.search.proofs.RunUnder.{front-inside, may_run_to, found_there}
use Rattle.search.proofs.found.run_to.Goals as goal
use Rattle.search.proofs.found.run_to.Goals.{After-write_order-length, Start}

-- what all the yesses tell
yesses : (c : Start) → AllYesses c.args.file.now (length c.args.fact_marks.now) (length c.args.rule_marks.now) (length c.args.steps.now) (length c.args.order.now)
yesses c = all_yes _ _ _ _ _ c.requires.order_value

-- the order is that of the file's program
order_is : (c : After-write_order-length) → (c.write_order-length.new.order ≡ over (naming (order_for (program_of c.args.file.now) (in_force (program_of c.args.file.now)) (has c.args.set.now))) c.args.order.now) × (c.write_order-length.result ≡ length (naming (order_for (program_of c.args.file.now) (in_force (program_of c.args.file.now)) (has c.args.set.now))))
order_is c = rw c.requires.tabled.program at c.write_order-length.ensures

-- the order lies inside its buffer
inside : (c : After-write_order-length) → c.write_order-length.result ≤ length c.write_order-length.new.order
inside c = front-inside (naming (order_for (program_of c.args.file.now) (in_force (program_of c.args.file.now)) (has c.args.set.now))) c.args.order.now _ _ (order_is c)

pub write_order-length-requires : goal.write_order-length-requires
write_order-length-requires c = record {
  tables_in_bounds = rw c.requires.tabled.program (yesses (goal.at.write_order-length-requires c).Start).order_fits;
}

pub slice_bounds-run_tabled-end : goal.slice_bounds-run_tabled-end
slice_bounds-run_tabled-end c = inside (goal.at.slice_bounds-run_tabled-end c).After-write_order-length

pub slice_bounds-run_tabled-end-2 : goal.slice_bounds-run_tabled-end-2
slice_bounds-run_tabled-end-2 c = sym (length-take-le _ _ (inside (goal.at.slice_bounds-run_tabled-end-2 c).After-write_order-length))

pub run_tabled-requires : goal.run_tabled-requires
run_tabled-requires c =
    let at = goal.at.run_tabled-requires c in
    record {
      may_run = may_run_to _ c.args.fact_marks.now c.args.rule_marks.now c.args.steps.now _ (yesses at.Start) _ _ _ (order_is at.After-write_order-length) c.requires.tabled;
    }

pub returns : goal.returns
returns c =
    let at = goal.at.returns c in
    found_there _ _ _ _ _ (yesses at.Start) _ _ _ (order_is at.After-write_order-length) _ _ _ _ (c.run_tabled.ensures ∙ run-there c.requires.tabled _ _ _ _)
