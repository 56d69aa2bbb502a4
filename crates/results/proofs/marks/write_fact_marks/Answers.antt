-- `write_fact_marks`: the marks of the facts passed are written.
use Prim.Native.Nat.{◌<◌}
use mathlib.Core.Path.{◌≡◌, sym, ◌∙◌}
use native.Mathlib.Omega.{arith}
use lib.ListN.{length, get_or, take}
use lib.Seq.{length-take-le, get_or-take}
use Rattle.marking.specs.Marks.{barred}
use Rattle.results.proofs.MarksWritten.{none_written, one_written, all-written, a_derived, a_rejected, an_open, fact_marks}
use Rattle.results.proofs.marks.write_fact_marks.Goals as goal
use Rattle.results.proofs.marks.write_fact_marks.Goals.{Start, in-1, in-2, in_default}

-- the facts passed are as many as there are
passed : (c : Start) → length (take c.args.facts c.args.marks.now) ≡ c.args.facts
passed c = length-take-le _ _ (omega (arith, c.requires.0))

pub loop-f-init : goal.loop-f-init
loop-f-init c = none_written _ _ _

pub loop-f-preserved : goal.loop-f-preserved
loop-f-preserved c =
    let h : c.loop-f.f < c.args.facts = omega (arith, c.loop-f-test.true, passed (goal.at.loop-f-preserved c).Start) in
    let same : get_or c.args.marks.now c.loop-f.f 0 ≡ get_or (take c.args.facts c.args.marks.now) c.loop-f.f 0 = sym (get_or-take _ _ _ 0 h) in
    one_written _ _ _ _ _ c.loop-f.invariant c.requires.1 h _
    (elim c.match-mark.branch [
      | in-1 w ↦ w.out-is ∙ a_derived _ _ (same ∙ w.in-1.is)
      | in-2 w ↦ let b : get_or c.args.marks.now c.loop-f.f 0 ≡ barred = same ∙ w.in-2.is in w.out-is ∙ a_rejected _ _ (λ e. omega arith) b
      | in_default w ↦ w.out-is ∙ an_open _ _ (λ e. omega (arith, same)) (λ e. omega (arith, same))
    ])

pub returns : goal.returns
returns c = λ P s e d r. all-written _ _ _ _ _ c.loop-f.invariant (omega (arith, c.loop-f-test.false, passed (goal.at.returns c).Start)) ∙ fact_marks P s _ _ _ _ e d r
