-- `put_left`: the lines one after another; the last tells by the places whether a line A stands before it.
use mathlib.Core.Path.{refl, sym, ap}
use Prim.Native.Nat.{ℕ}
use mathlib.Core.List.{List, ◌++◌}
use lib.Dec.{eqb}
use lib.ListN.{length}
use Rattle.theory.specs.Rule.{null}
use Rattle.questions.specs.Questions.{each, row_of}
use Rattle.theory.specs.Places.{places_marked}
use Rattle.panel_lines.specs.Text.{line, step_line, last_line}
use Rattle.panel_text.specs.Left.{left_text}
use Rattle.questions.proofs.BytesPut.{Putting, begun, nothing_put, next_fits, one_put}
use Rattle.panel_text.proofs.Lengths.{none_written}
use Rattle.panel_text.proofs.lines.put_left.Goals as goal
use Rattle.panel_text.proofs.lines.put_left.Goals.{After-put_head-at, After-put_marked-at, After-put_marked-end, After-put_steps-at}

-- What is still to come after the head, the steps, the facts in R and the rules set aside.
abbrev ending : List ℕ → List ℕ
ending rule_marks = last_line (null (places_marked 2 rule_marks (length rule_marks)))

abbrev aside : List ℕ → List ℕ
aside rule_marks = each (line 0x41) (places_marked 2 rule_marks (length rule_marks)) ++ ending rule_marks

abbrev rejected : List ℕ → List ℕ → List ℕ
rejected fact_marks rule_marks = each (line 0x58) (places_marked 2 fact_marks (length fact_marks)) ++ aside rule_marks

-- Of the text, this is still to come.
head-put : (c : After-put_head-at) → let a = c.args in Putting (left_text a.stages a.fact_marks.now a.rule_marks.now a.row.now) 0 a.out.now (each step_line (row_of a.row.now) ++ rejected a.fact_marks.now a.rule_marks.now) c.put_head-at.result c.put_head-at.new.out
unfolding left_text
head-put c = one_put (begun _ _ _ c.requires.fits) _ _ refl _ _ c.put_head-at.ensures

steps-put : (c : After-put_steps-at) → let a = c.args in Putting (left_text a.stages a.fact_marks.now a.rule_marks.now a.row.now) 0 a.out.now (rejected a.fact_marks.now a.rule_marks.now) c.put_steps-at.result c.put_steps-at.new.out
unfolding left_text
steps-put c = one_put (one_put (begun _ _ _ c.requires.fits) _ _ refl _ _ c.put_head-at.ensures) _ _ refl _ _ c.put_steps-at.ensures

facts-put : (c : After-put_marked-at) → let a = c.args in Putting (left_text a.stages a.fact_marks.now a.rule_marks.now a.row.now) 0 a.out.now (aside a.rule_marks.now) c.put_marked-at.result c.put_marked-at.new.out
unfolding left_text
facts-put c =
    one_put (one_put (one_put (begun _ _ _ c.requires.fits) _ _ refl _ _ c.put_head-at.ensures) _ _ refl _ _ c.put_steps-at.ensures) _ _ refl _ _ c.put_marked-at.ensures

rules-put : (c : After-put_marked-end) → let a = c.args in Putting (left_text a.stages a.fact_marks.now a.rule_marks.now a.row.now) 0 a.out.now (last_line (eqb c.put_marked-end.result c.put_marked-at.result)) c.put_marked-end.result c.put_marked-end.new.out
unfolding left_text
rules-put c =
    nothing_put
    (one_put (one_put (one_put (one_put (begun _ _ _ c.requires.fits) _ _ refl _ _ c.put_head-at.ensures) _ _ refl _ _ c.put_steps-at.ensures) _ _ refl _ _ c.put_marked-at.ensures) _ _ refl _ _ c.put_marked-end.ensures)
    _
    (ap last_line (sym (none_written 0x41 (places_marked 2 c.args.rule_marks.now (length c.args.rule_marks.now)) _ _ _ _ c.put_marked-end.ensures)))

pub put_head-at-requires : goal.put_head-at-requires
unfolding left_text
put_head-at-requires c = let a = c.args in
    next_fits (begun _ _ _ c.requires.fits) _ (each step_line (row_of a.row.now) ++ rejected a.fact_marks.now a.rule_marks.now) refl

pub put_steps-at-requires : goal.put_steps-at-requires
put_steps-at-requires c = next_fits (head-put (goal.at.put_steps-at-requires c).After-put_head-at) _ _ refl

pub put_marked-at-requires : goal.put_marked-at-requires
put_marked-at-requires c = record {
  few_marks = c.requires.few_marks.0;
  fits = next_fits (steps-put (goal.at.put_marked-at-requires c).After-put_steps-at) _ _ refl;
}

pub put_marked-end-requires : goal.put_marked-end-requires
put_marked-end-requires c = record {
  few_marks = c.requires.few_marks.1;
  fits = next_fits (facts-put (goal.at.put_marked-end-requires c).After-put_marked-at) _ _ refl;
}

pub put_last-requires : goal.put_last-requires
put_last-requires c = (rules-put (goal.at.put_last-requires c).After-put_marked-end).fits

pub returns : goal.returns
returns c = (rules-put (goal.at.returns c).After-put_marked-end).finish _ _ c.put_last.ensures
