-- `put_head`: the three counts behind their letters.
use mathlib.Core.Path.{refl}
use mathlib.Core.List.{◌∷◌, ◌++◌}
use Rattle.panel_lines.specs.Text.{space, newline, field, line, head_line}
use Rattle.questions.proofs.BytesPut.{Putting, begun, next_fits, one_put}
use Rattle.panel_lines.proofs.put.put_head.Goals as goal
use Rattle.panel_lines.proofs.put.put_head.Goals.{After-put-next, After-put-next-2, After-put_field-end, After-put_field-end-2}

-- what is still to come after each part
facts-put : (c : After-put_field-end) → let a = c.args in Putting (head_line a.facts a.rules a.stages) a.at a.out.now (space ∷ (field 0x52 a.rules ++ (space ∷ line 0x53 a.stages))) c.put_field-end.result c.put_field-end.new.out
unfolding head_line line
facts-put c = one_put (begun _ _ _ c.requires) _ _ refl _ _ c.put_field-end.ensures

rules-next : (c : After-put-next) → let a = c.args in Putting (head_line a.facts a.rules a.stages) a.at a.out.now (field 0x52 a.rules ++ (space ∷ line 0x53 a.stages)) c.put-next.result c.put-next.new.out
unfolding head_line line
rules-next c = one_put (one_put (begun _ _ _ c.requires) _ _ refl _ _ c.put_field-end.ensures) _ _ refl _ _ c.put-next.ensures

rules-put : (c : After-put_field-end-2) → let a = c.args in Putting (head_line a.facts a.rules a.stages) a.at a.out.now (space ∷ line 0x53 a.stages) c.put_field-end-2.result c.put_field-end-2.new.out
unfolding head_line line
rules-put c =
    one_put (one_put (one_put (begun _ _ _ c.requires) _ _ refl _ _ c.put_field-end.ensures) _ _ refl _ _ c.put-next.ensures) _ _ refl _ _ c.put_field-end-2.ensures

stages-next : (c : After-put-next-2) → let a = c.args in Putting (head_line a.facts a.rules a.stages) a.at a.out.now (line 0x53 a.stages) c.put-next-2.result c.put-next-2.new.out
unfolding head_line line
stages-next c =
    one_put (one_put (one_put (one_put (begun _ _ _ c.requires) _ _ refl _ _ c.put_field-end.ensures) _ _ refl _ _ c.put-next.ensures) _ _ refl _ _ c.put_field-end-2.ensures) _ _ refl _ _ c.put-next-2.ensures

pub put_field-end-requires : goal.put_field-end-requires
unfolding head_line
put_field-end-requires c = let a = c.args in
    next_fits (begun _ _ _ c.requires) _ (space ∷ (field 0x52 a.rules ++ (space ∷ (field 0x53 a.stages ++ newline)))) refl

pub put-next-requires : goal.put-next-requires
put-next-requires c = next_fits (facts-put (goal.at.put-next-requires c).After-put_field-end) _ _ refl

pub put_field-end-requires-2 : goal.put_field-end-requires-2
put_field-end-requires-2 c = next_fits (rules-next (goal.at.put_field-end-requires-2 c).After-put-next) _ _ refl

pub put-next-requires-2 : goal.put-next-requires-2
put-next-requires-2 c = next_fits (rules-put (goal.at.put-next-requires-2 c).After-put_field-end-2) _ _ refl

pub put_line-requires : goal.put_line-requires
put_line-requires c = (stages-next (goal.at.put_line-requires c).After-put-next-2).fits

pub returns : goal.returns
returns c = (stages-next (goal.at.returns c).After-put-next-2).finish _ _ c.put_line.ensures
