-- `put_last`: the letter, then the end of the line.
use mathlib.Core.Path.{◌≡◌, sym, ap}
use mathlib.Core.List.{◌∷◌}
use Prim.Native.Nat.{ℕ}
use Rattle.panel_lines.specs.Text.{newline, last_line}
use Rattle.questions.proofs.BytesPut.{begun, next_fits, one_put}
use Rattle.panel_lines.proofs.put.put_last.Goals as goal
use Rattle.panel_lines.proofs.put.put_last.Goals.{Joined-none_aside, then-none_aside, else-none_aside}

-- the letter that was chosen
chosen : (c : Joined-none_aside) → last_line c.args.none_aside ≡ c.if-none_aside.letter ∷ newline
chosen c =
    ap (λ (x : ℕ). x ∷ newline)
    (elim c.if-none_aside.branch [
      | then-none_aside w ↦ rw w.if-none_aside.true (sym w.letter-is)
      | else-none_aside w ↦ rw w.if-none_aside.false (sym w.letter-is)
    ])

pub put-end-requires : goal.put-end-requires
put-end-requires c = next_fits (begun _ _ _ c.requires) _ newline (chosen (goal.at.put-end-requires c).Joined-none_aside)

pub put-requires : goal.put-requires
put-requires c = (one_put (begun _ _ _ c.requires) _ _ (chosen (goal.at.put-requires c).Joined-none_aside) _ _ c.put-end.ensures).fits

pub returns : goal.returns
returns c = (one_put (begun _ _ _ c.requires) _ _ (chosen (goal.at.returns c).Joined-none_aside) _ _ c.put-end.ensures).finish _ _ c.put.ensures
