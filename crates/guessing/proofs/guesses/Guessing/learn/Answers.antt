-- `learn`: the conflict that stays refutes what contains the guess, or what is within it, and settles its place where it asks for no other.
use mathlib.Core.Path.{sym, ◌∙◌}
use Rattle.guessing.proofs.ConflictRefutes.{nogood_above, nogood_within, settled_out, settled_in}
use Rattle.guessing.proofs.guesses.Guessing.learn.Goals as goal

pub returns-then-mask-place : goal.returns-then-mask-place
returns-then-mask-place c =
    let b = c.args.self.now.at_base in
    let p = c.requires in
    let w = c.widen-wide.ensures in
    let inside = sym c.has_bit.ensures ∙ c.if-has_bit.true in
    record {
      refutes = nogood_above b p.between _ _ w inside;
      between_2 = settled_out b p.between _ _ w inside c.if-mask-place.true;
    }

pub returns-then-has_bit-clause-refutes : goal.returns-then-has_bit-clause-refutes
returns-then-has_bit-clause-refutes c = nogood_above c.args.self.now.at_base c.requires.between _ _ c.widen-wide.ensures (sym c.has_bit.ensures ∙ c.if-has_bit.true)

pub returns-then-mask-place-2 : goal.returns-then-mask-place-2
returns-then-mask-place-2 c =
    let b = c.args.self.now.at_base in
    let p = c.requires in
    let w = c.widen-wide.ensures in
    let out = sym c.has_bit.ensures ∙ c.if-has_bit.false in
    record {
      refutes = nogood_within b p.between _ _ w out;
      between_2 = settled_in b p.between _ _ w out c.if-mask-place-2.true;
    }

pub returns-clause-refutes : goal.returns-clause-refutes
returns-clause-refutes c = nogood_within c.args.self.now.at_base c.requires.between _ _ c.widen-wide.ensures (sym c.has_bit.ensures ∙ c.if-has_bit.false)
