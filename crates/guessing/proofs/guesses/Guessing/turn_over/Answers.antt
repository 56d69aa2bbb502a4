-- `turn_over`: the guess as it was, or another under which the conflict stays.
use Rattle.guessing.proofs.ConflictRefutes.{stays}
use Rattle.guessing.proofs.guesses.Guessing.turn_over.Goals as goal

pub returns : goal.returns
returns c = stays c.args.self.now.at_base c.requires.0 _ c.turn_bit-other.ensures _ c.respond-derived.ensures _ _ c.has_bit-2.ensures c.has_bit-3.ensures c.if-has_bit-2.false
