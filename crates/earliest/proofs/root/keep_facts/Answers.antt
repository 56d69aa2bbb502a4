-- `keep_facts`: the marks of the facts come first.
use mathlib.Core.Path.{ap}
use lib.Dec.{eqb}
use Prim.Native.Nat.{ℕ}
use Rattle.std.proofs.lemmas.List.{get_or-take}
use Rattle.items.specs.Item.{narrow, max_facts, has}
use Rattle.earliest.proofs.root.keep_facts.Goals as goal

pub returns : goal.returns
unfolding has
returns c = record {
  places = c.copy_from_slice.ensures.len;
  facts = λ f l. rw c.copy_from_slice.ensures.after (ap (λ (m : ℕ). eqb m 1) (get_or-take (max_facts narrow) c.args.marks.now f 0 l));
}
