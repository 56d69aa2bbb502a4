-- A rule's view gives the rule's items.
use Prim.Native.Nat.{ℕ}
use mathlib.Core.List.{List}
use Rattle.items.specs.Item.{asks_in, asks_out}
use Rattle.view.proofs.RuleRanges.{own-items, rule-given}
use Rattle.demands.specs.View.{ViewGives}

pub view_gives : (file : List ℕ) → ViewGives file
view_gives file =
    record {
      items = λ accepted tables scanned i h r o. rule-given (scanned accepted) h o;
      premises = λ i. own-items file i asks_in;
      constraints = λ i. own-items file i asks_out;
    }
