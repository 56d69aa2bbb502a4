-- A rule's view (document 01: "A rule's view stays on the file as handed in and gives its items one after another"). `view_gives` in proofs/View
-- proves it.
use Rattle.std.specs.Prelude.{ℕ, ◌<◌, ◌≡◌, List}
use Rattle.std.proofs.Math.Option.{Option, none}
use Rattle.theory.specs.Rule.{count, rule}
use Rattle.items.specs.declared.refusal.Refusal.{Refusal}
use Rattle.items.specs.Item.{asks_in, asks_out}
use Rattle.reader.specs.Questions.{program_of, file_no}
use Rattle.reader.specs.Scanned.{Scanned}
use Rattle.view.specs.declared.range.Range.{Range}
use Rattle.view.specs.View.{OwnRange, items_of_rule, facts_asked, GivesEach}

pub record ViewGives (file : List ℕ) : Type 0 where
  -- Of an accepted file: the view of the range that the scan's tables have for a rule gives by repeated next exactly the rule's own items, premises
  -- and constraints among each other as they stand behind the item that opens the rule, and then ends.
  pub items : ◌≡◌ {A = Option Refusal} (file_no file) none → (tables : List ℕ) → Scanned file tables → (i : ℕ) → i < count (program_of file) → (r : Range) → OwnRange tables i r → GivesEach file r.at r.end (items_of_rule file i)
  -- Those items are all that the rule has.
  pub premises : (i : ℕ) → facts_asked asks_in (items_of_rule file i) ≡ (rule (program_of file) i).premises
  pub constraints : (i : ℕ) → facts_asked asks_out (items_of_rule file i) ≡ (rule (program_of file) i).constraints
