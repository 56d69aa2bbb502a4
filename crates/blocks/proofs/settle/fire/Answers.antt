-- `fire`: the whole body is met, and its lanes join the conclusion's.
use Prim.Native.Nat.{ℕ, ◌<◌}
use mathlib.Core.Path.{◌≡◌, ap}
use mathlib.Core.Bool.{true}
use mathlib.Core.List.{List}
use native.Mathlib.Omega.{arith}
use borrow.Author.Tests.{lt-ltb, ltb-true}
use lib.Dec.{ltb}
use Rattle.theory.specs.Rule.{all}
use Rattle.theory.proofs.Lists.{all-mono}
use Rattle.items.specs.Item.{narrow, max_facts}
use Rattle.tables.proofs.ProgramHeld.{facts_below}
use Rattle.tables.proofs.PartsHeld.{all-reversed}
use Rattle.blocks.proofs.RulesPlaced.{fact_below}
use Rattle.blocks.proofs.LanesFired.{met_in, rule-fired}
use Rattle.blocks.proofs.settle.fire.Goals as goal

-- the facts of the program have their words
words_there : {n : ℕ} → n < max_facts narrow → (facts : List ℕ) → all (λ f. ltb f n) facts ≡ true → all (λ f. ltb f (max_facts narrow)) facts ≡ true
words_there {n} few facts a = all-mono (λ f. ltb f n) (λ f. ltb f (max_facts narrow)) facts (λ f t. lt-ltb f (max_facts narrow) (omega (arith, ltb-true f n t))) a

pub meet_all-requires : goal.meet_all-requires
meet_all-requires c = words_there (facts_below c.args.tables.now.well_formed) _ c.premises.ensures.facts_below

pub meet_all-requires-2 : goal.meet_all-requires-2
meet_all-requires-2 c = words_there (facts_below c.args.tables.now.well_formed) _ c.constraints.ensures.facts_below

pub join-requires : goal.join-requires
join-requires c = fact_below c.args.tables.now.well_formed c.requires.0 c.conclusion-fact.ensures

pub returns : goal.returns
returns c =
    rule-fired _ _ c.requires.1 (ap (λ f. f.0) c.conclusion-fact.ensures)
    (met_in (λ p. ap (all p) c.premises.ensures.elements) c.meet_all.ensures)
    (met_in (all-reversed _ c.constraints.ensures.elements) c.meet_all-2.ensures)
    c.join.ensures
