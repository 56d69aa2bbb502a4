-- `item_of`: in each arm the kind is known, and so are the body and the item.
use Rattle.std.proofs.Common.{sym, ap, ap₂, ◌∙◌, ℕ, arith}
use Rattle.items.specs.declared.item.Item.TheVariants.{Opens, Premise, Constraint, Rules, Names, Step, Unread, Facts}
use Rattle.items.specs.Item.{body_length, item_of, fact_id, rule_id}
use Rattle.items.proofs.Bodies.{step-at}
use Rattle.items.proofs.item.item_of.Goals as goal

pub fact_field-requires : goal.fact_field-requires
unfolding body_length
fact_field-requires c = rw c.in-Facts.is at c.requires

pub fact_field-requires-in-Opens : goal.fact_field-requires-in-Opens
unfolding body_length
fact_field-requires-in-Opens c = rw c.in-Opens.is at c.requires

pub fact_field-requires-in-Premise : goal.fact_field-requires-in-Premise
unfolding body_length
fact_field-requires-in-Premise c = rw c.in-Premise.is at c.requires

pub fact_field-requires-in-Constraint : goal.fact_field-requires-in-Constraint
unfolding body_length
fact_field-requires-in-Constraint c = rw c.in-Constraint.is at c.requires

pub rule_field-requires : goal.rule_field-requires
unfolding body_length
rule_field-requires c = rw c.in-Rules.is at c.requires

pub rule_field-requires-in-Names : goal.rule_field-requires-in-Names
unfolding body_length
rule_field-requires-in-Names c = rw c.in-Names.is at c.requires

pub fact_field-requires-in-Unread : goal.fact_field-requires-in-Unread
unfolding body_length
fact_field-requires-in-Unread c = rw c.in-Unread.is at c.requires

pub fact_field-requires-in-Step : goal.fact_field-requires-in-Step
unfolding body_length
fact_field-requires-in-Step c = omega (arith, rw c.in-Step.is at c.requires)

pub rule_field-requires-in-Step : goal.rule_field-requires-in-Step
unfolding body_length
rule_field-requires-in-Step c = omega (arith, rw c.in-Step.is at c.requires)

pub returns-in-Facts : goal.returns-in-Facts
unfolding body_length item_of
returns-in-Facts c = rw c.in-Facts.is (ap Facts c.fact_field.ensures)

pub returns-in-Opens : goal.returns-in-Opens
unfolding body_length item_of
returns-in-Opens c = rw c.in-Opens.is (ap (λ (n : ℕ). Opens (fact_id n)) c.fact_field-in-Opens.ensures)

pub returns-in-Premise : goal.returns-in-Premise
unfolding body_length item_of
returns-in-Premise c = rw c.in-Premise.is (ap (λ (n : ℕ). Premise (fact_id n)) c.fact_field-in-Premise.ensures)

pub returns-in-Constraint : goal.returns-in-Constraint
unfolding body_length item_of
returns-in-Constraint c = rw c.in-Constraint.is (ap (λ (n : ℕ). Constraint (fact_id n)) c.fact_field-in-Constraint.ensures)

pub returns-in-Rules : goal.returns-in-Rules
unfolding body_length item_of
returns-in-Rules c = rw c.in-Rules.is (ap Rules c.rule_field.ensures)

pub returns-in-Names : goal.returns-in-Names
unfolding body_length item_of
returns-in-Names c = rw c.in-Names.is (ap (λ (n : ℕ). Names (rule_id n)) c.rule_field-in-Names.ensures)

pub returns-in-Unread : goal.returns-in-Unread
unfolding body_length item_of
returns-in-Unread c = rw c.in-Unread.is (ap (λ (n : ℕ). Unread (fact_id n)) c.fact_field-in-Unread.ensures)

pub returns-in-Step : goal.returns-in-Step
unfolding body_length item_of
returns-in-Step c =
    let whole = rw c.in-Step.is at c.requires in
    let p = step-at c.args.bytes.now c.args.at whole in
    rw c.in-Step.is (ap₂ (λ (f r : ℕ). Step (fact_id f) (rule_id r)) (c.fact_field-in-Step.ensures ∙ sym p.0) (c.rule_field-in-Step.ensures ∙ sym p.1))
