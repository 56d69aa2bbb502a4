-- `ask_listed`: 11 of the whole row, then the items.
use mathlib.Core.Path.{sym, ap, ◌∙◌}
use Rattle.questions.specs.Answer.{answer_of}
use Rattle.questions.proofs.OperationAsked.{not-names, list_answered, all_listed}
use Rattle.naming.proofs.order.ask_listed.Goals as goal

pub returns-then-not-whole_items : goal.returns-then-not-whole_items
returns-then-not-whole_items c = record {
  value = sym (ap answer_of (not-names _ _ (sym c.whole_items.ensures ∙ c.if-not-whole_items.true)));
  listed = tt;
}

pub returns : goal.returns
returns c = record {
  value = list_answered _ _ c.requires.fact _ (sym c.whole_items.ensures ∙ c.if-not-whole_items.false) _ c.ask_names.ensures.value;
  listed = all_listed c.args.list.now _ c.requires.fact c.ask_names.new.named c.ask_names.result c.ask_names.ensures.all_named;
}
