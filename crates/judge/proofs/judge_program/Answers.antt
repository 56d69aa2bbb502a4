-- `judge_program`: the list first, then the set, then the test.
use mathlib.Core.Path.{◌∙◌}
use Rattle.tables.specs.Held.{held}
use Rattle.items.proofs.Passed.{passed}
use Rattle.judge.proofs.JudgeAnswers.{no-to_list, no-to_set, set_long, set_tested}
use Rattle.judge.proofs.judge_program.Goals as goal

pub returns-in_err-ask_listed : goal.returns-in_err-ask_listed
returns-in_err-ask_listed c = passed c.from_residual.ensures ∙ no-to_list _ _ _ _ c.ask_listed.ensures.value _ c.in_err-ask_listed.was

pub returns-in_err-ask_set_of : goal.returns-in_err-ask_set_of
returns-in_err-ask_set_of c = passed c.from_residual-in_err-ask_set_of.ensures ∙ no-to_set _ _ _ _ c.ask_listed.ensures.value c.in_ok-ask_listed.was _ c.facts.ensures _ c.ask_set_of.ensures _ c.in_err-ask_set_of.was

pub is_stable-requires : goal.is_stable-requires
is_stable-requires c = set_long (held c.args.tables.now) c.args.list.now c.args.set.now _ c.ask_listed.ensures.value c.in_ok-ask_listed.was _ c.facts.ensures _ c.ask_set_of.ensures c.in_ok-ask_set_of.was

pub returns : goal.returns
returns c = set_tested (held c.args.tables.now) c.args.list.now c.args.set.now _ c.ask_listed.ensures.value c.in_ok-ask_listed.was _ c.facts.ensures _ c.ask_set_of.ensures c.in_ok-ask_set_of.was _ c.ask_listed.ensures.listed _ c.is_stable.ensures
