-- `better`: the slice of the order chosen, or none of the bytes of the first.
use mathlib.Core.Path.{refl, sym, ap, ◌∙◌}
use Rattle.std.specs.Prelude.{Ok}
use Rattle.better.proofs.Chosen.{first_back, second_back, none_back}
use Rattle.better.proofs.better.Goals as goal

pub returns-in-Ok-First : goal.returns-in-Ok-First
returns-in-Ok-First c =
    let back = first_back c.args.file.now c.args.first c.args.second (sym c.choose.ensures.value ∙ c.in-Ok-First.is ∙ ap Ok c.in-Ok-First.field-0-is) in
    record { result_value = back.0; handed_back = back.1 }

pub returns-in-Ok-Second : goal.returns-in-Ok-Second
returns-in-Ok-Second c =
    let back = second_back c.args.file.now c.args.first c.args.second (sym c.choose.ensures.value ∙ c.in-Ok-Second.is ∙ ap Ok c.in-Ok-Second.field-0-is) in
    record { result_value = back.0; handed_back = back.1 }

pub returns-in-Err : goal.returns-in-Err
returns-in-Err c = record {
  result_value = (none_back c.args.file.now c.args.first c.args.second _ (sym c.choose.ensures.value ∙ c.in-Err.is) _ refl refl).0;
  handed_back = (none_back c.args.file.now c.args.first c.args.second _ (sym c.choose.ensures.value ∙ c.in-Err.is) _ refl refl).1;
}
