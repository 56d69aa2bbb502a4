-- `choose`: the first no; where all questions got yes, the choice on the tables.
use mathlib.Core.Path.{◌≡◌, sym, ap, ◌∙◌}
use Rattle.std.specs.Prelude.{Ok}
use Rattle.items.proofs.Passed.{passed}
use mathlib.Core.Option.{Option, none}
use Rattle.items.specs.declared.refusal.Refusal.{Refusal}
use Rattle.reader.specs.Scanned.{Tabled}
use Rattle.questions.specs.Questions.{better_no}
use Rattle.questions.proofs.NamesAsked.{said_yes, said_no}
use Rattle.better.proofs.BetterAsked.{both_right, both_may}
use Rattle.better.proofs.Chosen.{choice-refused, choice-there, chosen}
use Rattle.better.proofs.choose.Goals as goal
use Rattle.better.proofs.choose.Goals.{In_ok-ask_both}

-- every question got yes, and the tables hold the program of the file
all_right : (c : In_ok-ask_both) → ◌≡◌ {A = Option Refusal} (better_no c.args.file.now c.args.first.now c.args.second.now) none
all_right c = said_yes _ (sym c.in_ok-ask_both.was ∙ c.ask_both.ensures.value)

tabled : (c : In_ok-ask_both) → Tabled c.args.file.now c.ask_both.new.tables.cells
tabled c = c.ask_both.ensures.scanned (both_right _ _ _ (all_right c)).accepted

pub choose_tabled-requires : goal.choose_tabled-requires
choose_tabled-requires c =
    let y = (goal.at.choose_tabled-requires c).In_ok-ask_both in
    record { may_order = both_may _ _ _ (tabled y) (both_right _ _ _ (all_right y)) }

pub returns-in_err-ask_both : goal.returns-in_err-ask_both
returns-in_err-ask_both c =
    let e = passed c.from_residual.ensures ∙ choice-refused c.args.file.now c.args.first.now c.args.second.now _ (said_no _ _ (sym c.in_err-ask_both.was ∙ c.ask_both.ensures.value)) in
    record { value = e; choice_means = (chosen _ _ _ _ e).1 }

pub returns : goal.returns
returns c =
    let y = (goal.at.returns c).In_ok-ask_both in
    let e = ap Ok c.choose_tabled.ensures ∙ choice-there _ _ _ (tabled y) (all_right y) in
    record { value = e; choice_means = (chosen _ _ _ _ e).1 }
