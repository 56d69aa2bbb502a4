-- `check_accepted`: the set, then the asked fact and the row, then the test.
use mathlib.Core.Path.{◌≡◌, sym, ap, ◌∙◌}
use Rattle.items.proofs.Passed.{passed}
use mathlib.Core.Option.{Option, none}
use native.Mathlib.Omega.{arith}
use Rattle.theory.specs.Rule.{Program}
use Rattle.items.specs.declared.refusal.Refusal.{Refusal}
use Rattle.tables.proofs.ProgramHeld.{facts_below}
use Rattle.reader.specs.Questions.{program_of}
use Rattle.questions.specs.Parts.{set_no, row_no}
use Rattle.questions.proofs.NamesAsked.{said_yes, said_no}
use Rattle.proofcheck.proofs.CheckAsked.{asked-below, check_set_no, check_row_no, all-asked_yes}
use Rattle.proofcheck.proofs.accepted.check_accepted.Goals as goal
use Rattle.proofcheck.proofs.accepted.check_accepted.Goals.{After-facts-facts, In_ok-ask_set_of, In_ok-ask_row_of}

counted : (c : After-facts-facts) → c.facts-facts.result ≡ (program_of c.args.file.now).facts
counted c = c.facts-facts.ensures ∙ ap (λ (P : Program). P.facts) c.requires.1.program

set-yes : (c : In_ok-ask_set_of) → ◌≡◌ {A = Option Refusal} (set_no c.facts-facts.result c.args.set.now) none
set-yes c = said_yes _ (sym c.in_ok-ask_set_of.was ∙ c.ask_set_of.ensures)

row-yes : (c : In_ok-ask_row_of) → ◌≡◌ {A = Option Refusal} (row_no c.facts-facts.result c.args.fact c.args.proof.now) none
row-yes c = said_yes _ (sym c.in_ok-ask_row_of.was ∙ c.ask_row_of.ensures)

pub returns-in_err-ask_set_of : goal.returns-in_err-ask_set_of
returns-in_err-ask_set_of c = passed c.from_residual.ensures ∙ check_set_no _ _ _ _ c.requires.0 _ (counted (goal.at.returns-in_err-ask_set_of c).After-facts-facts) _ (said_no _ _ (sym c.in_err-ask_set_of.was ∙ c.ask_set_of.ensures))

pub returns-in_err-ask_row_of : goal.returns-in_err-ask_row_of
returns-in_err-ask_row_of c = passed c.from_residual-in_err-ask_row_of.ensures ∙ check_row_no _ _ _ _ c.requires.0 _ (counted (goal.at.returns-in_err-ask_row_of c).After-facts-facts) (set-yes (goal.at.returns-in_err-ask_row_of c).In_ok-ask_set_of) _ (said_no _ _ (sym c.in_err-ask_row_of.was ∙ c.ask_row_of.ensures))

pub overflow_cast-fact : goal.overflow_cast-fact
overflow_cast-fact c = omega (arith, asked-below _ _ _ (row-yes (goal.at.overflow_cast-fact c).In_ok-ask_row_of), c.facts-facts.ensures, facts_below c.requires.1.well_formed)

pub returns : goal.returns
returns c = all-asked_yes _ _ _ _ c.requires.0 _ (counted (goal.at.returns c).After-facts-facts) (set-yes (goal.at.returns c).In_ok-ask_set_of) (row-yes (goal.at.returns c).In_ok-ask_row_of) _ c.is_proof.ensures
