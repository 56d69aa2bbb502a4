-- The examples of the order of the steps: what is computed is by computing, and what it means by the theorem on the run.
use native.Mathlib.Omega.{arith}
use mathlib.Core.Path.{refl}
use mathlib.Core.List.{[], ◌∷◌}
use Rattle.theory.specs.Rule.{withheld, in_force, plain, exception, plain_rules}
use Rattle.theory.specs.Derive.{fired, derive, steps}
use Rattle.theory.specs.Stable.{facts_of}
use Rattle.theory.specs.Run.{rejected, spares, eligible, run, set_aside, fact_mark, rule_mark}
use Rattle.theory.specs.Chaining.{ReadyOn}
use Rattle.theory.proofs.Bools.{never}
use Rattle.items.specs.Item.{body_length, item_of}
use Rattle.cursors.specs.Cursor.{front, items_at}
use Rattle.reader.specs.Questions.{program_of, file_questions}
use Rattle.questions.specs.Questions.{list_questions, order_questions, buffer_questions, run_questions}
use Rattle.run.specs.Outcome.{run_written, run_outcome}
use Rattle.demands.specs.InTurn.{two_ready, one_ready, InTurnExample}
use Rattle.demands.proofs.Starred.{ran-so}

-- rule 0 of the first file and rule 1 of the second are ready from the start
zero_ready : ReadyOn (program_of two_ready) (plain_rules (program_of two_ready) (in_force (program_of two_ready))) (facts_of []) 0
unfolding plain_rules plain in_force withheld exception items_at front body_length item_of
zero_ready = record { known = omega arith; is_on = refl; premises-in = refl; conclusion_out = refl }

one-ready : ReadyOn (program_of one_ready) (plain_rules (program_of one_ready) (in_force (program_of one_ready))) (facts_of []) 1
unfolding plain_rules plain in_force withheld exception items_at front body_length item_of
one-ready = record { known = omega arith; is_on = refl; premises-in = refl; conclusion_out = refl }

pub in_turn_example : InTurnExample
unfolding run_outcome run_written run_questions buffer_questions list_questions order_questions file_questions items_at front body_length item_of run eligible rejected spares set_aside fact_mark rule_mark fired derive steps plain_rules plain exception in_force withheld
in_turn_example =
    record {
      lowest_first = record { leaves = refl; is = ran-so two_ready [] refl };
      not_highest = λ D R t. ((t 0 (omega arith)).plain_first 0 zero_ready).none_below 0 (omega arith) zero_ready;
      not_twice = λ D R t. never refl (t 1 (omega arith)).new;
      plain_first = record { leaves = refl; is = ran-so one_ready (0 ∷ []) refl };
      not_exception = λ D R t. never ((t 0 (omega arith)).plain_first 1 one-ready).ready.is_on refl;
    }
