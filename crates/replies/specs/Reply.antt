-- Each operation's answer as plain numbers: the refusal's, 0 where there is none, and the answer's values, all 0 on a refusal.
use Rattle.std.specs.Prelude.{ℕ, List, Result, Ok, Err, Bool}
use Rattle.items.specs.declared.refusal.Refusal.{Refusal}
use Rattle.reader.specs.declared.answer.AcceptedFile.{AcceptedFile}
use Rattle.items.specs.Item.{narrow, step_width}
use Rattle.reader.specs.Accept as accept
use Rattle.run.specs.declared.answer.Ran.{Ran}
use Rattle.run.specs.Outcome as ran
use Rattle.search.specs.Outcome as searched
use Rattle.keeping.specs.Outcome as grounds
use Rattle.layers.specs.Outcome as layered
use Rattle.generator.specs.Outcome as loaded
use Rattle.better.specs.declared.answer.Choice.{Choice}
use Rattle.better.specs.Outcome as better
use Rattle.replies.specs.declared.ChoiceReply.{ChoiceReply}
use Rattle.replies.specs.declared.Count.{Count}
use Rattle.replies.specs.declared.FileReply.{FileReply}
use Rattle.replies.specs.declared.RunCounts.{RunCounts}
use Rattle.replies.specs.declared.Verdict.{Verdict}
use Rattle.items.specs.Answer.{answer_number, verdict_in, count_in}
use Rattle.run.specs.Outcome.{run_stages, run_steps}

-- The bytes of one step.
abbrev pub bytes_of_step : Result AcceptedFile Refusal → ℕ
bytes_of_step (Ok c) = step_width narrow
bytes_of_step (Err r) = 0

unfoldable pub file_of : Result AcceptedFile Refusal → FileReply
file_of a =
    record {
      refusal = answer_number a;
      facts = accept.facts a;
      rules = accept.rules a;
      exceptions = accept.exception_rules a;
      constraints = accept.constraints a;
      step_bytes = bytes_of_step a;
    }

-- The answers of a run and of a search.
unfoldable pub counts_of : Result Ran Refusal → RunCounts
counts_of a = record { refusal = answer_number a; stages = run_stages a; steps = run_steps a }

-- The answers of the judge and of the proof check.
unfoldable pub verdict_of : Result Bool Refusal → Verdict
verdict_of a = record { refusal = answer_number a; verdict = verdict_in a }

-- The answers of the operations that give one count: the grounds, the order by rank and the load.
unfoldable pub count_of : Result ℕ Refusal → Count
count_of a = record { refusal = answer_number a; count = count_in a }

unfoldable pub reply_of_choice : Result Choice Refusal → ChoiceReply
reply_of_choice a = record { refusal = answer_number a; which = better.which a }

-- The reply of a run and the three buffers, from the run's outcome.
pub record RunReply : Type 0 where
  pub reply : RunCounts
  pub fact_marks : List ℕ
  pub rule_marks : List ℕ
  pub steps : List ℕ

unfoldable pub run_reply : ran.RunOutcome → RunReply
run_reply o =
    record {
      reply = counts_of o.answer;
      fact_marks = o.fact_marks;
      rule_marks = o.rule_marks;
      steps = o.steps;
    }

-- The reply of the grounds for one fact and the three buffers, from their outcome.
pub record GroundsReply : Type 0 where
  pub reply : Count
  pub fact_marks : List ℕ
  pub rule_marks : List ℕ
  pub steps : List ℕ

unfoldable pub grounds_reply : grounds.GroundsOutcome → GroundsReply
grounds_reply o =
    record {
      reply = count_of o.answer;
      fact_marks = o.fact_marks;
      rule_marks = o.rule_marks;
      steps = o.steps;
    }

-- The reply of a search and the four buffers, from the search's outcome.
pub record SearchReply : Type 0 where
  pub reply : RunCounts
  pub fact_marks : List ℕ
  pub rule_marks : List ℕ
  pub steps : List ℕ
  pub order : List ℕ

unfoldable pub search_reply : searched.SearchOutcome → SearchReply
search_reply o =
    record {
      reply = counts_of o.answer;
      fact_marks = o.fact_marks;
      rule_marks = o.rule_marks;
      steps = o.steps;
      order = o.order;
    }

-- The reply of asking for the order by rank and the buffer, from its outcome.
pub record LayeredReply : Type 0 where
  pub reply : Count
  pub order : List ℕ

unfoldable pub layered_reply : layered.LayeredOutcome → LayeredReply
layered_reply o = record { reply = count_of o.answer; order = o.order }

-- The reply of making a test load and the buffer, from its outcome.
pub record LoadReply : Type 0 where
  pub reply : Count
  pub out : List ℕ

unfoldable pub load_reply : loaded.LoadOutcome → LoadReply
load_reply o = record { reply = count_of o.answer; out = o.out }
