-- The operations for callers in C and Rust as calls (see Calls): each is one of those, and replies in plain numbers.
use Rattle.std.specs.Prelude.{ℕ, List, [], ◌∷◌}
use Rattle.reader.specs.Accept.{accept_of}
use Rattle.run.specs.Outcome.{run_outcome}
use Rattle.keeping.specs.Outcome.{grounds_outcome}
use Rattle.judge.specs.Judged.{judged}
use Rattle.proofcheck.specs.Checked.{checked}
use Rattle.search.specs.Outcome.{search_outcome}
use Rattle.layers.specs.Outcome.{layered_outcome}
use Rattle.better.specs.Outcome.{choice_of}
use Rattle.generator.specs.Outcome.{load_outcome}
use Rattle.replies.specs.declared.ChoiceReply.{ChoiceReply}
use Rattle.replies.specs.declared.FileReply.{FileReply}
use Rattle.replies.specs.declared.Verdict.{Verdict}
use Rattle.replies.specs.Reply.{file_of, verdict_of, RunReply, run_reply, SearchReply, search_reply, GroundsReply, grounds_reply, LayeredReply, layered_reply, LoadReply, load_reply, reply_of_choice}
use Rattle.demands.specs.Calls.{Reply, Call, accept_call, run_call, grounds_call, judge_call, check_call, search_call, layered_call, choose_call, load_call}

-- A call with another reply.
abbrev pub replying : Call → Reply → Call
replying c reply = record { questions = c.questions; own = c.own; lent = c.lent; reply = reply }

-- `retention_accept`: with the bytes of one step beside the counts.
abbrev pub retention_accept_call : List ℕ → Call
retention_accept_call file = replying (accept_call file) (counted (file_of (accept_of file)))
  where
    counted : FileReply → Reply
    counted c =
        record {
          number = c.refusal;
          counts = c.facts ∷ c.rules ∷ c.exceptions ∷ c.constraints ∷ c.step_bytes ∷ [];
          left = [];
        }

-- `retention_run`
abbrev pub retention_run_call : List ℕ → List ℕ → List ℕ → List ℕ → List ℕ → Call
retention_run_call file order facts rules steps =
    replying (run_call file order facts rules steps) (counted (run_reply (run_outcome file order facts rules steps)))
  where
    counted : RunReply → Reply
    counted o =
        record {
          number = o.reply.refusal;
          counts = o.reply.stages ∷ o.reply.steps ∷ [];
          left = o.fact_marks ∷ o.rule_marks ∷ o.steps ∷ [];
        }

-- `retention_grounds`
abbrev pub retention_grounds_call : List ℕ → List ℕ → ℕ → List ℕ → List ℕ → List ℕ → Call
retention_grounds_call file order fact facts rules steps =
    replying (grounds_call file order fact facts rules steps) (counted (grounds_reply (grounds_outcome file order fact facts rules steps)))
  where
    counted : GroundsReply → Reply
    counted o =
        record {
          number = o.reply.refusal;
          counts = o.reply.count ∷ [];
          left = o.fact_marks ∷ o.rule_marks ∷ o.steps ∷ [];
        }

-- `retention_judge` and `retention_check`
abbrev pub verdict_replied : Verdict → Reply
verdict_replied v = record { number = v.refusal; counts = v.verdict ∷ []; left = [] }

abbrev pub retention_judge_call : List ℕ → List ℕ → List ℕ → Call
retention_judge_call file list set = replying (judge_call file list set) (verdict_replied (verdict_of (judged file list set)))

abbrev pub retention_check_call : List ℕ → List ℕ → ℕ → List ℕ → Call
retention_check_call file set fact row =
    replying (check_call file set fact row) (verdict_replied (verdict_of (checked file set fact row)))

-- `retention_search`
abbrev pub retention_search_call : List ℕ → List ℕ → List ℕ → List ℕ → List ℕ → Call
retention_search_call file facts rules steps order =
    replying (search_call file facts rules steps order) (counted (search_reply (search_outcome file facts rules steps order)))
  where
    counted : SearchReply → Reply
    counted o =
        record {
          number = o.reply.refusal;
          counts = o.reply.stages ∷ o.reply.steps ∷ [];
          left = o.fact_marks ∷ o.rule_marks ∷ o.steps ∷ o.order ∷ [];
        }

-- `retention_layered`
abbrev pub retention_layered_call : List ℕ → List ℕ → Call
retention_layered_call file order = replying (layered_call file order) (counted (layered_reply (layered_outcome file order)))
  where
    counted : LayeredReply → Reply
    counted o = record { number = o.reply.refusal; counts = o.reply.count ∷ []; left = o.order ∷ [] }

-- `retention_better`
abbrev pub retention_better_call : List ℕ → List ℕ → List ℕ → Call
retention_better_call file first second = replying (choose_call file first second) (counted (reply_of_choice (choice_of file first second)))
  where
    counted : ChoiceReply → Reply
    counted c = record { number = c.refusal; counts = c.which ∷ []; left = [] }

-- `retention_load`
abbrev pub retention_load_call : ℕ → ℕ → ℕ → List ℕ → Call
retention_load_call start facts rules out = replying (load_call start facts rules out) (counted (load_reply (load_outcome start facts rules out)))
  where
    counted : LoadReply → Reply
    counted o = record { number = o.reply.refusal; counts = o.reply.count ∷ []; left = o.out ∷ [] }
