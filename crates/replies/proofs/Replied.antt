-- An operation's outcome, with its answer as a reply.
use Prim.Native.Nat.{ℕ}
use mathlib.Core.Path.{◌≡◌}
use mathlib.Core.List.{List}
use Rattle.std.specs.Prelude.{Result}
use Rattle.items.specs.declared.refusal.Refusal.{Refusal}
use Rattle.run.specs.declared.answer.Ran.{Ran}
use Rattle.run.specs.Outcome as ran
use Rattle.search.specs.Outcome as searched
use Rattle.keeping.specs.Outcome as grounds
use Rattle.layers.specs.Outcome as layered
use Rattle.generator.specs.Outcome as loaded
use Rattle.replies.specs.declared.Count.{Count}
use Rattle.replies.specs.declared.RunCounts.{RunCounts}
use Rattle.replies.specs.Reply.{counts_of, count_of, RunReply, run_reply, SearchReply, search_reply, GroundsReply, grounds_reply, LayeredReply, layered_reply, LoadReply, load_reply}

pub run-replied : (a : Result Ran Refusal) (r : RunCounts) (facts rules steps : List ℕ) (o : ran.RunOutcome) → r ≡ counts_of a → ◌≡◌ {A = ran.RunOutcome} (record { answer = a; fact_marks = facts; rule_marks = rules; steps = steps }) o → ◌≡◌ {A = RunReply} (record { reply = r; fact_marks = facts; rule_marks = rules; steps = steps }) (run_reply o)
unfolding run_reply
run-replied a r facts rules steps o said left = rw (said, ← left, run_reply)

pub search-replied : (a : Result Ran Refusal) (r : RunCounts) (facts rules steps order : List ℕ) (o : searched.SearchOutcome) → r ≡ counts_of a → ◌≡◌ {A = searched.SearchOutcome} (record { answer = a; fact_marks = facts; rule_marks = rules; steps = steps; order = order }) o → ◌≡◌ {A = SearchReply} (record { reply = r; fact_marks = facts; rule_marks = rules; steps = steps; order = order }) (search_reply o)
unfolding search_reply
search-replied a r facts rules steps order o said left = rw (said, ← left, search_reply)

pub grounds-replied : (a : Result ℕ Refusal) (r : Count) (facts rules steps : List ℕ) (o : grounds.GroundsOutcome) → r ≡ count_of a → ◌≡◌ {A = grounds.GroundsOutcome} (record { answer = a; fact_marks = facts; rule_marks = rules; steps = steps }) o → ◌≡◌ {A = GroundsReply} (record { reply = r; fact_marks = facts; rule_marks = rules; steps = steps }) (grounds_reply o)
unfolding grounds_reply
grounds-replied a r facts rules steps o said left = rw (said, ← left, grounds_reply)

pub layered-replied : (a : Result ℕ Refusal) (r : Count) (order : List ℕ) (o : layered.LayeredOutcome) → r ≡ count_of a → ◌≡◌ {A = layered.LayeredOutcome} (record { answer = a; order = order }) o → ◌≡◌ {A = LayeredReply} (record { reply = r; order = order }) (layered_reply o)
unfolding layered_reply
layered-replied a r order o said left = rw (said, ← left, layered_reply)

pub load-replied : (a : Result ℕ Refusal) (r : Count) (out : List ℕ) (o : loaded.LoadOutcome) → r ≡ count_of a → ◌≡◌ {A = loaded.LoadOutcome} (record { answer = a; out = out }) o → ◌≡◌ {A = LoadReply} (record { reply = r; out = out }) (load_reply o)
unfolding load_reply
load-replied a r out o said left = rw (said, ← left, load_reply)
