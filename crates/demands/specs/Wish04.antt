-- Document 02, wish 4, "Layered files", on any bytes at all.
use Rattle.std.specs.Prelude.{ℕ, ◌*◌, ◌<◌, ◌≤◌, ◌≡◌, false, List, ◌↔◌, length, take, drop}
use Rattle.std.proofs.Math.Option.{none}
use Rattle.theory.specs.Rule.{FactSet, Same, in_force}
use Rattle.theory.specs.Stable.{Stable}
use Rattle.theory.specs.Layers.{Ranks, LeastRanks, Cycle, ByRank}
use Rattle.items.specs.Item.{narrow, name_width}
use Rattle.reader.specs.Questions.{program_of, file_no, exceptions}
use Rattle.questions.specs.Questions.{named_in, buffers_no}
use Rattle.run.specs.Outcome.{RunOutcome, run_outcome, run_number}
use Rattle.layers.specs.Outcome.{LayeredOutcome, layered_outcome, layered_number, layered_count}
use Rattle.demands.specs.Results.{derived_set, aside_set, LeadsTo}

-- The order that was handed out: an item for each rule that is counted.
abbrev pub handed_over : LayeredOutcome → List ℕ
handed_over o = take (name_width * layered_count o.answer) o.order

-- A run gives a result and sets nothing aside, and its facts are the one stable set of the file.
pub record OneReading (file : List ℕ) (r : RunOutcome) : Type 0 where
  pub result : run_number r.answer ≡ 0
  pub none_aside : (i : ℕ) → aside_set file r i ≡ false
  pub stable : Stable (program_of file) (in_force (program_of file)) (derived_set file r)
  pub only : (M : FactSet) → Stable (program_of file) (in_force (program_of file)) M → Same M (derived_set file r)

-- What a result is; `order` is the buffer before.
pub record LayeredIs (file order : List ℕ) (o : LayeredOutcome) : Type 0 where
  -- "Give each fact its least rank .. hand out the order of exception rules by rank of conclusion, then by number": there are least ranks, and whichever they
  -- are, the order goes by them, with the withheld rules behind all others.
  pub ranked : (rank : ℕ → ℕ) × LeastRanks (program_of file) (in_force (program_of file)) rank
  pub by_rank : (rank : ℕ → ℕ) → LeastRanks (program_of file) (in_force (program_of file)) rank → ByRank (program_of file) (in_force (program_of file)) rank (named_in (handed_over o))
  -- "It returns the count of rules named", which is that of all exception rules.
  pub counted : length (named_in (handed_over o)) ≡ layered_count o.answer
  pub every_exception : layered_count o.answer ≡ exceptions (program_of file)
  -- It names every exception rule once and gets yes to 11 to 14; the run under it ends at the one stable set, with a proof for each fact of it and for no other.
  pub leads : (M : FactSet) → Stable (program_of file) (in_force (program_of file)) M → LeadsTo file (handed_over o) M
  -- "Under it the run sets nothing aside, and the file has just one stable set, which is the run's", in any buffers that suffice for the run.
  pub one_reading : (facts rules steps : List ℕ) → buffers_no narrow (program_of file) (length facts) (length rules) (length steps) ≡ none → OneReading file (run_outcome file (handed_over o) facts rules steps)
  -- Past what is written the buffer keeps its contents.
  pub order_kept : drop (name_width * layered_count o.answer) o.order ≡ drop (name_width * layered_count o.answer) order

-- `wish_04` proves it of every file and every buffer.
pub record Wish04 (file order : List ℕ) : Type 0 where
  pub result : layered_number (layered_outcome file order).answer ≡ 0 → LayeredIs file order (layered_outcome file order)
  -- "It refuses with 52, after the file's questions and the one on the order buffer, exactly the files where a cycle of dependencies goes through a constraint."
  pub fifty_two : file_no file ≡ none → name_width * exceptions (program_of file) ≤ length order → (layered_number (layered_outcome file order).answer ≡ 52) ↔ Cycle (program_of file) (in_force (program_of file))
  pub never_else : layered_number (layered_outcome file order).answer ≡ 52 → (file_no file ≡ none) × (name_width * exceptions (program_of file) ≤ length order)
  pub room_first : file_no file ≡ none → length order < name_width * exceptions (program_of file) → layered_number (layered_outcome file order).answer ≡ 34
  -- "Where such ranks exist": exactly where there is no such cycle; then the least ones exist, and the order is handed out.
  pub ranks_exactly : file_no file ≡ none → ((rank : ℕ → ℕ) × Ranks (program_of file) (in_force (program_of file)) rank) ↔ (Cycle (program_of file) (in_force (program_of file)) → ⊥)
  pub least_exist : file_no file ≡ none → (Cycle (program_of file) (in_force (program_of file)) → ⊥) → (rank : ℕ → ℕ) × LeastRanks (program_of file) (in_force (program_of file)) rank
  pub handed_out : file_no file ≡ none → name_width * exceptions (program_of file) ≤ length order → (Cycle (program_of file) (in_force (program_of file)) → ⊥) → layered_number (layered_outcome file order).answer ≡ 0
