-- Document 02, wish 5, "A test load anyone can repeat", for any three numbers and any buffer.
use Rattle.std.specs.Prelude.{ℕ, ◌+◌, ◌*◌, ◌%◌, ◌^◌, ◌<◌, ◌≤◌, ◌≡◌, List, [], ◌∷◌, ◌↔◌, ◌⊎◌, length, drop}
use Rattle.std.proofs.Math.Option.{none}
use Rattle.theory.specs.Rule as theory
use Rattle.theory.specs.Rule.{rule}
use Rattle.reader.specs.Questions.{program_of, file_no}
use Rattle.run.specs.Outcome.{done}
use Rattle.run.specs.Outcome.{run_outcome, run_number}
use Rattle.generator.specs.Draws.{state_after, draw}
use Rattle.generator.specs.Load.{load_bytes, rule_drawn}
use Rattle.generator.specs.Outcome.{LoadOutcome, load_outcome, load_number, load_count, file_in}
use Rattle.demands.specs.Starred.{Runs}

-- n is outside 1 to 255.
abbrev pub Outside : ℕ → Type 0
Outside n = (n ≡ 0) ⊎ (255 < n)

-- What a result is; `out` is the buffer before.
pub record LoadIs (start n m : ℕ) (out : List ℕ) (o : LoadOutcome) : Type 0 where
  -- "It returns the length written", and past the file the buffer keeps its contents.
  pub counted : load_count o.answer ≡ 5 + 6 * m
  pub bytes : file_in o ≡ load_bytes start n m
  pub out_kept : drop (load_count o.answer) o.out ≡ drop (load_count o.answer) out
  -- "Every file so written is accepted", and the reading gives back what was drawn: n facts, and m rules, each of the three facts that it drew.
  pub accepted : file_no (file_in o) ≡ none
  pub facts : (program_of (file_in o)).facts ≡ n
  pub rules : theory.count (program_of (file_in o)) ≡ m
  pub drawn : (i : ℕ) → i < m → rule (program_of (file_in o)) i ≡ rule_drawn start n i

-- "Start 0, n 4, m 1 writes 10 04 01 03 03 02 03 02 1F 00 01, which runs one stage": under every order that the run takes, in any buffers, and it takes one.
pub record LoadExample : Type 0 where
  pub bytes : load_bytes 0 4 1 ≡ 0x10 ∷ 0x04 ∷ 0x01 ∷ 0x03 ∷ 0x03 ∷ 0x02 ∷ 0x03 ∷ 0x02 ∷ 0x1F ∷ 0x00 ∷ 0x01 ∷ []
  pub one_stage : (order facts rules steps : List ℕ) → run_number (run_outcome (load_bytes 0 4 1) order facts rules steps).answer ≡ 0 → (run_outcome (load_bytes 0 4 1) order facts rules steps).answer ≡ done 1 1
  pub runs :
      Runs (load_bytes 0 4 1) (0 ∷ [])
      (record {
        answer = done 1 1;
        fact_marks = 0 ∷ 0 ∷ 2 ∷ 1 ∷ [];
        rule_marks = 1 ∷ [];
        steps = 6 ∷ 3 ∷ 0 ∷ 0 ∷ 9 ∷ 9 ∷ 9 ∷ 9 ∷ 9 ∷ 9 ∷ 9 ∷ 9 ∷ 9 ∷ 9 ∷ 9 ∷ 9 ∷ [];
      })

-- `wish_05` proves it of every three numbers and every buffer.
pub record Wish05 (start n m : ℕ) (out : List ℕ) : Type 0 where
  pub result : load_number (load_outcome start n m out).answer ≡ 0 → LoadIs start n m out (load_outcome start n m out)
  -- "Each draw adds 2,654,435,769 to the state, wrapping at 32 bits": k draws add it k times, modulo two to the 32. What a draw takes is a fact.
  pub sum : start < 2 ^ 32 → (k : ℕ) → state_after start k ≡ (start + k * 2654435769) % 2 ^ 32
  pub is_fact : 0 < n → (k : ℕ) → draw start n k < n
  -- "two controllers with the same start, n and m write equal bytes", whatever was in their buffers, and however long these are.
  pub equal_bytes : (other : List ℕ) → load_number (load_outcome start n m out).answer ≡ 0 → load_number (load_outcome start n m other).answer ≡ 0 → file_in (load_outcome start n m out) ≡ file_in (load_outcome start n m other)
  -- "It refuses n outside 1 to 255 with 53, then m above 512 with 54, then a buffer below 5 + 6 × m bytes with 55", and nothing else.
  pub fifty_three : (load_number (load_outcome start n m out).answer ≡ 53) ↔ Outside n
  pub fifty_four : (load_number (load_outcome start n m out).answer ≡ 54) ↔ ((1 ≤ n) × (n ≤ 255) × (512 < m))
  pub fifty_five : (load_number (load_outcome start n m out).answer ≡ 55) ↔ ((1 ≤ n) × (n ≤ 255) × (m ≤ 512) × (length out < 5 + 6 * m))
  pub else_written : 1 ≤ n → n ≤ 255 → m ≤ 512 → 5 + 6 * m ≤ length out → load_number (load_outcome start n m out).answer ≡ 0
