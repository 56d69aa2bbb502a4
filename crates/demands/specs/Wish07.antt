-- Document 02, wish 7, "The better of two orders", on any bytes at all.
use Rattle.std.specs.Prelude.{ℕ, ◌≤◌, ◌<◌, ◌≡◌, true, false, List, [], ◌∷◌, ◌⊎◌, ◌↔◌, eqb, take, Ok}
use Rattle.std.proofs.Math.Option.{none, some}
use Rattle.theory.specs.Rule.{how_many, count, exception, withheld}
use Rattle.theory.specs.Better.{FewestOfThree}
use Rattle.items.specs.declared.refusal.Refusal.{Refusal}
use Rattle.items.specs.Question.{number, no_number}
use Rattle.reader.specs.Questions.{program_of, file_no}
use Rattle.questions.specs.Questions.{naming, order_no, better_no}
use Rattle.run.specs.Outcome.{run_outcome, run_number}
use Rattle.better.specs.declared.answer.Choice.TheVariants.{First, Second}
use Rattle.better.specs.Outcome.{aside_of, choice_of, which, better_of}
use Rattle.demands.specs.Results.{aside_set}
use Rattle.demands.specs.Examples.{example_c}

-- An order of an accepted file that gets yes to 11 to 14.
pub record Questioned (file order : List ℕ) : Type 0 where
  pub accepted : file_no file ≡ none
  pub order_right : order_no (exception (program_of file)) (count (program_of file)) order ≡ none

-- The comparison of two orders: the first sets aside at most as many rules as the second.
abbrev pub NoWorse : List ℕ → List ℕ → List ℕ → Type 0
NoWorse file x y = aside_of file x ≤ aside_of file y

-- What is handed back where no question gets no.
pub record BetterIs (file first second : List ℕ) : Type 0 where
  -- "Hand back whichever of the two lent orders sets aside fewer rules, ..
  pub first_fewer : aside_of file first < aside_of file second → better_of file first second ≡ first
  pub second_fewer : aside_of file second < aside_of file first → better_of file first second ≡ second
  -- .. the first when they are equal, ..
  pub equal_first : aside_of file first ≡ aside_of file second → better_of file first second ≡ first
  -- .. as the bytes that were lent."
  pub one_of : (better_of file first second ≡ first) ⊎ (better_of file first second ≡ second)
  pub no_worse : NoWorse file (better_of file first second) first × NoWorse file (better_of file first second) second
  -- In numbers: which of the two it is, 1 or 2.
  pub which_first : (which (choice_of file first second) ≡ 1) ↔ NoWorse file first second
  pub which_second : (which (choice_of file first second) ≡ 2) ↔ (aside_of file second < aside_of file first)

-- What choosing among three by pairs gives: the first two first, or the last two.
pub record ByPairs (file x y z : List ℕ) : Type 0 where
  pub first_two : FewestOfThree (aside_of file) x y z (better_of file (better_of file x y) z)
  pub last_two : FewestOfThree (aside_of file) x y z (better_of file x (better_of file y z))
  -- it is one and the same order, and no call on the way refuses
  pub same : better_of file (better_of file x y) z ≡ better_of file x (better_of file y z)
  pub questioned : Questioned file (better_of file x y) × Questioned file (better_of file y z)

-- `wish_07` proves it of every file.
pub record Wish07 (file : List ℕ) : Type 0 where
  pub result : (first second : List ℕ) → no_number (better_no file first second) ≡ 0 → BetterIs file first second
  -- The rules that an order sets aside are those with rule mark 2 that the run under it writes; no withheld rule is among them.
  pub counted : (order facts rules steps : List ℕ) → run_number (run_outcome file order facts rules steps).answer ≡ 0 → aside_of file order ≡ how_many (λ m. eqb m 2) (take (count (program_of file)) (run_outcome file order facts rules steps).rule_marks)
  pub withheld_not : (order facts rules steps : List ℕ) → run_number (run_outcome file order facts rules steps).answer ≡ 0 → (i : ℕ) → withheld (program_of file) i ≡ true → aside_set file (run_outcome file order facts rules steps) i ≡ false
  -- "The comparison must be total, ..
  pub total : (x y : List ℕ) → NoWorse file x y ⊎ NoWorse file y x
  pub transitive : (x y z : List ℕ) → NoWorse file x y → NoWorse file y z → NoWorse file x z
  -- .. and choosing among three by pairs must give one with the fewest."
  pub by_pairs : (x y z : List ℕ) → Questioned file x → Questioned file y → Questioned file z → ByPairs file x y z
  -- "Both orders are questioned as in document 01, the first before the second, ..
  pub file-asked : (first second : List ℕ) (r : Refusal) → file_no file ≡ some r → no_number (better_no file first second) ≡ number r
  pub first_asked : (first second : List ℕ) (r : Refusal) → file_no file ≡ none → order_no (exception (program_of file)) (count (program_of file)) first ≡ some r → no_number (better_no file first second) ≡ number r
  pub second_asked : (first second : List ℕ) → Questioned file first → no_number (better_no file first second) ≡ no_number (order_no (exception (program_of file)) (count (program_of file)) second)
  -- .. and a refusal hands back an empty part of the first." That it is a part of the first is said by the contract of `better`.
  pub refused_empty : (first second : List ℕ) → 0 < no_number (better_no file first second) → better_of file first second ≡ []
  pub refused_neither : (first second : List ℕ) → 0 < no_number (better_no file first second) → which (choice_of file first second) ≡ 0
  -- "A second operation on the same inputs gives the refusal number, 0 where there is none."
  pub zero_exactly : (first second : List ℕ) → (no_number (better_no file first second) ≡ 0) ↔ (Questioned file first × Questioned file second)

-- The orders 0 1 and 1 0 of C: the first sets rule 1 aside, the second nothing. The order 1 alone gets 14.
pub record BetterExample : Type 0 where
  pub first_sets : aside_of example_c (naming (0 ∷ 1 ∷ [])) ≡ 1
  pub second_sets : aside_of example_c (naming (1 ∷ 0 ∷ [])) ≡ 0
  pub takes_second : choice_of example_c (naming (0 ∷ 1 ∷ [])) (naming (1 ∷ 0 ∷ [])) ≡ Ok Second
  pub takes_first : choice_of example_c (naming (1 ∷ 0 ∷ [])) (naming (0 ∷ 1 ∷ [])) ≡ Ok First
  pub hands_back : better_of example_c (naming (0 ∷ 1 ∷ [])) (naming (1 ∷ 0 ∷ [])) ≡ 5 ∷ 0 ∷ 1 ∷ 5 ∷ 0 ∷ 0 ∷ []
  pub equal : choice_of example_c (naming (0 ∷ 1 ∷ [])) (naming (0 ∷ 1 ∷ [])) ≡ Ok First
  pub refuses : no_number (better_no example_c (naming (0 ∷ 1 ∷ [])) (naming (1 ∷ []))) ≡ 14
  pub hands_nothing : better_of example_c (naming (0 ∷ 1 ∷ [])) (naming (1 ∷ [])) ≡ []
