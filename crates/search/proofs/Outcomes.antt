-- The outcome of a search, by what its questions came to and by the set that was found.
use Prim.Native.Nat.{ℕ}
use mathlib.Core.Path.{◌≡◌, refl, sym, ap, ◌∙◌}
use native.Mathlib.Omega.{arith}
use mathlib.Core.List.{List, [], ◌∷◌}
use mathlib.Core.Option.{Option, none, some}
use lib.ListN.{length}
use Rattle.std.specs.Prelude as found
use Rattle.theory.specs.Rule.{FactSet, in_force}
use Rattle.theory.specs.Search.{search}
use Rattle.items.specs.declared.refusal.Refusal.{Refusal}
use Rattle.items.specs.declared.refusal.Refusal.TheVariants.{NoStableSet}
use Rattle.items.specs.Item.{has}
use Rattle.reader.specs.Questions.{program_of}
use Rattle.questions.specs.Questions.{some_stable, stable_question, early_questions, search_questions, search_no}
use Rattle.questions.specs.Parts.{early_no}
use Rattle.earliest.specs.Root.{Shown}
use Rattle.items.specs.Question.{first_no}
use Rattle.items.proofs.FirstNo.{first-no, first-yes}
use Rattle.search.specs.Outcome.{SearchOutcome, found_at, refused_with, taken_set, search_outcome}

none_found : (r : found.Option (List ℕ)) (bytes : List ℕ) → r ≡ found.None → r ≡ found.Some bytes → ⊥
none_found r bytes n s = let z : ◌≡◌ {A = ℕ} 0 1 = cc in omega arith

module _ (file facts rules steps order : List ℕ) where
  -- by the first no of all questions
  searched_no : (r : Refusal) → search_no file (length facts) (length rules) (length steps) (length order) ≡ some r → ◌≡◌ {A = SearchOutcome} (refused_with r facts rules steps order) (search_outcome file facts rules steps order)
  unfolding search_outcome
  searched_no r e = sym (rw (e, search_outcome))

  pub searched_refused : (r : Refusal) → early_no file (length facts) (length rules) (length steps) (length order) ≡ some r → ◌≡◌ {A = SearchOutcome} (refused_with r facts rules steps order) (search_outcome file facts rules steps order)
  unfolding search_questions
  searched_refused r e = searched_no r (first-no (early_questions file (length facts) (length rules) (length steps) (length order)) _ r e)

  module _ (e : ◌≡◌ {A = Option Refusal} (early_no file (length facts) (length rules) (length steps) (length order)) none) where
    -- what is left is the last question
    last-asked : search_no file (length facts) (length rules) (length steps) (length order) ≡ first_no (stable_question (program_of file) ∷ [])
    unfolding search_questions
    last-asked = first-yes (early_questions file (length facts) (length rules) (length steps) (length order)) _ e

    pub searched_without : ◌≡◌ {A = Option FactSet} (search (program_of file) (in_force (program_of file))) none → ◌≡◌ {A = SearchOutcome} (refused_with NoStableSet facts rules steps order) (search_outcome file facts rules steps order)
    unfolding some_stable
    searched_without q = searched_no NoStableSet (last-asked ∙ rw (q, some_stable))

    pub searched_with : (M : FactSet) → search (program_of file) (in_force (program_of file)) ≡ some M → ◌≡◌ {A = SearchOutcome} (found_at (program_of file) M facts rules steps order) (search_outcome file facts rules steps order)
    unfolding some_stable search_outcome taken_set
    searched_with M q =
        let all_yes : ◌≡◌ {A = Option Refusal} (search_no file (length facts) (length rules) (length steps) (length order)) none = last-asked ∙ rw (q, some_stable) in
        sym (rw (all_yes, search_outcome, q, taken_set))

    -- by what was found: nothing, or the bytes that show the set
    pub searched_none : (r : found.Option (List ℕ)) → r ≡ found.None → Shown (search (program_of file) (in_force (program_of file))) r → ◌≡◌ {A = SearchOutcome} (refused_with NoStableSet facts rules steps order) (search_outcome file facts rules steps order)
    searched_none r f s = go (search (program_of file) (in_force (program_of file))) refl s
      where
        go : (o : Option FactSet) → search (program_of file) (in_force (program_of file)) ≡ o → Shown o r → ◌≡◌ {A = SearchOutcome} (refused_with NoStableSet facts rules steps order) (search_outcome file facts rules steps order)
        go none q w = searched_without q
        go (some M) q w = absurd (none_found r w.0 f w.1)

    pub searched_found : (r : found.Option (List ℕ)) (bytes : List ℕ) → r ≡ found.Some bytes → Shown (search (program_of file) (in_force (program_of file))) r → ◌≡◌ {A = SearchOutcome} (found_at (program_of file) (has bytes) facts rules steps order) (search_outcome file facts rules steps order)
    searched_found r bytes t s = go (search (program_of file) (in_force (program_of file))) refl s
      where
        go : (o : Option FactSet) → search (program_of file) (in_force (program_of file)) ≡ o → Shown o r → ◌≡◌ {A = SearchOutcome} (found_at (program_of file) (has bytes) facts rules steps order) (search_outcome file facts rules steps order)
        go none q w = absurd (none_found r bytes w t)
        go (some M) q w =
            let e = w.1 in
            let same : bytes ≡ w.0 = cc in
            ap (λ (N : FactSet). found_at (program_of file) N facts rules steps order) (ap has same ∙ w.3) ∙ searched_with M q
