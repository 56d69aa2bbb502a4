-- What the search answers for an accepted file in large enough buffers: 40 exactly when there are more than 16 constraint facts; else 41 exactly
-- when no set is stable; else a result.
use Prim.Native.Nat.{ℕ, ◌*◌, ◌≤◌}
use native.Mathlib.Omega.{arith}
use mathlib.Core.Path.{◌≡◌, refl, ◌∙◌, ap}
use mathlib.Core.Bool.{Bool, true, false}
use mathlib.Core.List.{List, [], ◌∷◌, ◌++◌}
use mathlib.Core.Logic.{inl, inr, ⊎_elim}
use mathlib.Core.Option.{Option, none, some}
use borrow.Author.Tests.{le-leb, leb-true, leb-false}
use lib.ListN.{length}
use lib.Dec.{leb}
use Rattle.theory.specs.Rule.{Program, FactSet, in_force, count}
use Rattle.theory.specs.Stable.{Stable}
use Rattle.theory.proofs.Bools.{never}
use Rattle.items.specs.declared.refusal.Refusal.{Refusal}
use Rattle.items.specs.declared.refusal.Refusal.TheVariants.{TooManyConstraints, NoStableSet}
use Rattle.items.specs.Question.{first_no}
use Rattle.items.specs.Item.{narrow, name_width, step_width}
use Rattle.reader.specs.Questions.{program_of, file_questions, file_no, exceptions, constraint_facts}
use Rattle.items.proofs.FirstNo.{first-no, first-yes}
use Rattle.questions.specs.Questions.{buffer_questions, buffers_no, guessed_question, some_stable, stable_question, limit_questions, early_questions, search_questions, search_no}
use Rattle.questions.specs.Parts.{early_no}
use Rattle.search.specs.Outcome.{SearchOutcome, search_written, search_outcome, search_number}
use Rattle.search.specs.Outcome as searching
use Rattle.search.proofs.SearchMeaning.{stable_asked}
use Rattle.demands.specs.Results.{LargeEnough, Searchable, Searches, FortyExactly}
use Rattle.demands.proofs.Outcomes.{search-refused, search-found}
use Rattle.demands.proofs.SearchIs.{search_is}

module _ (file facts rules steps order : List ℕ) where
  abbrev P : Program
  P = program_of file

  abbrev o : SearchOutcome
  o = search_outcome file facts rules steps order

  found_number : ◌≡◌ {A = Option Refusal} (search_no file (length facts) (length rules) (length steps) (length order)) none → search_number o.answer ≡ 0
  unfolding search_written
  found_number e = ap (λ (x : SearchOutcome). search_number x.answer) (search-found file facts rules steps order e)

  refused-number : (r : Refusal) → search_no file (length facts) (length rules) (length steps) (length order) ≡ some r → search_number o.answer ≡ search_number (searching.refused_with r facts rules steps order).answer
  refused-number r e = ap (λ (x : SearchOutcome). search_number x.answer) (search-refused file facts rules steps order r e)

  module _ (accepted : ◌≡◌ {A = Option Refusal} (file_no file) none) (large : LargeEnough file facts rules steps order) where
    buffers_fit : ◌≡◌ {A = Option Refusal} (buffers_no narrow P (length facts) (length rules) (length steps)) none
    unfolding buffer_questions
    buffers_fit =
        rw (le-leb P.facts (length facts) large.fact_marks, le-leb (count P) (length rules) large.rule_marks, le-leb (step_width narrow * P.facts) (length steps) large.step_items)

    -- what is left to ask
    guessed-left : early_no file (length facts) (length rules) (length steps) (length order) ≡ first_no (guessed_question P ∷ [])
    unfolding early_questions limit_questions
    guessed-left =
        first-yes (file_questions file) (buffer_questions narrow P (length facts) (length rules) (length steps) ++ limit_questions P (length order)) accepted
        ∙ (first-yes (buffer_questions narrow P (length facts) (length rules) (length steps)) (limit_questions P (length order)) buffers_fit
        ∙ rw (le-leb (name_width * exceptions P) (length order) large.rule-items))

    too_many : leb (constraint_facts P) 16 ≡ false → search_number o.answer ≡ 40
    unfolding search_questions
    too_many e =
        refused-number TooManyConstraints
        (first-no (early_questions file (length facts) (length rules) (length steps) (length order)) (stable_question P ∷ []) TooManyConstraints (guessed-left ∙ rw e))

    module _ (few : constraint_facts P ≤ 16) where
      stable_left : search_no file (length facts) (length rules) (length steps) (length order) ≡ first_no (stable_question P ∷ [])
      unfolding search_questions
      stable_left =
          first-yes (early_questions file (length facts) (length rules) (length steps) (length order)) (stable_question P ∷ [])
          (guessed-left ∙ rw (le-leb (constraint_facts P) 16 few))

      yes_found : some_stable P ≡ true → search_number o.answer ≡ 0
      yes_found e = found_number (stable_left ∙ rw e)

      no-refused : some_stable P ≡ false → search_number o.answer ≡ 41
      no-refused e = refused-number NoStableSet (stable_left ∙ rw e)

      answers : Searches file facts rules steps order o
      answers = go (some_stable P) refl
        where
          go : (b : Bool) → some_stable P ≡ b → Searches file facts rules steps order o
          go true e =
              let n : search_number o.answer ≡ 0 = yes_found e in
              let t = (stable_asked file accepted).0 e in
              record {
                none_exactly = (λ z. absurd (omega arith), λ h. absurd (h t.0 t.1));
                else_found = λ _ _. n;
                found = search_is file facts rules steps order;
                one_or_other = inl n;
              }
          go false e =
              let n : search_number o.answer ≡ 41 = no-refused e in
              let none_stable : (M : FactSet) → Stable P (in_force P) M → ⊥ = λ M m. never ((stable_asked file accepted).1 (M, m)) e in
              record {
                none_exactly = (λ _. none_stable, λ _. n);
                else_found = λ M m. absurd (none_stable M m);
                found = search_is file facts rules steps order;
                one_or_other = inr n;
              }

    pub forty_exactly : FortyExactly file o
    forty_exactly = go (leb (constraint_facts P) 16) refl
      where
        go : (b : Bool) → leb (constraint_facts P) 16 ≡ b → FortyExactly file o
        go true e =
            let few : constraint_facts P ≤ 16 = leb-true _ _ e in
            (λ n. absurd (⊎_elim (λ z. absurd (omega arith)) (λ z. absurd (omega arith)) (answers few).one_or_other), λ m. absurd (omega arith))
        go false e = (λ _. leb-false _ _ e, λ _. too_many e)

  pub searches : Searchable file facts rules steps order → Searches file facts rules steps order o
  searches c = answers c.accepted c.large c.few
