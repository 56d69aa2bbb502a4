-- What the last question and the answer of a search mean: whether some set is stable, and which is the earliest.
use Prim.Native.Nat.{ℕ}
use native.Mathlib.Omega.{arith}
use mathlib.Core.Path.{◌≡◌, refl, ap, fun_ext, ◌∙◌}
use mathlib.Core.Bool.{true}
use mathlib.Core.List.{List}
use mathlib.Core.Option.{Option, none, some}
use lib.ListN.{length}
use Rattle.theory.specs.Rule.{FactSet, in_force}
use Rattle.theory.specs.Conditions.{Bounded}
use Rattle.theory.specs.Stable.{Stable, order_for}
use Rattle.theory.specs.Search.{search}
use Rattle.theory.proofs.Bools.{never}
use Rattle.theory.proofs.Search.{search-earliest, search-none}
use Rattle.theory.proofs.Order.{order-reaches}
use Rattle.items.specs.declared.refusal.Refusal.{Refusal}
use Rattle.items.specs.Question as refusal
use Rattle.items.specs.Question.{no_number}
use Rattle.reader.specs.Questions.{program_of}
use Rattle.reader.proofs.Accepted.{accepted_file, bounded}
use Rattle.run.proofs.ReadMarks.{read_derived}
use Rattle.items.specs.Item.{marked}
use Rattle.questions.specs.Questions.{some_stable, StableAsked, search_no}
use Rattle.questions.specs.Parts.{early_no}
use Rattle.search.specs.Outcome.{SearchOutcome, search_number, search_outcome, search_written, found_at, SearchMeans}
use Rattle.search.proofs.SearchAsked.{all_yes}
use Rattle.search.proofs.EarlyNumbers.{early_numbers}
use Rattle.search.proofs.Outcomes.{searched_refused, searched_without, searched_with}

pub stable_asked : (file : List ℕ) → StableAsked file
unfolding some_stable
stable_asked file a = (λ t. into (search (program_of file) (in_force (program_of file))) refl t, λ s. back (search (program_of file) (in_force (program_of file))) refl s)
  where
    bounds : Bounded (program_of file)
    bounds = bounded (accepted_file file a)

    into : (o : Option FactSet) → search (program_of file) (in_force (program_of file)) ≡ o → some_stable (program_of file) ≡ true → (M : FactSet) × Stable (program_of file) (in_force (program_of file)) M
    into (some M) e t = (M, (search-earliest (program_of file) (in_force (program_of file)) bounds M e).stable)
    into none e t = never t (rw (e, some_stable))

    back : (o : Option FactSet) → search (program_of file) (in_force (program_of file)) ≡ o → (M : FactSet) × Stable (program_of file) (in_force (program_of file)) M → some_stable (program_of file) ≡ true
    back (some M) e s = rw (e, some_stable)
    back none e s = absurd (search-none (program_of file) (in_force (program_of file)) bounds e s.0 s.1)

-- the set that is read off the marks is the one that was taken
pub found-set : (file facts rules steps order : List ℕ) → Bounded (program_of file) → (M : FactSet) → Stable (program_of file) (in_force (program_of file)) M → marked (program_of file).facts 1 (found_at (program_of file) M facts rules steps order).fact_marks ≡ M
unfolding search_written
found-set file facts rules steps order b M s =
    read_derived (program_of file) b (order_for (program_of file) (in_force (program_of file)) M) facts ∙ fun_ext (order-reaches (program_of file) (in_force (program_of file)) M s)

module _ (file facts rules steps order : List ℕ) where
  abbrev o : SearchOutcome
  o = search_outcome file facts rules steps order

  abbrev no : Option Refusal
  no = search_no file (length facts) (length rules) (length steps) (length order)

  searched_number : search_number o.answer ≡ no_number no
  unfolding search_outcome search_written
  searched_number = go no refl
    where
      go : (q : Option Refusal) → no ≡ q → search_number o.answer ≡ no_number no
      go none e = rw (e, search_outcome)
      go (some r) e = rw (e, search_outcome)

  pub searched_means : SearchMeans file no o
  unfolding search_written
  searched_means = go (early_no file (length facts) (length rules) (length steps) (length order)) refl (search (program_of file) (in_force (program_of file))) refl
    where
      go : (a : Option Refusal) → early_no file (length facts) (length rules) (length steps) (length order) ≡ a → (found : Option FactSet) → search (program_of file) (in_force (program_of file)) ≡ found → SearchMeans file no o
      go (some r) e found f =
          let n : refusal.number r ≡ search_number o.answer = ap (λ (x : SearchOutcome). search_number x.answer) (searched_refused file facts rules steps order r e) in
          let t = early_numbers file (length facts) (length rules) (length steps) (length order) r e in
          record {
            numbered = searched_number;
            earliest = λ z. absurd (omega (arith, t.0));
            none_stable = λ z. absurd (t.1 (n ∙ z));
          }
      go none e none f =
          let b = bounded (accepted_file file (all_yes file (length facts) (length rules) (length steps) (length order) e).accepted) in
          let n : ◌≡◌ {A = ℕ} 41 (search_number o.answer) = ap (λ (x : SearchOutcome). search_number x.answer) (searched_without file facts rules steps order e f) in
          record {
            numbered = searched_number;
            earliest = λ z. absurd (omega arith);
            none_stable = λ _. search-none (program_of file) (in_force (program_of file)) b f;
          }
      go none e (some M) f =
          let b = bounded (accepted_file file (all_yes file (length facts) (length rules) (length steps) (length order) e).accepted) in
          let w = searched_with file facts rules steps order e M f in
          let s = search-earliest (program_of file) (in_force (program_of file)) b M f in
          record {
            numbered = searched_number;
            earliest = λ _. rw (← w, found-set file facts rules steps order b M s.stable) s;
            none_stable = λ z. absurd (found_number w z);
          }
        where
          found_number : found_at (program_of file) M facts rules steps order ≡ o → search_number o.answer ≡ 41 → ⊥
          found_number w z = let n : ◌≡◌ {A = ℕ} 0 (search_number o.answer) = ap (λ (x : SearchOutcome). search_number x.answer) w in omega arith
