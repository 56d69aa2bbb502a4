-- The starred examples of document 01 as one joint lemma: what is computed is by computing, and what it means by the theorems on the run, the judge,
-- the proof check and the search.
use Prim.Native.Nat.{ℕ}
use native.Mathlib.Omega.{arith}
use mathlib.Core.Path.{◌≡◌, refl, sym, ◌∙◌, ap, subst}
use mathlib.Core.Bool.{true, false}
use mathlib.Core.List.{List, [], ◌∷◌}
use Rattle.std.specs.Prelude.{Ok}
use Rattle.theory.specs.Rule.{FactSet, withheld, in_force, plain, exception, constraint_fact, plain_rules}
use Rattle.theory.specs.Derive.{fired, derive, steps}
use Rattle.theory.specs.Check.{is_stable, least_of, step_holds, is_proof}
use Rattle.theory.specs.Stable.{Stable, reduct, Earliest, any_set, order_for}
use Rattle.theory.specs.Search.{guessed, fits, search}
use Rattle.theory.specs.Run.{rejected, spares, eligible, run, set_aside, fact_mark, rule_mark}
use Rattle.items.specs.Item.{body_length, item_of, has, marked}
use Rattle.cursors.specs.Cursor.{front, items_at}
use Rattle.reader.specs.Questions.{program_of, file_questions, exceptions, constraint_facts}
use Rattle.questions.specs.Questions.{list_questions, order_questions, set_questions, row_questions, buffer_questions, run_questions, judge_questions, check_questions, some_stable, limit_questions, early_questions, search_questions, naming}
use Rattle.questions.proofs.Orders.{naming-names}
use Rattle.run.specs.Outcome.{run_written, run_outcome, run_number}
use Rattle.run.proofs.ReadMarks.{marked-past}
use Rattle.judge.specs.Judged.{judged, judged_number, judged_verdict}
use Rattle.judge.specs.Judged as judge
use Rattle.judge.proofs.Meaning.{judged-means}
use Rattle.proofcheck.specs.Checked.{checked, checked_number, checked_verdict}
use Rattle.proofcheck.proofs.Meaning.{checked-means}
use Rattle.search.specs.Outcome.{search_written, taken_set, search_outcome, search_number}
use Rattle.demands.specs.Results.{found_set, set_of, RunIs, SearchIs}
use Rattle.search.proofs.SearchMeaning.{searched_means}
use Rattle.demands.specs.Examples.{example_a, example_b, example_c, example_d, example_e, example_f}
use Rattle.demands.specs.Starred.{fact_room, rule_room, step_room, order_room, runs, searches, less, IsStable, IsNotStable, IsProof, Starred}
use Rattle.demands.proofs.SetsReadBack.{set_back}
use Rattle.demands.proofs.RunIs.{run_is}
use Rattle.demands.proofs.SearchIs.{search_is}

-- What the bytes mean, by the theorems.
pub ran-so : (file order : List ℕ) → run_number (runs file order).answer ≡ 0 → RunIs file (naming order) (fact_room file) (rule_room file) (step_room file) (runs file order)
ran-so file order e = run_is file (naming order) (fact_room file) (rule_room file) (step_room file) e

stable_so : (file rs set : List ℕ) → judged file (naming rs) set ≡ Ok true → IsStable file rs set
stable_so file rs set e =
    record {
      says = e;
      is =
          subst (λ (named : List ℕ). Stable (program_of file) (less (program_of file) named) (has set)) (naming-names rs)
          (((judged-means file (naming rs) set).stable_exactly (ap judged_number e)).0 (ap judged_verdict e));
    }

not-stable_so : (file rs set : List ℕ) → judged file (naming rs) set ≡ Ok false → IsNotStable file rs set
not-stable_so file rs set e = record { says = e; is_not = not_so }
  where
    not_so : Stable (program_of file) (less (program_of file) rs) (has set) → ⊥
    not_so m =
        let listed : Stable (program_of file) (judge.unlisted (program_of file) (naming rs)) (has set) = subst (λ (named : List ℕ). Stable (program_of file) (less (program_of file) named) (has set)) (sym (naming-names rs)) m in
        let one : judged_verdict (judged file (naming rs) set) ≡ 1 = ((judged-means file (naming rs) set).stable_exactly (ap judged_number e)).1 listed in
        let zero : judged_verdict (judged file (naming rs) set) ≡ 0 = ap judged_verdict e in
        omega arith

proof_so : (file set : List ℕ) (fact : ℕ) (row : List ℕ) → checked file set fact row ≡ Ok true → IsProof file set fact row
proof_so file set fact row e =
    let t = ((checked-means file set fact row).yes_exactly (ap checked_number e)).0 (ap checked_verdict e) in
    record { says = e; proves = t.0; admitted = t.1 }

pub taken-so : (file : List ℕ) → search_number (searches file).answer ≡ 0 → SearchIs file (fact_room file) (rule_room file) (step_room file) (order_room file) (searches file)
taken-so file e = search_is file (fact_room file) (rule_room file) (step_room file) (order_room file) e

pub earliest_so : (file set : List ℕ) → set_of (program_of file).facts (found_set file (searches file)) ≡ set → search_number (searches file).answer ≡ 0 → Earliest (program_of file) (in_force (program_of file)) any_set (has set)
earliest_so file set r e =
    let back : has set ≡ found_set file (searches file) = ap has (sym r) ∙ set_back (program_of file).facts (found_set file (searches file)) (marked-past (program_of file).facts 1 (searches file).fact_marks) in
    rw back (taken-so file e).earliest

none_so : (file : List ℕ) → search_number (searches file).answer ≡ 41 → (M : FactSet) → Stable (program_of file) (in_force (program_of file)) M → ⊥
none_so file e = (searched_means file (fact_room file) (rule_room file) (step_room file) (order_room file)).none_stable e

pub starred : Starred
unfolding search_outcome search_written search_questions early_questions limit_questions some_stable taken_set exceptions constraint_facts constraint_fact guessed fits search order_for run_outcome run_written run_questions buffer_questions judged judge_questions checked check_questions set_questions row_questions is_stable least_of reduct is_proof step_holds has marked list_questions order_questions file_questions items_at front body_length item_of run eligible rejected spares set_aside fact_mark rule_mark fired derive steps plain_rules plain exception in_force withheld
starred =
    record {
      example_a = (record { leaves = refl; is = ran-so example_a (1 ∷ 2 ∷ []) refl }, stable_so example_a [] (1 ∷ 1 ∷ 0 ∷ 0 ∷ []) refl);
      example_a2 = (
        record { leaves = refl; is = ran-so example_a (2 ∷ 1 ∷ []) refl },
        stable_so example_a [] (1 ∷ 0 ∷ 1 ∷ 1 ∷ []) refl,
        proof_so example_a (1 ∷ 0 ∷ 1 ∷ 1 ∷ []) 3 (6 ∷ 0 ∷ 0 ∷ 0 ∷ 6 ∷ 2 ∷ 0 ∷ 2 ∷ 6 ∷ 3 ∷ 0 ∷ 3 ∷ []) refl,
      );
      example_a3 = record { leaves = refl; reads = refl; earliest = earliest_so example_a (1 ∷ 1 ∷ 0 ∷ 0 ∷ []) refl refl; is = taken-so example_a refl };
      example_b = (
        record { leaves = refl; is = ran-so example_b (0 ∷ []) refl },
        stable_so example_b (0 ∷ []) (0 ∷ []) refl,
        record { leaves = refl; number = refl; none_stable = none_so example_b refl },
      );
      example_c = (
        record { leaves = refl; is = ran-so example_c (0 ∷ 1 ∷ []) refl },
        stable_so example_c (1 ∷ []) (1 ∷ 0 ∷ 0 ∷ []) refl,
        not-stable_so example_c [] (1 ∷ 0 ∷ 0 ∷ []) refl,
      );
      example_c2 = (record { leaves = refl; is = ran-so example_c (1 ∷ 0 ∷ []) refl }, stable_so example_c [] (0 ∷ 1 ∷ 0 ∷ []) refl);
      example_c3 = record { leaves = refl; reads = refl; earliest = earliest_so example_c (0 ∷ 1 ∷ 0 ∷ []) refl refl; is = taken-so example_c refl };
      example_d = (
        record { leaves = refl; is = ran-so example_d (1 ∷ []) refl },
        stable_so example_d (1 ∷ []) (0 ∷ 0 ∷ []) refl,
        record { leaves = refl; number = refl; none_stable = none_so example_d refl },
      );
      example_e = (
        record { leaves = refl; is = ran-so example_e [] refl },
        stable_so example_e [] [] refl,
        record { leaves = refl; reads = refl; earliest = earliest_so example_e [] refl refl; is = taken-so example_e refl },
      );
      example_f = (not-stable_so example_f [] (1 ∷ []) refl, stable_so example_f [] (0 ∷ []) refl);
    }
