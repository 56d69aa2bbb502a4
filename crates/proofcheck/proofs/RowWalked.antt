-- A walk along a row in which each step is tested against the marks of those before it.
use Prim.Native.Nat.{ℕ}
use mathlib.Core.Path.{◌≡◌, refl, sym, ap, ap₂, ◌∙◌}
use mathlib.Core.Bool.{Bool, true, false, not, ◌&&◌, ◌||◌}
use mathlib.Core.List.{List, [], ◌∷◌, map}
use lib.ListN.{length}
use lib.Dec.{eqb}
use Rattle.theory.specs.Rule.{clear, mem, Program, FactSet, in_force, nothing, adjoin, rule, Step}
use Rattle.theory.specs.Stable.{facts_of}
use Rattle.theory.specs.Check.{step_holds, steps_hold, row_clear, ends_with, is_proof}
use Rattle.theory.proofs.Bools.{and-false, and-true}
use Rattle.items.specs.Item.{narrow, max_facts, has}
use Rattle.marking.specs.Marks.{barred_in}
use Rattle.proofcheck.specs.Steps.{joined, step_fits, StepMarked, Unmarked}
use Rattle.proofcheck.proofs.JoinedSets.{joined-first, clear_or, clear-nothing, clear-one, clear-either}
use Rattle.proofcheck.proofs.RowEnds.{Ending, none_passed, all-passed, ending_along, one_passed}

abbrev fact_list : List Step → List ℕ
fact_list row = map (λ s. s.fact) row

-- What a row still asks after the facts S and the barred B, where T are the facts of the whole row.
abbrev ahead : Program → FactSet → FactSet → FactSet → FactSet → List Step → Bool
ahead P M T S B row = (steps_hold P (in_force P) S row && clear B (fact_list row)) && (row_clear P T row && row_clear P M row)

-- the test on the first step, and what the others ask
sorted : (a H bx Bf b mx C Tr m Mr : Bool) → ((a && H) && (not bx && Bf)) && (((b && (not mx && C)) && Tr) && (m && Mr)) ≡ (a && (b && m) && not (bx || mx)) && ((H && (Bf && C)) && (Tr && Mr))
sorted false H bx Bf b mx C Tr m Mr = refl
sorted true false bx Bf b mx C Tr m Mr = sym (and-false ((b && m) && not (bx || mx)))
sorted true true true Bf false mx C Tr m Mr = refl
sorted true true true Bf true mx C Tr false Mr = refl
sorted true true true Bf true mx C Tr true Mr = refl
sorted true true false false b mx C Tr m Mr = sym (and-false ((b && m) && not mx))
sorted true true false true false mx C Tr m Mr = refl
sorted true true false true true true C Tr false Mr = refl
sorted true true false true true true C Tr true Mr = refl
sorted true true false true true false false Tr m Mr = sym (and-false (m && true))
sorted true true false true true false true false m Mr = sym (and-false (m && true))
sorted true true false true true false true true false Mr = refl
sorted true true false true true false true true true Mr = refl

module _ (P : Program) (M T S B : FactSet) (s : Step) (row : List Step) (split : T ≡ joined S (fact_list (s ∷ row))) where
  abbrev ks : List ℕ
  ks = (rule P s.by).constraints

  own-clear : clear T ks ≡ clear S ks && (not (mem s.fact ks) && clear (facts_of row) ks)
  own-clear =
      ap (λ (U : FactSet). clear U ks) split ∙ clear_or S (λ g. eqb g s.fact || facts_of row g) ks
      ∙ ap (λ (b : Bool). clear S ks && b) (clear_or (λ g. eqb g s.fact) (facts_of row) ks ∙ ap (λ (b : Bool). b && clear (facts_of row) ks) (clear-one s.fact ks))

  others_clear : clear B (fact_list row) && clear (facts_of row) ks ≡ clear (joined B ks) (fact_list row)
  others_clear = ap (λ (b : Bool). clear B (fact_list row) && b) (sym (clear-either ks (fact_list row))) ∙ sym (clear_or B (λ g. mem g ks) (fact_list row))

  first_step : ahead P M T S B (s ∷ row) ≡ step_fits P M S B s && ahead P M T (adjoin S s.fact) (joined B ks) row
  unfolding step_fits
  first_step =
      ap (λ (b : Bool). ((step_holds P (in_force P) S s && steps_hold P (in_force P) (adjoin S s.fact) row) && (not (B s.fact) && clear B (fact_list row))) && ((b && row_clear P T row) && (clear M ks && row_clear P M row))) own-clear
      ∙ sorted (step_holds P (in_force P) S s) (steps_hold P (in_force P) (adjoin S s.fact) row) (B s.fact) (clear B (fact_list row)) (clear S ks) (mem s.fact ks) (clear (facts_of row) ks) (row_clear P T row) (clear M ks) (row_clear P M row)
      ∙ ap (λ (b : Bool). step_fits P M S B s && ((steps_hold P (in_force P) (adjoin S s.fact) row && b) && (row_clear P T row && row_clear P M row))) others_clear

-- Part of a row has been passed: what is to come decides as the whole does, with what the last step told.
pub record Walking (P : Program) (M : FactSet) (f : ℕ) (row : List Step) (marks : List ℕ) (ends : Bool) (rest : List Step) : Type 0 where
  pub size : length marks ≡ max_facts narrow
  pub same : is_proof P (in_force P) M row f ≡ ends_with f row && ahead P M (facts_of row) (has marks) (barred_in marks) rest
  pub facts : facts_of row ≡ joined (has marks) (fact_list rest)
  pub ending : Ending f ends row rest

pub none_walked : (P : Program) (M : FactSet) (f : ℕ) (row : List Step) (marks : List ℕ) → Unmarked marks → Walking P M f row marks false row
unfolding is_proof
none_walked P M f row marks u =
    record {
      size = u.size;
      same = go (ends_with f row) (steps_hold P (in_force P) nothing row) (row_clear P (facts_of row) row) (row_clear P M row) ∙ ap (λ (b : Bool). ends_with f row && ((steps_hold P (in_force P) nothing row && b) && (row_clear P (facts_of row) row && row_clear P M row))) (sym (clear-nothing (fact_list row))) ∙ ap₂ (λ (S B : FactSet). ends_with f row && ahead P M (facts_of row) S B row) (sym u.no_fact) (sym u.none_barred);
      facts = ap (λ (S : FactSet). joined S (fact_list row)) (sym u.no_fact);
      ending = none_passed f row;
    }
  where
    go : (e h c m : Bool) → e && h && c && m ≡ e && ((h && true) && (c && m))
    go false h c m = refl
    go true false c m = refl
    go true true c m = refl

module _ {P : Program} {M : FactSet} {f : ℕ} {row rest : List Step} {marks : List ℕ} {ends : Bool} (w : Walking P M f row marks ends rest) where
  pub all-walked : rest ≡ [] → ends ≡ is_proof P (in_force P) M row f
  all-walked e = all-passed w.ending e ∙ sym (w.same ∙ ap (λ (l : List Step). ends_with f row && ahead P M (facts_of row) (has marks) (barred_in marks) l) e ∙ and-true (ends_with f row))

  pub walking_along : (more : List Step) → rest ≡ more → Walking P M f row marks ends more
  walking_along more e =
      record {
        size = w.size;
        same = w.same ∙ ap (λ (l : List Step). ends_with f row && ahead P M (facts_of row) (has marks) (barred_in marks) l) e;
        facts = w.facts ∙ ap (λ (l : List Step). joined (has marks) (fact_list l)) e;
        ending = ending_along w.ending more e;
      }

  module _ (s : Step) (more : List Step) (e : rest ≡ s ∷ more) where
    here : is_proof P (in_force P) M row f ≡ ends_with f row && (step_fits P M (has marks) (barred_in marks) s && ahead P M (facts_of row) (adjoin (has marks) s.fact) (joined (barred_in marks) (rule P s.by).constraints) more)
    here =
        (walking_along (s ∷ more) e).same
        ∙ ap (λ (b : Bool). ends_with f row && b) (first_step P M (facts_of row) (has marks) (barred_in marks) s more (walking_along (s ∷ more) e).facts)

    pub one_fails : step_fits P M (has marks) (barred_in marks) s ≡ false → false ≡ is_proof P (in_force P) M row f
    one_fails q = sym (here ∙ ap (λ (b : Bool). ends_with f row && (b && ahead P M (facts_of row) (adjoin (has marks) s.fact) (joined (barred_in marks) (rule P s.by).constraints) more)) q ∙ and-false (ends_with f row))

    pub one_fits : (now : List ℕ) → step_fits P M (has marks) (barred_in marks) s ≡ true → StepMarked P s marks now → Walking P M f row now (eqb s.fact f) more
    one_fits now q m =
        record {
          size = m.size;
          same = here ∙ ap (λ (b : Bool). ends_with f row && (b && ahead P M (facts_of row) (adjoin (has marks) s.fact) (joined (barred_in marks) (rule P s.by).constraints) more)) q ∙ ap₂ (λ (S B : FactSet). ends_with f row && ahead P M (facts_of row) S B more) (sym m.facts) (sym m.bars);
          facts = (walking_along (s ∷ more) e).facts ∙ sym (joined-first (has marks) s.fact (fact_list more)) ∙ ap (λ (S : FactSet). joined S (fact_list more)) (sym m.facts);
          ending = one_passed w.ending s more e;
        }
