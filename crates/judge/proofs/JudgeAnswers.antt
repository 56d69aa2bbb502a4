-- What the judge answers, by the questions that led there.
use Prim.Native.Nat.{ℕ, ◌≤◌}
use native.Mathlib.Omega.{arith}
use mathlib.Core.Path.{◌≡◌, refl, sym, ap, ◌∙◌}
use mathlib.Core.Bool.{Bool, not, ◌&&◌}
use mathlib.Core.List.{List}
use mathlib.Core.Option.{Option, none, some}
use lib.ListN.{length}
use Rattle.theory.specs.Rule.{Program, Mask, in_force, exception}
use Rattle.theory.specs.Check.{is_stable}
use Rattle.items.specs.declared.refusal.Refusal.{Refusal}
use Rattle.items.specs.Item.{has}
use Rattle.items.proofs.FirstNo.{first-no, first-yes}
use Rattle.tables.specs.Layout.{program_in}
use Rattle.index.specs.Index.{in_force_but}
use Rattle.reader.specs.Questions.{program_of}
use Rattle.reader.specs.Asked.{file_asked}
use Rattle.std.specs.Prelude.{Result, Ok, Err, ⊤}
use Rattle.questions.specs.Questions.{list_questions, judge_questions, judge_no}
use Rattle.questions.specs.Parts.{list_no, set_no}
use Rattle.questions.specs.Answer.{answer_of}
use Rattle.questions.specs.Named.{Listed}
use Rattle.questions.proofs.OperationAsked.{Passed, file_refused, file_accepted, yes_to_set}
use Rattle.questions.proofs.NamesAsked.{said_yes, said_no}
use Rattle.judge.specs.Judged.{unlisted, judged}
use Rattle.judge.specs.JudgedOf.{later_no, judged_of}

module _ (file list set : List ℕ) where
  pub judge_refused : (r : Refusal) → judge_no file list set ≡ some r → judged file list set ≡ Err r
  unfolding judged
  judge_refused r e = rw (e, judged)

  pub judge_judged : ◌≡◌ {A = Option Refusal} (judge_no file list set) none → judged file list set ≡ Ok (is_stable (program_of file) (unlisted (program_of file) list) (has set))
  unfolding judged
  judge_judged e = rw (e, judged)

  pub no-to_file : (r : Refusal) → file_asked file ≡ Err r → Err r ≡ judged file list set
  unfolding judge_questions
  no-to_file r e = sym (judge_refused r (file_refused file _ r e))

  -- For an accepted file the program in the tables decides.
  pub program-judged : (T : List ℕ) → Passed file T → judged_of (program_in T) list set ≡ judged file list set
  unfolding judged judged_of judge_questions
  program-judged T p =
      ap (λ (P : Program). judged_of P list set) p.tabled.program
      ∙ ap (λ (o : Option Refusal). elim o [ none ↦ Ok (is_stable (program_of file) (unlisted (program_of file) list) (has set)) | some r ↦ Err r ]) (sym (file_accepted file _ p.accepted))

-- The answers for a program.
module _ (P : Program) (list set : List ℕ) where
  refused : (r : Refusal) → later_no P list set ≡ some r → Err r ≡ judged_of P list set
  unfolding judged_of
  refused r e = sym (rw (e, judged_of) refl)

  -- the answer on the list
  module _ (on_List : Result ⊤ Refusal) (a : on_List ≡ answer_of (list_no (exception P) list)) where
    pub no-to_list : (r : Refusal) → on_List ≡ Err r → Err r ≡ judged_of P list set
    no-to_list r q = refused r (first-no (list_questions (exception P) list) _ r (said_no (list_no (exception P) list) r (sym q ∙ a)))

    -- the answer on the set
    module _ (yes-list : on_List ≡ Ok tt) (n : ℕ) (c : n ≡ P.facts) (on-set : Result ⊤ Refusal) (d : on-set ≡ answer_of (set_no n set)) where
      said : on-set ≡ answer_of (set_no P.facts set)
      said = d ∙ ap (λ (m : ℕ). answer_of (set_no m set)) c

      asks_set : later_no P list set ≡ set_no P.facts set
      asks_set = first-yes (list_questions (exception P) list) _ (said_yes (list_no (exception P) list) (sym yes-list ∙ a))

      pub no-to_set : (r : Refusal) → on-set ≡ Err r → Err r ≡ judged_of P list set
      no-to_set r q = refused r (asks_set ∙ said_no (set_no P.facts set) r (sym q ∙ said))

      module _ (yes-set : on-set ≡ Ok tt) where
        no-no : ◌≡◌ {A = Option Refusal} (set_no P.facts set) none
        no-no = said_yes (set_no P.facts set) (sym yes-set ∙ said)

        -- a byte for each fact
        pub set_long : P.facts ≤ length set
        set_long = omega (arith, (yes_to_set P.facts set no-no).0)

        pub set_tested : (marks : List ℕ) → Listed list marks on_List → (t : Bool) → t ≡ is_stable P (in_force_but P marks) (has set) → Ok t ≡ judged_of P list set
        unfolding judged_of
        set_tested marks l t e =
            let named : Listed list marks (Ok tt) = rw yes-list at l in
            ap (λ (x : Bool). Ok x) (e ∙ ap (λ (m : Mask). is_stable P (λ i. in_force P i && not (m i)) (has set)) named)
            ∙ sym (rw (asks_set ∙ no-no, judged_of) refl)
