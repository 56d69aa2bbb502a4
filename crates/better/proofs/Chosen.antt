-- The choice by what the questions came to, and what it means.
use Prim.Native.Nat.{ℕ, ◌≤◌, ◌<◌}
use native.Mathlib.Omega.{arith}
use native.Mathlib.Decide.{dec_lt}
use mathlib.Core.Path.{◌≡◌, refl, sym, ap, ◌∙◌}
use mathlib.Core.Bool.{Bool, true, false, cond}
use mathlib.Core.List.{List, []}
use mathlib.Core.Logic.{◌↔◌}
use mathlib.Core.Option.{Option, none, some}
use denote.Ref.{Bor}
use Rattle.theory.specs.Better.{second_preferred, better}
use Rattle.theory.proofs.Better.{prefers_first, prefers_second}
use Rattle.items.specs.declared.refusal.Refusal.{Refusal}
use Rattle.items.specs.Question.{no_number}
use Rattle.reader.specs.Scanned.{Tabled}
use Rattle.questions.specs.Questions.{better_no}
use Rattle.better.specs.declared.answer.Choice.{Choice}
use Rattle.better.specs.declared.answer.Choice.TheVariants.{First, Second}
use Rattle.std.specs.Prelude.{Result, Ok, Err}
use Rattle.better.specs.Outcome.{aside_of, preferred, choice_of, choice_number, which, handed, better_of, HandedBack, ChoiceMeans}
use Rattle.better.specs.Counted.{aside_in}

-- Which of two that set aside so many.
module _ (a b : ℕ) where
  pub first-preferred : a ≤ b → First ≡ preferred a b
  first-preferred l = rw (prefers_first a b l)

  pub second-preferred : b < a → Second ≡ preferred a b
  second-preferred l = rw (prefers_second a b l)

  which_first : (which (Ok (preferred a b)) ≡ 1) ↔ (a ≤ b)
  which_first = go (dec_lt b a)
    where
      go : Dec (b < a) → (which (Ok (preferred a b)) ≡ 1) ↔ (a ≤ b)
      go (yes l) = ((λ e. absurd (let z : ◌≡◌ {A = ℕ} 2 1 = rw (prefers_second a b l) at e in omega arith)), λ m. absurd (omega arith))
      go (no h) = let l : a ≤ b = omega arith in ((λ _. l), λ _. rw (prefers_first a b l))

  which_second : (which (Ok (preferred a b)) ≡ 2) ↔ (b < a)
  which_second = go (dec_lt b a)
    where
      go : Dec (b < a) → (which (Ok (preferred a b)) ≡ 2) ↔ (b < a)
      go (yes l) = ((λ _. l), λ _. rw (prefers_second a b l))
      go (no h) = let l : a ≤ b = omega arith in ((λ e. absurd (let z : ◌≡◌ {A = ℕ} 1 2 = rw (prefers_first a b l) at e in omega arith)), λ m. absurd (omega arith))

module _ (file first second : List ℕ) where
  pub choice-refused : (r : Refusal) → better_no file first second ≡ some r → Err r ≡ choice_of file first second
  unfolding choice_of
  choice-refused r e = sym (rw (e, choice_of))

  pub choice-made : ◌≡◌ {A = Option Refusal} (better_no file first second) none → Ok (preferred (aside_of file first) (aside_of file second)) ≡ choice_of file first second
  unfolding choice_of
  choice-made e = sym (rw (e, choice_of))

  -- of the program in the tables
  pub choice-there : {T : List ℕ} → Tabled file T → ◌≡◌ {A = Option Refusal} (better_no file first second) none → Ok (preferred (aside_in T first) (aside_in T second)) ≡ choice_of file first second
  choice-there t e = rw t.program (choice-made e)

  -- what is handed back where every question gets yes is the better of the two by what they set aside
  pub better-handed : ◌≡◌ {A = Option Refusal} (better_no file first second) none → better_of file first second ≡ better (aside_of file) first second
  better-handed e = ap (λ (c : Result Choice Refusal). handed c first second) (sym (choice-made e)) ∙ go (second_preferred (aside_of file first) (aside_of file second))
    where
      go : (b : Bool) → handed (Ok (cond b Second First)) first second ≡ cond b second first
      go true = refl
      go false = refl

  pub none_handed : (r : Refusal) → better_no file first second ≡ some r → better_of file first second ≡ []
  none_handed r e = ap (λ (c : Result Choice Refusal). handed c first second) (sym (choice-refused r e))

  pub choice-means : ChoiceMeans file first second (choice_of file first second)
  choice-means =
      record {
        numbered = go (better_no file first second) refl;
        first_chosen = λ e. rw (← choice-made e) (which_first (aside_of file first) (aside_of file second));
        second_chosen = λ e. rw (← choice-made e) (which_second (aside_of file first) (aside_of file second));
      }
    where
      go : (o : Option Refusal) → better_no file first second ≡ o → choice_number (choice_of file first second) ≡ no_number (better_no file first second)
      go none e = rw (← choice-made e, e)
      go (some r) e = rw (← choice-refused r e, e)

  -- an answer that is the one defined, with what it means
  pub chosen : (r : Result Choice Refusal) → r ≡ choice_of file first second → (r ≡ choice_of file first second) × ChoiceMeans file first second r
  chosen r e = (e, rw e choice-means)

-- What is handed back, by the choice.
module _ (file : List ℕ) (first second : Bor (List ℕ)) where
  abbrev choice : Result Choice Refusal
  choice = choice_of file first.now second.now

  abbrev Back : Bor (List ℕ) → Type 0
  Back back = (back.now ≡ better_of file first.now second.now) × HandedBack choice first second back

  bytes : (c : Result Choice Refusal) → choice ≡ c → handed c first.now second.now ≡ better_of file first.now second.now
  bytes c e = ap (λ (x : Result Choice Refusal). handed x first.now second.now) (sym e)

  pub first_back : choice ≡ Ok First → Back first
  first_back e = (
    bytes (Ok First) e,
    record {
      first_itself = λ _. refl;
      second_itself = λ q. absurd (omega (arith, ap which (sym e ∙ q)));
      part_of_first = λ r _. refl;
      empty = λ r q. absurd (omega (arith, ap which (sym e ∙ q)));
    },
  )

  pub second_back : choice ≡ Ok Second → Back second
  second_back e = (
    bytes (Ok Second) e,
    record {
      first_itself = λ q. absurd (omega (arith, ap which (sym e ∙ q)));
      second_itself = λ _. refl;
      part_of_first = λ r q. absurd (omega (arith, ap which (sym e ∙ q)));
      empty = λ r q. absurd (omega (arith, ap which (sym e ∙ q)));
    },
  )

  pub none_back : (r : Refusal) → choice ≡ Err r → (back : Bor (List ℕ)) → back.ref_ptr ≡ first.ref_ptr → back.now ≡ [] → Back back
  none_back r e back p n = (
    n ∙ bytes (Err r) e,
    record {
      first_itself = λ q. absurd (omega (arith, ap which (sym e ∙ q)));
      second_itself = λ q. absurd (omega (arith, ap which (sym e ∙ q)));
      part_of_first = λ _ _. p;
      empty = λ _ _. n;
    },
  )
