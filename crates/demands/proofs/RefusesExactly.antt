-- The one law of demand 1: an operation whose reply has number 0 where every question gets yes, and the number of the first no with zeros and
-- the buffers as they were where one gets no, refuses exactly.
use Prim.Native.Nat.{ℕ, zero, suc, ◌<◌}
use native.Mathlib.Omega.{arith}
use mathlib.Core.Path.{◌≡◌, refl, sym, ◌∙◌, ap}
use mathlib.Core.Bool.{true}
use mathlib.Core.List.{List}
use mathlib.Core.Option.{Option, none, some, map}
use lib.Dec.{eqb}
use lib.ListN.{replicate}
use Rattle.theory.specs.Rule.{all, mem}
use Rattle.items.specs.declared.refusal.Refusal.{Refusal}
use Rattle.items.specs.Question as refusal
use Rattle.items.specs.Question.{Question, first_no}
use Rattle.items.proofs.RefusalNumbers.{number-above}
use Rattle.reader.proofs.FileRefusals.{Each, each_first}
use Rattle.demands.specs.Calls.{first_number, Reply, Call, RefusesExactly}

-- every question has one of these numbers
abbrev pub Own : List ℕ → List Question → Type 0
Own ns qs = Each (λ r. mem (refusal.number r) ns ≡ true) qs

-- a refusal with r: its number, k counts that are 0, and the buffers as they were
abbrev pub refused : ℕ → List (List ℕ) → Refusal → Reply
refused k lent r = record { number = refusal.number r; counts = replicate k 0; left = lent }

-- What an instance shows of a call whose answer has k counts.
pub record Instance (k : ℕ) (c : Call) : Type 0 where
  pub own_numbers : Own c.own c.questions
  pub all_yes : ◌≡◌ {A = Option Refusal} (first_no c.questions) none → c.reply.number ≡ 0
  pub first-no : (r : Refusal) → first_no c.questions ≡ some r → c.reply ≡ refused k c.lent r

module _ (k : ℕ) (c : Call) (s : Instance k c) where
  yes_to_all : ◌≡◌ {A = Option Refusal} (first_no c.questions) none → RefusesExactly c
  yes_to_all h =
      record {
        refuses = λ n. (λ e. never n e, λ t. absurd (nothing-refused n t.0 t.1));
        own_number = λ n e. never n e;
        counts_zero = λ n e. never n e;
        lent_kept = λ n e. never n e;
        else_zero = λ _. s.all_yes h;
      }
    where
      never : {A : Type 0} (n : ℕ) → first_number c.questions ≡ some n → A
      never n e =
          let f : ◌≡◌ {A = Option ℕ} (first_number c.questions) none = ap (map refusal.number) h in
          absurd (let z : ◌≡◌ {A = ℕ} 0 1 = cc in omega arith)

      nothing-refused : (n : ℕ) → c.reply.number ≡ n → 0 < n → ⊥
      nothing-refused n e l = omega (arith, s.all_yes h)

  a_no : (r : Refusal) → first_no c.questions ≡ some r → RefusesExactly c
  a_no r h =
      record {
        refuses = λ n. (λ e. (number_is ∙ same n e, rw (← same n e) (number-above r)), λ t. named ∙ ap (λ (m : ℕ). some m) (sym number_is ∙ t.0));
        own_number = λ n e. rw (← same n e) (each_first _ c.questions r s.own_numbers h);
        counts_zero = λ n e. rw (s.first-no r h) (zeros k);
        lent_kept = λ n e. ap (λ (x : Reply). x.left) (s.first-no r h);
        else_zero = λ e. absurd (let f = named in let z : ◌≡◌ {A = ℕ} 0 1 = cc in omega arith);
      }
    where
      named : first_number c.questions ≡ some (refusal.number r)
      named = ap (map refusal.number) h

      same : (n : ℕ) → first_number c.questions ≡ some n → refusal.number r ≡ n
      same n e = cc named

      number_is : c.reply.number ≡ refusal.number r
      number_is = ap (λ (x : Reply). x.number) (s.first-no r h)

      zeros : (j : ℕ) → all (eqb 0) (replicate j 0) ≡ true
      zeros zero = refl
      zeros (suc j) = zeros j

  pub refuses_exactly : RefusesExactly c
  refuses_exactly = go (first_no c.questions) refl
    where
      go : (o : Option Refusal) → first_no c.questions ≡ o → RefusesExactly c
      go none h = yes_to_all h
      go (some r) h = a_no r h
