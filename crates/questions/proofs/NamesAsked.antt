-- The questions on the rules that a row names, one item after another.
use Prim.Native.Nat.{ℕ, ◌≤◌}
use mathlib.Core.Path.{◌≡◌, refl, sym, ap, ◌∙◌}
use mathlib.Core.Bool.{Bool, true, false, not, ◌||◌}
use mathlib.Core.List.{List, [], ◌∷◌}
use mathlib.Core.Option.{Option, none, some}
use native.Mathlib.Omega.{arith}
use borrow.Author.Tests.{eq-eqb, ne_eqb, le-ltb}
use lib.ListN.{get_or}
use lib.Dec.{eqb}
use Rattle.theory.specs.Rule.{mem, adjoin, Program, count, exception}
use Rattle.theory.proofs.Bools.{or_right, or-none}
use Rattle.items.specs.declared.refusal.Refusal.{Refusal}
use Rattle.items.specs.declared.refusal.Refusal.TheVariants.{NotAnException, NamedTwice}
use Rattle.cursors.specs.declared.cursor.Cursor.{Cursor}
use Rattle.items.specs.Question.{first_no}
use Rattle.cursors.specs.Cursor.{items_at}
use Rattle.items.proofs.FirstNo.{first-no, first-yes}
use Rattle.std.specs.Prelude.{Ok, Err}
use Rattle.items.specs.Item.{has}
use Rattle.questions.specs.Questions.{names_of, name_questions, names_questions}
use Rattle.questions.specs.Answer.{answer_of}

-- The three ways of the questions on one item.
module _ (known seen : ℕ → Bool) (r : ℕ) where
  pub not_known : known r ≡ false → first_no (name_questions known seen r) ≡ some NotAnException
  not_known k = rw k

  pub named_before : known r ≡ true → seen r ≡ true → first_no (name_questions known seen r) ≡ some NamedTwice
  named_before k n = rw (k, n)

  pub first-named : known r ≡ true → seen r ≡ false → first_no (name_questions known seen r) ≡ none
  first-named k n = rw (k, n)

-- An answer tells the first no.
pub said_yes : (o : Option Refusal) → Ok tt ≡ answer_of o → o ≡ none
said_yes none e = refl
said_yes (some r) e = absurd (let z : ◌≡◌ {A = ℕ} 0 1 = cc in omega arith)

pub said_no : (o : Option Refusal) (r : Refusal) → Err r ≡ answer_of o → o ≡ some r
said_no none r e = absurd (let z : ◌≡◌ {A = ℕ} 0 1 = cc in omega arith)
said_no (some q) r e = cc

-- Part of a row has been asked: what is to come gives what the whole gives, and the rules named so far are marked.
pub record Naming (known : ℕ → Bool) (before ids marks : List ℕ) (s : List ℕ) (c : Cursor) : Type 0 where
  pub same : first_no (names_questions known (has before) ids) ≡ first_no (names_questions known (has marks) (names_of (items_at s c)))
  pub names_kept : (i : ℕ) → has marks i || mem i (names_of (items_at s c)) ≡ has before i || mem i ids

module _ (known : ℕ → Bool) (before ids marks s : List ℕ) (c : Cursor) (w : Naming known before ids marks s c) where
  pub all_asked : names_of (items_at s c) ≡ [] → (Ok tt ≡ answer_of (first_no (names_questions known (has before) ids))) × ((i : ℕ) → has marks i ≡ has before i || mem i ids)
  all_asked e =
      (sym (ap answer_of (w.same ∙ ap (λ (rs : List ℕ). first_no (names_questions known (has marks) rs)) e)), λ i. sym (or-none (has marks i)) ∙ ap (λ (l : List ℕ). has marks i || mem i l) (sym e) ∙ w.names_kept i)

  pub not-asked : (d : Cursor) → names_of (items_at s c) ≡ names_of (items_at s d) → Naming known before ids marks s d
  not-asked d e =
      record {
        same = w.same ∙ ap (λ (rs : List ℕ). first_no (names_questions known (has marks) rs)) e;
        names_kept = λ i. ap (λ (l : List ℕ). has marks i || mem i l) (sym e) ∙ w.names_kept i;
      }

  module _ (r : ℕ) (d : Cursor) (e : names_of (items_at s c) ≡ r ∷ names_of (items_at s d)) where
    pub a_no : (x : Refusal) → first_no (name_questions known (has marks) r) ≡ some x → Err x ≡ answer_of (first_no (names_questions known (has before) ids))
    a_no x q =
        let here : first_no (names_questions known (has marks) (r ∷ names_of (items_at s d))) ≡ some x = first-no (name_questions known (has marks) r) (names_questions known (adjoin (has marks) r) (names_of (items_at s d))) x q in
        sym (ap answer_of (w.same ∙ ap (λ (rs : List ℕ). first_no (names_questions known (has marks) rs)) e ∙ here))

    pub a_yes : (now : List ℕ) → first_no (name_questions known (has marks) r) ≡ none → has now ≡ adjoin (has marks) r → Naming known before ids now s d
    a_yes now q m =
        let here : first_no (names_questions known (has marks) (r ∷ names_of (items_at s d))) ≡ first_no (names_questions known (adjoin (has marks) r) (names_of (items_at s d))) = first-yes (name_questions known (has marks) r) (names_questions known (adjoin (has marks) r) (names_of (items_at s d))) q in
        record {
          same = w.same ∙ ap (λ (rs : List ℕ). first_no (names_questions known (has marks) rs)) e ∙ here ∙ ap (λ (g : ℕ → Bool). first_no (names_questions known g (names_of (items_at s d)))) (sym m);
          names_kept = λ i. ap (λ (g : ℕ → Bool). g i || mem i (names_of (items_at s d))) m ∙ moved (eqb i r) (has marks i) (mem i (names_of (items_at s d))) ∙ ap (λ (l : List ℕ). has marks i || mem i l) (sym e) ∙ w.names_kept i;
        }
      where
        moved : (x y z : Bool) → x || y || z ≡ y || (x || z)
        moved true true z = refl
        moved true false z = refl
        moved false true z = refl
        moved false false z = refl

-- No rule past the last is an exception rule.
pub past-rules : (P : Program) (i : ℕ) → count P ≤ i → exception P i ≡ false
unfolding exception
past-rules P i h = rw (le-ltb i (count P) h)

-- An exception rule that is not named, and the other ways of the test on one rule.
module _ (known : ℕ → Bool) (named : List ℕ) (i : ℕ) where
  pub known_unnamed : known i ≡ true → (get_or named i 0 ≡ 1 → ⊥) → not (known i) || has named i ≡ false
  unfolding has
  known_unnamed k n = rw (k, ne_eqb _ _ n)

  pub known_named : get_or named i 0 ≡ 1 → not (known i) || has named i ≡ true
  unfolding has
  known_named n = or_right (not (known i)) (has named i) (eq-eqb _ _ n)

  pub not_exception : known i ≡ false → not (known i) || has named i ≡ true
  not_exception k = rw k
