-- The files of document 01's examples, and rules at the cap and unread facts of document 02, from the definitions alone.
use Prim.Native.Nat.{ℕ, zero, suc}
use mathlib.Core.Path.{◌≡◌, refl}
use mathlib.Core.List.{List, [], ◌∷◌}
use Rattle.theory.specs.Rule.{exception, constraint_fact, withheld, in_force}
use Rattle.std.specs.Prelude.{Result, Ok}
use Rattle.items.specs.declared.refusal.Refusal.{Refusal}
use Rattle.reader.specs.declared.answer.AcceptedFile.{AcceptedFile}
use Rattle.items.specs.Item.{body_length, item_of}
use Rattle.cursors.specs.Cursor.{front, items_at}
use Rattle.reader.specs.Questions.{file_questions, exceptions, constraint_facts}
use Rattle.reader.specs.Accept.{accept_of, accept_number}

-- what is answered of an accepted file with these counts of facts, rules, exception rules and constraint facts
abbrev pub accepted : ℕ → ℕ → ℕ → ℕ → Result AcceptedFile Refusal
accepted n m e k = Ok (record { facts = n; rules = m; exceptions = e; constraints = k })

-- so many premises 0, and what follows; and a rule with them
abbrev pub repeated : ℕ → List ℕ → List ℕ
repeated zero after = after
repeated (suc n) after = 0x02 ∷ 0x00 ∷ repeated n after

abbrev pub with_premises : ℕ → List ℕ → List ℕ
with_premises n after = 0x01 ∷ 0x00 ∷ repeated n after

pub record Files : Type 0 where
  pub nothing : accept_number (accept_of []) ≡ 2
  pub no_more : accept_number (accept_of (0x10 ∷ 0x01 ∷ [])) ≡ 3
  pub other-kind : accept_number (accept_of (0x10 ∷ 0x01 ∷ 0x05 ∷ [])) ≡ 4
  pub second_count : accept_number (accept_of (0x10 ∷ 0x01 ∷ 0x10 ∷ 0x01 ∷ [])) ≡ 4
  pub no_body : accept_number (accept_of (0x10 ∷ 0x01 ∷ 0x01 ∷ [])) ≡ 5
  pub fact_too_high : accept_number (accept_of (0x10 ∷ 0x01 ∷ 0x01 ∷ 0x01 ∷ [])) ≡ 6
  pub no_rule : accept_number (accept_of (0x10 ∷ 0x01 ∷ 0x02 ∷ 0x00 ∷ [])) ≡ 7
  pub wrong_count : accept_number (accept_of (0x10 ∷ 0x00 ∷ 0x1F ∷ 0x00 ∷ 0x01 ∷ [])) ≡ 9
  pub one_byte_more : accept_number (accept_of (0x10 ∷ 0x00 ∷ 0x1F ∷ 0x00 ∷ 0x00 ∷ 0x00 ∷ [])) ≡ 10
  -- E: no fact and no rule
  pub empty : accept_of (0x10 ∷ 0x00 ∷ 0x1F ∷ 0x00 ∷ 0x00 ∷ []) ≡ accepted 0 0 0 0
  -- C: 0 < !1; 1 < !2
  pub two_exceptions : accept_of (0x10 ∷ 0x03 ∷ 0x01 ∷ 0x00 ∷ 0x03 ∷ 0x01 ∷ 0x01 ∷ 0x01 ∷ 0x03 ∷ 0x02 ∷ 0x1F ∷ 0x00 ∷ 0x02 ∷ []) ≡ accepted 3 2 2 2
  -- rules of 24 and of 25 items
  pub two_at_the_cap : accept_of (0x10 ∷ 0x01 ∷ with_premises 24 (with_premises 24 (0x1F ∷ 0x00 ∷ 0x02 ∷ []))) ≡ accepted 1 2 0 0
  pub twenty_five : accept_number (accept_of (0x10 ∷ 0x01 ∷ with_premises 25 (0x1F ∷ 0x00 ∷ 0x01 ∷ []))) ≡ 51
  pub a_constraint_more : accept_number (accept_of (0x10 ∷ 0x01 ∷ with_premises 24 (0x03 ∷ 0x00 ∷ []))) ≡ 51
  pub too_high_first : accept_number (accept_of (0x10 ∷ 0x01 ∷ with_premises 24 (0x03 ∷ 0x01 ∷ []))) ≡ 6
  pub no_rule_first : accept_number (accept_of (0x10 ∷ 0x01 ∷ repeated 25 [])) ≡ 7
  -- unread facts: 1 is unread, once and twice; 0 < !1, !2 is withheld, so neither 1 nor 2 is a constraint fact; 0 < 1 is plain
  pub unread_withholds : accept_of (0x10 ∷ 0x03 ∷ 0x07 ∷ 0x01 ∷ 0x01 ∷ 0x00 ∷ 0x03 ∷ 0x02 ∷ 0x03 ∷ 0x01 ∷ 0x1F ∷ 0x00 ∷ 0x01 ∷ []) ≡ accepted 3 1 1 0
  pub unread_twice : accept_of (0x10 ∷ 0x02 ∷ 0x07 ∷ 0x01 ∷ 0x07 ∷ 0x01 ∷ 0x01 ∷ 0x00 ∷ 0x02 ∷ 0x01 ∷ 0x1F ∷ 0x00 ∷ 0x01 ∷ []) ≡ accepted 2 1 0 0
  pub unread_late : accept_number (accept_of (0x10 ∷ 0x02 ∷ 0x01 ∷ 0x00 ∷ 0x07 ∷ 0x01 ∷ [])) ≡ 56
  pub unread_too_high_first : accept_number (accept_of (0x10 ∷ 0x02 ∷ 0x01 ∷ 0x00 ∷ 0x07 ∷ 0x02 ∷ [])) ≡ 6
  pub unread_last : accept_number (accept_of (0x10 ∷ 0x02 ∷ 0x07 ∷ 0x01 ∷ [])) ≡ 3
  pub unread_no_body : accept_number (accept_of (0x10 ∷ 0x02 ∷ 0x07 ∷ [])) ≡ 5

pub files : Files
unfolding accept_of exceptions constraint_facts exception constraint_fact file_questions items_at front body_length item_of in_force withheld
files =
    record {
      nothing = refl;
      no_more = refl;
      other-kind = refl;
      second_count = refl;
      no_body = refl;
      fact_too_high = refl;
      no_rule = refl;
      wrong_count = refl;
      one_byte_more = refl;
      empty = refl;
      two_exceptions = refl;
      two_at_the_cap = refl;
      twenty_five = refl;
      a_constraint_more = refl;
      too_high_first = refl;
      no_rule_first = refl;
      unread_withholds = refl;
      unread_twice = refl;
      unread_late = refl;
      unread_too_high_first = refl;
      unread_last = refl;
      unread_no_body = refl;
    }
