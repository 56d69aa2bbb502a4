-- The order of the questions, from the definitions alone: each call gets no to more than one question, and the earliest counts.
use mathlib.Core.Path.{◌≡◌, refl}
use mathlib.Core.List.{List, [], ◌∷◌}
use Prim.Native.Nat.{ℕ}
use Rattle.theory.specs.Rule.{exception, constraint_fact}
use Rattle.items.specs.Item.{body_length, item_of}
use Rattle.cursors.specs.Cursor.{front, items_at}
use Rattle.items.specs.Question.{no_number}
use Rattle.reader.specs.Questions.{file_questions, exceptions, constraint_facts}
use Rattle.questions.specs.Questions.{list_questions, order_questions, set_questions, row_questions, buffer_questions, run_questions, judge_questions, check_questions, early_questions, search_questions, both_questions, better_questions, run_no, judge_no, check_no, search_no, better_no}

-- E: no fact and no rule
abbrev empty : List ℕ
empty = 0x10 ∷ 0x00 ∷ 0x1F ∷ 0x00 ∷ 0x00 ∷ []

-- C: 0 < !1; 1 < !2
abbrev two : List ℕ
two = 0x10 ∷ 0x03 ∷ 0x01 ∷ 0x00 ∷ 0x03 ∷ 0x01 ∷ 0x01 ∷ 0x01 ∷ 0x03 ∷ 0x02 ∷ 0x1F ∷ 0x00 ∷ 0x02 ∷ []

-- an order, a list or a row with a byte of no item, and a set that is too long
abbrev foreign : List ℕ
foreign = 0x00 ∷ []

pub record FirstNos : Type 0 where
  pub file_before_list : no_number (judge_no [] foreign foreign) ≡ 2
  pub list_before_set : no_number (judge_no empty foreign foreign) ≡ 11
  pub set_before_fact : no_number (check_no empty foreign 0 foreign) ≡ 21
  pub fact_before_row : no_number (check_no empty [] 0 foreign) ≡ 24
  pub order_before_room : no_number (run_no two foreign 0 0 0) ≡ 11
  pub file_before_orders : no_number (better_no [] foreign foreign) ≡ 2
  pub first_before_second : no_number (better_no two foreign []) ≡ 11
  pub facts_before_rules : no_number (search_no two 0 0 0 0) ≡ 31
  pub rules_before_steps : no_number (search_no two 3 0 0 0) ≡ 32
  pub steps_before_order : no_number (search_no two 3 2 0 0) ≡ 33

pub first-nos : FirstNos
unfolding exceptions constraint_facts exception constraint_fact file_questions items_at front body_length item_of list_questions order_questions set_questions row_questions buffer_questions run_questions judge_questions check_questions early_questions search_questions both_questions better_questions
first-nos =
    record {
      file_before_list = refl;
      list_before_set = refl;
      set_before_fact = refl;
      fact_before_row = refl;
      order_before_room = refl;
      file_before_orders = refl;
      first_before_second = refl;
      facts_before_rules = refl;
      rules_before_steps = refl;
      steps_before_order = refl;
    }
