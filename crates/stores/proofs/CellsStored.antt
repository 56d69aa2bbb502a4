-- What stands in the tables after a store.
use Prim.Native.Nat.{ℕ, ◌+◌, ◌-◌, ◌<◌, ◌≤◌}
use mathlib.Core.Path.{◌≡◌, refl, sym, ap, ◌∙◌}
use mathlib.Core.Bool.{Bool, true, false, ◌||◌}
use mathlib.Core.List.{List}
use native.Mathlib.Omega.{arith}
use lib.ListN.{length, get_or, set, length-set}
use lib.Seq.{get_or-set_same, get_or-set_other}
use lib.Dec.{eqb}
use Rattle.theory.proofs.Bools.{or_right, or-none}
use Rattle.items.specs.Item.{narrow, max_facts, max_rules}
use Rattle.tables.specs.Layout.{facts_cell, rules_cell, conclusions_from, places_from, premise_starts_from, constraint_starts_from, unread_from, withheld_from, own_from, table_cells, withheld_in, facts_in, rules_in, conclusion_in, place_in, premise_start, constraint_start}
use Rattle.stores.specs.Stores.{with_starts, with_rule, with_counts, with_unread, withholding}

module _ (T : List ℕ) (size : length T ≡ table_cells) where
  -- the starts of a rule
  module _ (i a b : ℕ) where
    starts_size : length (with_starts T i a b) ≡ table_cells
    starts_size = simp length-set size

    starts_else : (k : ℕ) → (k ≡ premise_starts_from + i → ⊥) → (k ≡ constraint_starts_from + i → ⊥) → get_or (with_starts T i a b) k 0 ≡ get_or T k 0
    starts_else k p q =
        get_or-set_other (set T (premise_starts_from + i) a) (constraint_starts_from + i) k b 0 q
        ∙ get_or-set_other T (premise_starts_from + i) k a 0 p

    module _ (h : i ≤ max_rules) where
      starts_premise : premise_start (with_starts T i a b) i ≡ a
      starts_premise =
          get_or-set_other (set T (premise_starts_from + i) a) (constraint_starts_from + i) (premise_starts_from + i) b 0 (λ e. omega arith)
          ∙ get_or-set_same T (premise_starts_from + i) a 0 (omega arith)

      starts_constraint : constraint_start (with_starts T i a b) i ≡ b
      starts_constraint = get_or-set_same (set T (premise_starts_from + i) a) (constraint_starts_from + i) b 0 (rw length-set (omega arith))

-- A rule is stored.
pub record RuleStored (T T' : List ℕ) (i f p a b : ℕ) : Type 0 where
  pub size : length T' ≡ table_cells
  pub conclusion : conclusion_in T' i ≡ f
  pub place : place_in T' i ≡ p
  pub premise : premise_start T' i ≡ a
  pub constraint : constraint_start T' i ≡ b
  -- every other cell is as it was
  pub kept : (k : ℕ) → (k ≡ conclusions_from + i → ⊥) → (k ≡ places_from + i → ⊥) → (k ≡ premise_starts_from + i → ⊥) → (k ≡ constraint_starts_from + i → ⊥) → get_or T' k 0 ≡ get_or T k 0

pub rule-stored : (T : List ℕ) → length T ≡ table_cells → (i f p a b : ℕ) → i < max_rules → RuleStored T (with_rule T i f p a b) i f p a b
rule-stored T size i f p a b h =
    record {
      size = starts_size both_stored both_size i a b;
      conclusion =
          starts_else both_stored both_size i a b (conclusions_from + i) (λ e. omega arith) (λ e. omega arith)
          ∙ (get_or-set_other (set T (conclusions_from + i) f) (places_from + i) (conclusions_from + i) p 0 (λ e. omega arith)
          ∙ get_or-set_same T (conclusions_from + i) f 0 (omega arith));
      place =
          starts_else both_stored both_size i a b (places_from + i) (λ e. omega arith) (λ e. omega arith)
          ∙ get_or-set_same (set T (conclusions_from + i) f) (places_from + i) p 0 (rw length-set (omega arith));
      premise = starts_premise both_stored both_size i a b (omega arith);
      constraint = starts_constraint both_stored both_size i a b (omega arith);
      kept = λ k u v x y.
          starts_else both_stored both_size i a b k x y
          ∙ (get_or-set_other (set T (conclusions_from + i) f) (places_from + i) k p 0 v
          ∙ get_or-set_other T (conclusions_from + i) k f 0 u);
    }
  where
    both_stored : List ℕ
    both_stored = set (set T (conclusions_from + i) f) (places_from + i) p

    both_size : length both_stored ≡ table_cells
    both_size = simp length-set size

-- The counts are stored, and where the last rule's parts end.
pub record CountsStored (T T' : List ℕ) (n i a b : ℕ) : Type 0 where
  pub facts : facts_in T' ≡ n
  pub rules : rules_in T' ≡ i
  pub premise : premise_start T' i ≡ a
  pub constraint : constraint_start T' i ≡ b
  pub kept : (k : ℕ) → rules_cell < k → (k ≡ premise_starts_from + i → ⊥) → (k ≡ constraint_starts_from + i → ⊥) → get_or T' k 0 ≡ get_or T k 0

pub counts_stored : (T : List ℕ) → length T ≡ table_cells → (n i a b : ℕ) → i ≤ max_rules → CountsStored T (with_counts T n i a b) n i a b
counts_stored T size n i a b h =
    record {
      facts =
          get_or-set_other (set (with_starts T i a b) facts_cell n) rules_cell facts_cell i 0 (λ e. omega arith)
          ∙ get_or-set_same (with_starts T i a b) facts_cell n 0 (omega (arith, starts_size T size i a b));
      rules = get_or-set_same (set (with_starts T i a b) facts_cell n) rules_cell i 0 (rw length-set (omega (arith, starts_size T size i a b)));
      premise = above (premise_starts_from + i) (omega arith) ∙ starts_premise T size i a b h;
      constraint = above (constraint_starts_from + i) (omega arith) ∙ starts_constraint T size i a b h;
      kept = λ k l x y. above k l ∙ starts_else T size i a b k x y;
    }
  where
    above : (k : ℕ) → rules_cell < k → get_or (with_counts T n i a b) k 0 ≡ get_or (with_starts T i a b) k 0
    above k l =
        get_or-set_other (set (with_starts T i a b) facts_cell n) rules_cell k i 0 (λ e. omega arith)
        ∙ get_or-set_other (with_starts T i a b) facts_cell k n 0 (λ e. omega arith)

-- Marks of unread facts and of withheld rules are all that differs.
pub record MarksOnly (T T' : List ℕ) : Type 0 where
  pub size : length T' ≡ table_cells
  pub others : (k : ℕ) → (unread_from ≤ k → own_from ≤ k) → get_or T' k 0 ≡ get_or T k 0

-- They are as they were.
pub record MarksKept (T T' : List ℕ) : Type 0 where
  pub marks : (k : ℕ) → unread_from ≤ k → k < own_from → get_or T' k 0 ≡ get_or T k 0

-- So they are where a rule is stored, or the counts.
pub rule_marks : {T T' : List ℕ} {i f p a b : ℕ} → RuleStored T T' i f p a b → i < max_rules → MarksKept T T'
rule_marks t h =
    record {
      marks = λ k l u. t.kept k (λ e. omega arith) (λ e. omega arith) (λ e. omega arith) (λ e. omega arith);
    }

pub counts_marks : {T T' : List ℕ} {n i a b : ℕ} → CountsStored T T' n i a b → i ≤ max_rules → MarksKept T T'
counts_marks t h =
    record {
      marks = λ k l u. t.kept k (omega arith) (λ e. omega arith) (λ e. omega arith);
    }

-- So they are where a cell of the rules' own facts is written.
pub own-marks : (T : List ℕ) (at f : ℕ) → own_from ≤ at → MarksKept T (set T at f)
own-marks T at f h =
    record {
      marks = λ k l u. get_or-set_other T at k f 0 (λ e. omega arith);
    }

-- A fact is marked as unread.
pub record UnreadStored (T T' : List ℕ) (f : ℕ) : Type 0 where
  pub fact : get_or T' (unread_from + f) 0 ≡ 1
  pub others : (k : ℕ) → (k ≡ unread_from + f → ⊥) → get_or T' k 0 ≡ get_or T k 0
  pub marks_only : MarksOnly T T'

pub unread_stored : (T : List ℕ) → length T ≡ table_cells → (f : ℕ) → f < max_facts narrow → UnreadStored T (with_unread T f) f
unread_stored T size f h =
    record {
      fact = get_or-set_same T (unread_from + f) 1 0 (omega arith);
      others = λ k v. get_or-set_other T (unread_from + f) k 1 0 v;
      marks_only = record { size = simp length-set size; others = λ k v. get_or-set_other T (unread_from + f) k 1 0 (λ e. omega (arith, v (omega arith))) };
    }

-- The last of n rules is marked as withheld where a constraint of it is unread.
pub record WithheldStored (T T' : List ℕ) (n : ℕ) (unread : Bool) : Type 0 where
  pub last : (i : ℕ) → i + 1 ≡ n → withheld_in T' i ≡ withheld_in T i || unread
  pub others : (k : ℕ) → (k ≡ withheld_from + (n - 1) → ⊥) → get_or T' k 0 ≡ get_or T k 0
  pub marks_only : MarksOnly T T'

pub withheld-stored : (T : List ℕ) → length T ≡ table_cells → (n : ℕ) (unread : Bool) → 0 < n → n ≤ max_rules → WithheldStored T (withholding T n unread) n unread
withheld-stored T size n true some_rule few =
    record {
      last = λ i h. let same : withheld_from + i ≡ withheld_from + (n - 1) = omega arith in
          ap (λ (x : ℕ). eqb x 1) (ap (λ (k : ℕ). get_or (set T (withheld_from + (n - 1)) 1) k 0) same ∙ get_or-set_same T (withheld_from + (n - 1)) 1 0 (omega arith))
          ∙ sym (or_right (withheld_in T i) true refl);
      others = λ k h. get_or-set_other T (withheld_from + (n - 1)) k 1 0 h;
      marks_only = record { size = simp length-set size; others = λ k v. get_or-set_other T (withheld_from + (n - 1)) k 1 0 (λ q. omega (arith, v (omega arith))) };
    }
withheld-stored T size n false some_rule few =
    record { last = λ i h. sym (or-none (withheld_in T i)); others = λ k h. refl; marks_only = record { size = size; others = λ k v. refl } }
