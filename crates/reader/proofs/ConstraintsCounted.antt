-- The exception rules and the constraint facts that a scan has counted: those counted and those to come are all.
use Prim.Native.Nat.{ℕ, zero, suc, ◌+◌, ◌<◌}
use mathlib.Core.Path.{◌≡◌, refl, sym, ap, ap₂, ◌∙◌}
use mathlib.Core.Bool.{Bool, true, false, cond, not, ◌&&◌, ◌||◌}
use mathlib.Core.List.{List, [], ◌∷◌}
use native.Mathlib.Omega.{arith}
use borrow.Author.Tests.{eqb-true, eqb-false}
use lib.ListN.{length, get_or, set, length-set, length-replicate}
use lib.Seq.{get_or-set_same, get_or-set_other}
use lib.Dec.{eqb}
use Rattle.theory.specs.Rule.{mem, how_many, up_to, FactSet, null, constraint_fact, nothing, adjoin}
use Rattle.theory.specs.Conditions.{every_rule}
use Rattle.theory.proofs.Lists.{zeros as zero-marks, how_many-ext}
use Rattle.items.specs.declared.item.FactId.{FactId}
use Rattle.items.specs.declared.item.Item.TheVariants.{Opens, Premise, Constraint, Rules, Unread}
use Rattle.cursors.specs.declared.cursor.Cursor.{Cursor}
use Rattle.items.specs.Item.{narrow, max_facts, has}
use Rattle.cursors.specs.Cursor.{Token, item, items_at}
use Rattle.cursors.proofs.Items.{ReadAt}
use Rattle.marking.proofs.MarksPainted.{has-set, unmarked}
use Rattle.reader.specs.Questions.{constraints_of, rules_of, exceptions}
use Rattle.reader.specs.Asked.{constrained_facts}
use Rattle.reader.specs.BodyScanned.{program_from, Unmarked}
use Rattle.reader.specs.Scanning.{constrained, with_constraint, owned_by, to_come, Counting}
use Rattle.stores.specs.Stores.{unread_mark, is_unread, with_mark}
use Rattle.reader.proofs.RulesCounted.{constraint-fact, exceptions-of}

owned : (n : ℕ) (fs : List ℕ) → (n ≡ 0 → ⊥) → owned_by n fs ≡ fs
owned zero fs h = absurd (h refl)
owned (suc n) fs h = refl

none_owned : (n : ℕ) → owned_by n [] ≡ []
none_owned zero = refl
none_owned (suc n) = refl

pub none_counted : (facts : ℕ) (s : List ℕ) (c : Cursor) (unread : FactSet) {marks : List ℕ} → ((f : ℕ) → unread f ≡ false) → Unmarked marks → Counting facts s c c unread marks 0 0 0
unfolding is_unread
none_counted facts s c unread {marks} read zeros =
    record {
      rules = omega arith;
      few = omega arith;
      size = ap length zeros.zeros ∙ length-replicate {A = ℕ} (max_facts narrow) 0;
      marks_show = λ k. ap (λ (S : ℕ → Bool). S k || not (unread k) && constrained (rules_of (items_at s c)) k) (sym empty);
      unread_shown = λ k _. ap (λ (l : List ℕ). eqb (get_or l k 0) unread_mark) zeros.zeros ∙ (ap (λ (x : ℕ). eqb x unread_mark) (zero-marks (max_facts narrow) k) ∙ sym (read k));
      none_marked = λ _ k. ap (λ (S : ℕ → Bool). S k) empty;
    }
  where
    empty : has marks ≡ nothing
    empty = ap has zeros.zeros ∙ unmarked (max_facts narrow)

module _ {facts : ℕ} {s : List ℕ} {c₀ c : Cursor} {unread : FactSet} {marks : List ℕ} {n exc plain : ℕ} (w : Counting facts s c₀ c unread marks n exc plain) where
  pub rule-counted : {f : FactId} {d : Cursor} → ReadAt s c (Opens f) d → Counting facts s c₀ d unread marks (n + 1) exc 1
  rule-counted {f} {d} r =
      record {
        rules = w.rules ∙ (ap (λ ts. exc + (cond (null (owned_by n (constraints_of ts))) 0 plain + with_constraint (rules_of ts))) r.items ∙ opens);
        few = omega (arith, w.few);
        size = w.size;
        marks_show = λ k. w.marks_show k ∙ (ap (λ ts. has marks k || not (unread k) && to_come n ts k) r.items ∙ opens_marked k);
        unread_shown = w.unread_shown;
        none_marked = λ e. absurd (omega arith);
      }
    where
      here : owned_by (n + 1) (constraints_of (items_at s d)) ≡ constraints_of (items_at s d)
      here = owned (n + 1) (constraints_of (items_at s d)) (λ e. omega arith)

      opens : exc + (cond (null (owned_by n [])) 0 plain + cond (not (null (constraints_of (items_at s d)))) (suc (with_constraint (rules_of (items_at s d)))) (with_constraint (rules_of (items_at s d)))) ≡ exc + (cond (null (owned_by (n + 1) (constraints_of (items_at s d)))) 0 1 + with_constraint (rules_of (items_at s d)))
      opens = rw (here, none_owned n) (either_way (null (constraints_of (items_at s d))) (with_constraint (rules_of (items_at s d))))
        where
          either_way : (b : Bool) (m : ℕ) → exc + (0 + cond (not b) (suc m) m) ≡ exc + (cond b 0 1 + m)
          either_way true m = refl
          either_way false m = omega arith

      opens_marked : (k : ℕ) → has marks k || not (unread k) && (mem k (owned_by n []) || (mem k (constraints_of (items_at s d)) || constrained (rules_of (items_at s d)) k)) ≡ has marks k || not (unread k) && to_come (n + 1) (items_at s d) k
      opens_marked k = rw (here, none_owned n)

  pub premise_counted : {f : FactId} {d : Cursor} → ReadAt s c (Premise f) d → Counting facts s c₀ d unread marks n exc plain
  premise_counted {f} {d} r =
      record {
        rules = w.rules ∙ ap (λ ts. exc + (cond (null (owned_by n (constraints_of ts))) 0 plain + with_constraint (rules_of ts))) r.items;
        few = w.few;
        size = w.size;
        marks_show = λ k. w.marks_show k ∙ ap (λ ts. has marks k || not (unread k) && to_come n ts k) r.items;
        unread_shown = w.unread_shown;
        none_marked = w.none_marked;
      }

  -- an unread fact, before the first rule: nothing is counted yet
  pub unread_counted : {f : FactId} {d : Cursor} (unread' : FactSet) → ReadAt s c (Unread f) d → f.0 < facts → facts < max_facts narrow → n ≡ 0 → rules_of (items_at s c₀) ≡ rules_of (items_at s c) → ((k : ℕ) → unread' k ≡ eqb k f.0 || unread k) → Counting facts s c₀ d unread' (set marks f.0 unread_mark) n exc plain
  unfolding is_unread has
  unread_counted {f} {d} unread' r below small none-opened all-ahead more =
      record {
        rules = w.rules ∙ rw none-opened (ap (λ ts. exc + (0 + with_constraint (rules_of ts))) r.items);
        few = w.few;
        size = length-set marks f.0 unread_mark ∙ w.size;
        marks_show = λ k. ap (λ rs. not (unread' k) && constrained rs k) (all-ahead ∙ ap rules_of r.items) ∙ sym (rw (none-opened, none_there k) refl);
        unread_shown = λ k h. shown k h (eqb k f.0) refl ∙ sym (more k);
        none_marked = λ _. none_there;
      }
    where
      there : f.0 < length marks
      there = rw w.size (omega arith)

      none_there : (k : ℕ) → has (set marks f.0 unread_mark) k ≡ false
      none_there k = go (eqb k f.0) refl
        where
          go : (b : Bool) → eqb k f.0 ≡ b → eqb (get_or (set marks f.0 unread_mark) k 0) 1 ≡ false
          go true e = let same : k ≡ f.0 = eqb-true k f.0 e in rw (same, get_or-set_same marks f.0 unread_mark 0 there) refl
          go false e = rw (get_or-set_other marks f.0 k unread_mark 0 (eqb-false k f.0 e)) (w.none_marked none-opened k)

      shown : (k : ℕ) → k < max_facts narrow → (b : Bool) → eqb k f.0 ≡ b → eqb (get_or (set marks f.0 unread_mark) k 0) unread_mark ≡ b || unread k
      shown k h true e = let same : k ≡ f.0 = eqb-true k f.0 e in rw (same, get_or-set_same marks f.0 unread_mark 0 there) refl
      shown k h false e = rw (get_or-set_other marks f.0 k unread_mark 0 (eqb-false k f.0 e)) (w.unread_shown k h)

  module _ {f : FactId} {d : Cursor} (r : ReadAt s c (Constraint f) d) (opened : n ≡ 0 → ⊥) (below : f.0 < facts) (small : facts < max_facts narrow) where
    now_an_exception : with_constraint (rules_of (items_at s c₀)) ≡ exc + plain + (cond (null (owned_by n (constraints_of (items_at s d)))) 0 0 + with_constraint (rules_of (items_at s d)))
    now_an_exception =
        w.rules
        ∙ (ap (λ ts. exc + (cond (null (owned_by n (constraints_of ts))) 0 plain + with_constraint (rules_of ts))) r.items
        ∙ rw (owned n (f.0 ∷ constraints_of (items_at s d)) opened) (now_excepted (null (owned_by n (constraints_of (items_at s d)))) (with_constraint (rules_of (items_at s d)))))
      where
        now_excepted : (b : Bool) (m : ℕ) → exc + (plain + m) ≡ exc + plain + (cond b 0 0 + m)
        now_excepted true m = omega arith
        now_excepted false m = omega arith

    -- what was to come, with the constraint by itself
    ahead : (k : ℕ) → not (unread k) && constrained (rules_of (items_at s c₀)) k ≡ has marks k || not (unread k) && ((eqb k f.0 || mem k (constraints_of (items_at s d))) || constrained (rules_of (items_at s d)) k)
    ahead k = w.marks_show k ∙ (ap (λ ts. has marks k || not (unread k) && to_come n ts k) r.items ∙ rw (owned n (f.0 ∷ constraints_of (items_at s d)) opened))

    -- an unread constraint is not marked
    not-counted : unread f.0 ≡ true → Counting facts s c₀ d unread marks n (exc + plain) 0
    not-counted u =
        record {
          rules = now_an_exception;
          few = omega (arith, w.few);
          size = w.size;
          marks_show = λ k. ahead k ∙ rw (owned n (constraints_of (items_at s d)) opened) (ap (λ (b : Bool). has marks k || b) (passed k (eqb k f.0) refl));
          unread_shown = w.unread_shown;
          none_marked = λ e. absurd (opened e);
        }
      where
        passed : (k : ℕ) (b : Bool) → eqb k f.0 ≡ b → not (unread k) && ((b || mem k (constraints_of (items_at s d))) || constrained (rules_of (items_at s d)) k) ≡ not (unread k) && (mem k (constraints_of (items_at s d)) || constrained (rules_of (items_at s d)) k)
        passed k true e = let same : k ≡ f.0 = eqb-true k f.0 e in rw (same, u) refl
        passed k false e = refl

    -- another one is
    marked : unread f.0 ≡ false → Counting facts s c₀ d unread (set marks f.0 1) n (exc + plain) 0
    unfolding is_unread
    marked u =
        record {
          rules = now_an_exception;
          few = omega (arith, w.few);
          size = length-set marks f.0 1 ∙ w.size;
          marks_show = λ k. ahead k ∙ rw (owned n (constraints_of (items_at s d)) opened, one_mark) (sides k (eqb k f.0) refl);
          unread_shown = λ k h. shown k h (eqb k f.0) refl;
          none_marked = λ e. absurd (opened e);
        }
      where
        there : f.0 < length marks
        there = rw w.size (omega arith)

        one_mark : has (set marks f.0 1) ≡ adjoin (has marks) f.0
        one_mark = has-set marks f.0 there

        either_way : (a b : Bool) → a || true ≡ true || a
        either_way true b = refl
        either_way false b = refl

        sides : (k : ℕ) (b : Bool) → eqb k f.0 ≡ b → has marks k || not (unread k) && ((b || mem k (constraints_of (items_at s d))) || constrained (rules_of (items_at s d)) k) ≡ (b || has marks k) || not (unread k) && (mem k (constraints_of (items_at s d)) || constrained (rules_of (items_at s d)) k)
        sides k true e = let same : k ≡ f.0 = eqb-true k f.0 e in rw (same, u) (either_way (has marks f.0) true)
        sides k false e = refl

        shown : (k : ℕ) → k < max_facts narrow → (b : Bool) → eqb k f.0 ≡ b → eqb (get_or (set marks f.0 1) k 0) unread_mark ≡ unread k
        shown k h true e = let same : k ≡ f.0 = eqb-true k f.0 e in rw (same, get_or-set_same marks f.0 1 0 there) (sym u)
        shown k h false e = rw (get_or-set_other marks f.0 k 1 0 (eqb-false k f.0 e)) (w.unread_shown k h)

    pub constraint_counted : Counting facts s c₀ d unread (with_mark marks f.0) n (exc + plain) 0
    constraint_counted = go (is_unread marks f.0) (w.unread_shown f.0 (omega arith))
      where
        go : (b : Bool) → b ≡ unread f.0 → Counting facts s c₀ d unread (cond b marks (set marks f.0 1)) n (exc + plain) 0
        go true e = not-counted (sym e)
        go false e = marked (sym e)

  module _ {k : ℕ} {d : Cursor} (r : ReadAt s c (Rules k) d) (ends : items_at s d ≡ []) where
    last-item : items_at s c ≡ item (Rules k) ∷ []
    last-item = r.items ∙ ap (λ (ts : List Token). item (Rules k) ∷ ts) ends

    pub exceptions_counted : exc ≡ exceptions (program_from facts s c₀)
    exceptions_counted =
        sym
        (exceptions-of (program_from facts s c₀)
        ∙ (w.rules ∙ (ap (λ ts. exc + (cond (null (owned_by n (constraints_of ts))) 0 plain + with_constraint (rules_of ts))) last-item ∙ rw (none_owned n) (omega arith))))

    pub constrained-counted : ((f : ℕ) → unread f ≡ (program_from facts s c₀).unread f) → how_many (has marks) (up_to facts) ≡ constrained_facts (program_from facts s c₀)
    unfolding constrained_facts
    constrained-counted same =
        how_many-ext (has marks) (λ k. not ((program_from facts s c₀).unread k) && constraint_fact (program_from facts s c₀) every_rule k) (up_to facts)
        (λ j _. sym (ap₂ (λ (a b : Bool). not a && b) (sym (same j)) (constraint-fact (program_from facts s c₀) j) ∙ (w.marks_show j ∙ (ap (λ ts. has marks j || not (unread j) && to_come n ts j) last-item ∙ rw (none_owned n) (none_to_come (has marks j) (unread j))))))
      where
        none_to_come : (b u : Bool) → b || not u && false ≡ b
        none_to_come true u = refl
        none_to_come false true = refl
        none_to_come false false = refl
