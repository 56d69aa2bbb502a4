-- The scan of the items after the first: a law for each way through its loop.
use Prim.Native.Nat.{ℕ, ◌+◌, ◌-◌, ◌<◌, ◌≤◌}
use mathlib.Core.Path.{◌≡◌, refl, sym, ap, ap₂, subst, ◌∙◌}
use mathlib.Core.Bool.{Bool, true, false, cond}
use mathlib.Core.List.{List, []}
use native.Mathlib.Omega.{arith}
use mathlib.Core.Option.{none, some}
use borrow.Author.Tests.{eqb-true, eqb-false, leb-true, leb-false}
use lib.ListN.{length, set, drop}
use lib.Dec.{eqb, leb}
use Rattle.items.specs.declared.refusal.Refusal.{Refusal}
use Rattle.items.specs.declared.refusal.Refusal.TheVariants.{FactTooHigh, UnreadAfterRule}
use Rattle.items.specs.declared.item.FactId.{FactId}
use Rattle.items.specs.declared.item.Item.{Item}
use Rattle.items.specs.declared.item.Item.TheVariants.{Opens, Premise, Constraint, Rules, Unread}
use Rattle.cursors.specs.declared.cursor.Cursor.{Cursor}
use Rattle.cursors.specs.declared.cursor.Row.TheVariants.{Body}
use Rattle.cursors.specs.declared.cursor.Read.{Read}
use Rattle.cursors.specs.declared.cursor.Read.TheVariants.{Found}
use Rattle.items.specs.Item.{narrow, max_facts, max_rules, max_rule_items, max_bytes}
use Rattle.cursors.specs.Cursor.{next_at, items_at}
use Rattle.cursors.proofs.Items.{ReadAt, found, none_left}
use Rattle.theory.specs.Rule.{FactSet}
use Rattle.tables.specs.Layout.{own_from, last_cell, unread_in}
use Rattle.tables.proofs.EmptyHeld.{empty_well_formed}
use Rattle.std.specs.Prelude.{Ok, Err, Some, None}
use Rattle.reader.specs.declared.step.Progress.{Progress}
use Rattle.reader.specs.Asked.{asked_of, counts_of}
use Rattle.reader.specs.BodyScanned.{program_from, body_no, BodyScanned, Cleared, Unmarked}
use Rattle.reader.specs.Scanning.{none_allowed, Late, late_no, Along, Counting, Scanning, Answered, counts_read, Stepped, Room}
use Rattle.reader.specs.Questions.{fresh, rules_of}
use Rattle.stores.specs.Stores.{with_rule, with_counts, with_unread, withholding, unread_mark, is_unread, with_mark}
use Rattle.reader.proofs.FileAsked.{said_no}
use Rattle.reader.proofs.Accepted.{good_body, body-bounded}
use Rattle.reader.proofs.BodyAsked.{not-begun, Own, own-premise, own-constraint, unread_too_high, unread_late, unread_read, rule-opened, no-rule_opened, rule-too_long, own_read, all_yes}
use Rattle.stores.proofs.CellsStored.{MarksKept, rule-stored, counts_stored, rule_marks, counts_marks, own-marks, UnreadStored, unread_stored, WithheldStored, withheld-stored}
use Rattle.reader.proofs.UnreadMarked.{none_unread, none_held, kept-unread, held-unread, unread_more, holding_kept, rule-held, premise_held, constraint_held, unread_held, unread_told}
use Rattle.reader.proofs.RulesStored.{none_stored, opened-rule, rule-kept, storing_kept, unread_kept, premise_kept, constraint_kept, all-stored, all_read}
use Rattle.reader.proofs.ConstraintsCounted.{none_counted, rule-counted, unread_counted, premise_counted, constraint_counted, exceptions_counted, constrained-counted}

pub nothing-scanned : (facts : ℕ) (s : List ℕ) (c : Cursor) (T marks : List ℕ) → c.row ≡ Body → Cleared T → Unmarked marks → Scanning facts s c T marks c (record { rules = 0; allowance = 0; filled = 0; barred = 0; exceptions = 0; plain = 0 })
nothing-scanned facts s c T marks body cleared zeros =
    record {
      own = 0;
      left = λ h. absurd (h refl);
      verdict = not-begun s c facts body;
      tables = none_stored s c T cleared;
      counts = none_counted facts s c (unread_in T facts) (none_unread facts cleared) zeros;
      withheld = none_held facts s c cleared;
    }

-- Before the counts are stored the tables hold a program, and a no to a question is the answer.
module _ {facts : ℕ} {s : List ℕ} {c₀ c : Cursor} {T marks : List ℕ} {p : Progress} (w : Scanning facts s c₀ T marks c p) where
  pub answered_no : {r : Refusal} → body_no facts s c₀ ≡ some r → Answered facts s c₀ T (Err r)
  answered_no e = let no = said_no _ e in (no.0, no.1, empty_well_formed T w.tables.no_facts w.tables.no_rules)

-- How an item leaves the scan: in one of three ways.
another_way : {A : Type 0} → ◌≡◌ {A = ℕ} 0 1 → A
another_way z = absurd (omega arith)

module _ {facts : ℕ} {s : List ℕ} {c₀ : Cursor} {T marks : List ℕ} {d : Cursor} {p : Progress} where
  pub goes_on : {q : Progress} → (q.rules ≡ 0 → ⊥) → Scanning facts s c₀ T marks d q → Stepped facts s c₀ T marks d p (Ok (Some q))
  goes_on {q} some_rule w = record { on = λ q' e. let is : q ≡ q' = cc in subst (Scanning facts s c₀ T marks d) is w; opened = λ q' e z. let is : q ≡ q' = cc in some_rule (ap (λ (x : Progress). x.rules) is ∙ z); ended = λ e. another_way cc; refused = λ n e. another_way cc }

  pub ends : Answered facts s c₀ T (Ok (counts_read facts marks p)) → Stepped facts s c₀ T marks d p (Ok None)
  ends w = record { on = λ q e. another_way cc; opened = λ q e. another_way cc; ended = λ _. w; refused = λ n e. another_way cc }

  pub refuses : {r : Refusal} {c : Cursor} → Scanning facts s c₀ T marks c p → body_no facts s c₀ ≡ some r → Stepped facts s c₀ T marks d p (Err r)
  refuses {r} w said = record { on = λ q e. another_way cc; opened = λ q e. another_way cc; ended = λ e. another_way cc; refused = λ n e. let is : r ≡ n = cc in answered_no w (said ∙ ap some is) }

-- an item that was read, once its kind is known
pub found_as : {r : Read} {d : Cursor} {i j : Item} → r ≡ Found i d → i ≡ j → r ≡ Found j d
found_as {d = d} e q = e ∙ ap (λ (i : Item). Found i d) q

pub read_as : {s : List ℕ} {c d : Cursor} {i j : Item} → next_at s c ≡ Found i d → i ≡ j → ReadAt s c j d
read_as {s} {c} {d} {i} {j} e q = found s c d j (found_as e q)

-- what is counted while other cells than those of unread facts are stored
counted_kept : {facts : ℕ} {s : List ℕ} {c₀ c : Cursor} {u u' : FactSet} {marks : List ℕ} {n exc plain : ℕ} → u ≡ u' → Counting facts s c₀ c u marks n exc plain → Counting facts s c₀ c u' marks n exc plain
counted_kept {facts} {s} {c₀} {c} {marks = marks} {n = n} {exc = exc} {plain = plain} e w = subst (λ (u : FactSet). Counting facts s c₀ c u marks n exc plain) e w

module _ {facts : ℕ} {s : List ℕ} {c₀ : Cursor} {T marks : List ℕ} {c : Cursor} {p : Progress} (w : Scanning facts s c₀ T marks c p) where
  pub has_room : {i : Item} {d : Cursor} → ReadAt s c i d → length s ≤ max_bytes → facts < max_facts narrow → Room facts d p
  has_room r short small =
      record {
        small = small;
        place = omega (arith, r.inside);
        within = w.tables.within;
        rules = w.tables.few;
        exceptions = w.counts.few;
      }

  pub rule-scanned : facts < max_facts narrow → {f : FactId} {d : Cursor} → ReadAt s c (Opens f) d → f.0 < facts → p.rules < max_rules → (T' : List ℕ) → T' ≡ with_rule T p.rules f.0 d.at p.filled p.barred → Scanning facts s c₀ T' marks d (record { rules = p.rules + 1; allowance = max_rule_items; filled = p.filled; barred = p.barred; exceptions = p.exceptions; plain = 1 })
  rule-scanned small {f} {d} r below few T' e = go (rule-opened w.verdict r below few)
    where
      go : Along s c₀ facts d (p.rules + 1) 0 → Scanning facts s c₀ T' marks d (record { rules = p.rules + 1; allowance = max_rule_items; filled = p.filled; barred = p.barred; exceptions = p.exceptions; plain = 1 })
      go v =
          record {
            own = 0;
            left = λ _. omega arith;
            verdict = v;
            tables = rw e (rule-kept w.tables r v.body few);
            counts = counted_kept (rw e (sym (kept-unread small stored))) (rule-counted w.counts r);
            withheld = rw e (rule-held (holding_kept small stored w.tables.few w.withheld) r few (opened-rule w.tables r v.body few));
          }
        where
          stored : MarksKept T (with_rule T p.rules f.0 d.at p.filled p.barred)
          stored = rule_marks (rule-stored T w.tables.size p.rules f.0 d.at p.filled p.barred few) few

  pub unread_scanned : facts < max_facts narrow → {f : FactId} {d : Cursor} → ReadAt s c (Unread f) d → f.0 < facts → p.rules ≡ 0 → (T' marks' : List ℕ) → T' ≡ with_unread T f.0 → marks' ≡ set marks f.0 unread_mark → Scanning facts s c₀ T' marks' d p
  unread_scanned small {f} r below none-opened T' marks' e m =
      record {
        own = w.own;
        left = w.left;
        verdict = unread_read w.verdict r below none-opened;
        tables = rw e (unread_kept (storing_kept w.tables stored.marks_only) r none-opened);
        counts = rw (e, m) (unread_counted w.counts (unread_in (with_unread T f.0) facts) r below small none-opened all-ahead (unread_more facts stored below));
        withheld = rw e (unread_held w.withheld r below small none-opened stored);
      }
    where
      stored : UnreadStored T (with_unread T f.0) f.0
      stored = unread_stored T w.tables.size f.0 (omega arith)

      all-ahead : rules_of (items_at s c₀) ≡ rules_of (items_at s c)
      all-ahead = ap (λ (n : ℕ). drop n (rules_of (items_at s c₀))) (sym none-opened) ∙ w.tables.passed

  -- an unread fact that is not taken
  pub unread_refused : {f : FactId} {d : Cursor} → ReadAt s c (Unread f) d → Late facts (Unread f) p → body_no facts s c₀ ≡ some (late_no facts f)
  unread_refused {f} r late = go (leb facts f.0) refl
    where
      go : (b : Bool) → leb facts f.0 ≡ b → body_no facts s c₀ ≡ some (cond b FactTooHigh UnreadAfterRule)
      go true e = unread_too_high w.verdict r (leb-true _ _ e)
      go false e =
          let below : f.0 < facts = leb-false _ _ e in
          unread_late w.verdict r below (λ z. let high : facts ≤ f.0 = late f refl z in omega arith)

  -- an item of a rule's own, where none is allowed
  pub none_allowed_lem : {i : Item} {f : FactId} {d : Cursor} → Own i f → ReadAt s c i d → f.0 < facts → p.allowance ≡ 0 → body_no facts s c₀ ≡ some (none_allowed p.rules)
  none_allowed_lem asked r below none_left = go (eqb p.rules 0) refl
    where
      go : (b : Bool) → eqb p.rules 0 ≡ b → body_no facts s c₀ ≡ some (none_allowed p.rules)
      go true e = rw e (no-rule_opened w.verdict asked r below (eqb-true p.rules 0 e))
      go false e =
          let opened = eqb-false p.rules 0 e in
          rw e (rule-too_long w.verdict asked r below opened (omega (arith, w.left opened)))

  module _ (some_left : p.allowance ≡ 0 → ⊥) where
    pub some_opened : p.rules ≡ 0 → ⊥
    some_opened e = omega (arith, w.tables.within)

    one_more : w.own < max_rule_items
    one_more = omega (arith, w.left some_opened)

    one_less : (p.rules ≡ 0 → ⊥) → w.own + 1 + (p.allowance - 1) ≡ max_rule_items
    one_less opened = omega (arith, w.left opened)

    pub premise_scanned : facts < max_facts narrow → {f : FactId} {d : Cursor} → ReadAt s c (Premise f) d → f.0 < facts → Scanning facts s c₀ (set T (own_from + p.filled) f.0) marks d (record { rules = p.rules; allowance = p.allowance - 1; filled = p.filled + 1; barred = p.barred; exceptions = p.exceptions; plain = p.plain })
    premise_scanned small {f} {d} r below =
        record {
          own = w.own + 1;
          left = one_less;
          verdict = own_read w.verdict (own-premise f) r below some_opened one_more;
          tables = premise_kept w.tables r some_left;
          counts = counted_kept (sym (kept-unread small stored)) (premise_counted w.counts r);
          withheld = premise_held (holding_kept small stored w.tables.few w.withheld) r;
        }
      where
        stored : MarksKept T (set T (own_from + p.filled) f.0)
        stored = own-marks T (own_from + p.filled) f.0 (omega arith)

    pub constraint_scanned : facts < max_facts narrow → {f : FactId} {d : Cursor} → ReadAt s c (Constraint f) d → f.0 < facts → (T' marks' : List ℕ) → T' ≡ withholding (set T (last_cell - p.barred) f.0) p.rules (is_unread marks f.0) → marks' ≡ with_mark marks f.0 → Scanning facts s c₀ T' marks' d (record { rules = p.rules; allowance = p.allowance - 1; filled = p.filled; barred = p.barred + 1; exceptions = p.exceptions + p.plain; plain = 0 })
    constraint_scanned small {f} {d} r below T' marks' t b =
        record {
          own = w.own + 1;
          left = one_less;
          verdict = own_read w.verdict (own-constraint f) r below some_opened one_more;
          tables = rw t (storing_kept (constraint_kept w.tables r some_left) held.marks_only);
          counts = rw b (counted_kept (sym (rw t same_unread)) (constraint_counted w.counts r some_opened below small));
          withheld = rw t (constraint_held (holding_kept small stored w.tables.few w.withheld) r below small (omega (arith, some_opened)) w.tables.few told held);
        }
      where
        stored : MarksKept T (set T (last_cell - p.barred) f.0)
        stored = own-marks T (last_cell - p.barred) f.0 (omega (arith, w.tables.within, w.tables.few, some_left))

        held : WithheldStored (set T (last_cell - p.barred) f.0) (withholding (set T (last_cell - p.barred) f.0) p.rules (is_unread marks f.0)) p.rules (is_unread marks f.0)
        held = withheld-stored (set T (last_cell - p.barred) f.0) (constraint_kept w.tables r some_left).size p.rules (is_unread marks f.0) (omega (arith, some_opened)) w.tables.few

        told : is_unread marks f.0 ≡ unread_in (set T (last_cell - p.barred) f.0) facts f.0
        told = w.counts.unread_shown f.0 (omega arith) ∙ sym (ap (λ (S : FactSet). S f.0) (kept-unread small stored))

        same_unread : unread_in (withholding (set T (last_cell - p.barred) f.0) p.rules (is_unread marks f.0)) facts ≡ unread_in T facts
        same_unread = held-unread small (omega (arith, some_opened)) held ∙ kept-unread small stored

  module _ (small : facts < max_facts narrow) where
    pub body-scanned : {k : ℕ} {d : Cursor} → ReadAt s c (Rules k) d → k ≡ p.rules → length s ≤ d.at → (T' : List ℕ) → T' ≡ with_counts T facts k p.filled p.barred → Answered facts s c₀ T' (Ok (counts_read facts marks p))
    body-scanned {k} {d} r right ended T' t =
        (ap₂ asked_of (sym yes_all) same_counts, scanned_all, (scanned_all yes_all).well_formed)
      where
        yes_all : body_no facts s c₀ ≡ none
        yes_all = all_yes w.verdict r right ended

        ends : items_at s d ≡ []
        ends = none_left s d ended

        scanned_all : BodyScanned facts s c₀ T'
        scanned_all h = rw (t, right) (all-stored w.tables r ends small (body-bounded (program_from facts s c₀).unread (good_body (fresh facts) (items_at s c₀) h)) w.withheld)

        same_unread : unread_in T facts ≡ (program_from facts s c₀).unread
        same_unread =
            let m = counts_marks (counts_stored T w.tables.size facts p.rules p.filled p.barred w.tables.few) w.tables.few in
            sym (kept-unread small m) ∙ unread_told small m w.withheld r ends

        same_counts : counts_read facts marks p ≡ counts_of (program_from facts s c₀)
        same_counts = λ j. record { facts = facts; rules = (sym (all_read w.tables r ends)) j; exceptions = exceptions_counted w.counts r ends j; constrained = constrained-counted w.counts r ends (λ f. ap (λ (S : FactSet). S f) same_unread) j }
