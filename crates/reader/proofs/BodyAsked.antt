-- The questions on the items of a file after the first, along these items.
use Prim.Native.Nat.{ℕ, ◌+◌, ◌<◌, ◌≤◌}
use mathlib.Core.Path.{◌≡◌, refl, sym, ap, ◌∙◌}
use mathlib.Core.Bool.{true}
use mathlib.Core.List.{List, [], ◌∷◌}
use mathlib.Core.Logic.{⊎_elim}
use mathlib.Core.Option.{none, some}
use native.Mathlib.Omega.{arith}
use borrow.Author.Tests.{lt-ltb, le-ltb, eq-eqb, ne_eqb}
use lib.ListN.{length}
use lib.Dec.{ltb}
use Rattle.items.specs.declared.refusal.Refusal.{Refusal}
use Rattle.items.specs.declared.refusal.Refusal.TheVariants.{FileCutOff, UnknownKind, FactTooHigh, NoRuleOpened, TooManyRules, WrongRuleCount, BytesAfterEnd, RuleTooLong, UnreadAfterRule}
use Rattle.items.specs.declared.item.FactId.{FactId}
use Rattle.items.specs.declared.item.Item.{Item}
use Rattle.items.specs.declared.item.Item.TheVariants.{Opens, Premise, Constraint, Rules, Unread}
use Rattle.cursors.specs.declared.cursor.Cursor.{Cursor}
use Rattle.cursors.specs.declared.cursor.Row.TheVariants.{Body}
use Rattle.cursors.specs.declared.cursor.Fault.TheVariants.{NoByte}
use Rattle.cursors.specs.declared.cursor.Read.TheVariants.{Refused, Ended}
use Rattle.items.specs.Item.{max_rules, max_rule_items}
use Rattle.items.specs.Question.{first_no}
use Rattle.cursors.specs.Cursor.{row_after, Token, item, bad, place_questions, next_at, items_at}
use Rattle.reader.specs.Questions.{lengthened, fact_question, owner_question, length_question, body_questions, Scan}
use Rattle.reader.specs.BodyScanned.{body_no}
use Rattle.reader.specs.Scanning.{seen, Along}
use Rattle.cursors.proofs.Items.{ReadAt, NoItemAt, not_found, row-ended, none_left, some_left}
use Rattle.reader.proofs.Tags.{NotOfBody, not-of_body}

pub not-begun : (s : List ℕ) (c : Cursor) (facts : ℕ) → c.row ≡ Body → Along s c facts c 0 0
not-begun s c facts b = record { body = b; same = refl }

-- A premise or a constraint: the same questions.
abbrev pub Own : Item → FactId → Type 0
Own i f = (scan : Scan) (ts : List Token) → first_no (body_questions scan (item i ∷ ts)) ≡ first_no (fact_question scan f ∷ owner_question scan ∷ length_question scan ∷ body_questions (lengthened scan) ts)

pub own-premise : (f : FactId) → Own (Premise f) f
own-premise f = λ scan ts. refl

pub own-constraint : (f : FactId) → Own (Constraint f) f
own-constraint f = λ scan ts. refl

module _ {s : List ℕ} {c₀ : Cursor} {facts : ℕ} {c : Cursor} {n own : ℕ} (w : Along s c₀ facts c n own) where
  -- no item: the first no is that of the questions on the place
  pub refused : (d : Cursor) (r : Refusal) → next_at s c ≡ Refused r d → body_no facts s c₀ ≡ some r
  refused d r e = w.same ∙ (⊎_elim no_byte at-fault p.why ∙ (sym (ap (λ row. first_no (place_questions row (bad p.fault))) w.body) ∙ p.no))
    where
      p : NoItemAt s c r d
      p = not_found s c d r e

      no_byte : (items_at s c ≡ []) × (p.fault ≡ NoByte) → first_no (body_questions (seen facts n own) (items_at s c)) ≡ first_no (place_questions Body (bad p.fault))
      no_byte q = ap (λ ts. first_no (body_questions (seen facts n own) ts)) q.0 ∙ sym (ap (λ fault. first_no (place_questions Body (bad fault))) q.1)

      at-fault : items_at s c ≡ bad p.fault ∷ [] → first_no (body_questions (seen facts n own) (items_at s c)) ≡ first_no (place_questions Body (bad p.fault))
      at-fault q = ap (λ ts. first_no (body_questions (seen facts n own) ts)) q

  -- the row ends: no byte is left
  pub cut_off : (d : Cursor) → next_at s c ≡ Ended d → body_no facts s c₀ ≡ some FileCutOff
  cut_off d e = w.same ∙ ap (λ ts. first_no (body_questions (seen facts n own) ts)) (row-ended s c d e)

  module _ {i : Item} {d : Cursor} (r : ReadAt s c i d) where
    -- an item: the first no is that of its questions and of what follows
    on : body_no facts s c₀ ≡ first_no (body_questions (seen facts n own) (item i ∷ items_at s d))
    on = w.same ∙ ap (λ ts. first_no (body_questions (seen facts n own) ts)) r.items

    body-after : d.row ≡ Body
    body-after = r.row ∙ ap row_after w.body

    pub other_row : NotOfBody i → body_no facts s c₀ ≡ some UnknownKind
    other_row k = on ∙ not-of_body i (seen facts n own) (items_at s d) k

  module _ {f : FactId} {d : Cursor} (r : ReadAt s c (Opens f) d) where
    pub conclusion_too_high : facts ≤ f.0 → body_no facts s c₀ ≡ some FactTooHigh
    conclusion_too_high h = on r ∙ rw (le-ltb f.0 facts h)

    module _ (below : f.0 < facts) where
      pub too_many_rules : max_rules ≤ n → body_no facts s c₀ ≡ some TooManyRules
      too_many_rules h = on r ∙ rw (lt-ltb f.0 facts below, le-ltb n max_rules h)

      pub rule-opened : n < max_rules → Along s c₀ facts d (n + 1) 0
      rule-opened h = record { body = body-after r; same = on r ∙ rw (lt-ltb f.0 facts below, lt-ltb n max_rules h) }

  module _ {i : Item} {f : FactId} {d : Cursor} (asked : Own i f) (r : ReadAt s c i d) where
    pub own-too_high : facts ≤ f.0 → body_no facts s c₀ ≡ some FactTooHigh
    own-too_high h = on r ∙ (asked (seen facts n own) (items_at s d) ∙ rw (le-ltb f.0 facts h))

    module _ (below : f.0 < facts) where
      pub no-rule_opened : n ≡ 0 → body_no facts s c₀ ≡ some NoRuleOpened
      no-rule_opened h = on r ∙ (asked (seen facts n own) (items_at s d) ∙ rw (lt-ltb f.0 facts below, h))

      module _ (opened : n ≡ 0 → ⊥) where
        some_opened : ltb 0 n ≡ true
        some_opened = lt-ltb 0 n (omega arith)

        pub rule-too_long : max_rule_items ≤ own → body_no facts s c₀ ≡ some RuleTooLong
        rule-too_long h = on r ∙ (asked (seen facts n own) (items_at s d) ∙ rw (lt-ltb f.0 facts below, some_opened, le-ltb own max_rule_items h))

        pub own_read : own < max_rule_items → Along s c₀ facts d n (own + 1)
        own_read h =
            record { body = body-after r; same = on r ∙ (asked (seen facts n own) (items_at s d) ∙ rw (lt-ltb f.0 facts below, some_opened, lt-ltb own max_rule_items h)) }

  module _ {f : FactId} {d : Cursor} (r : ReadAt s c (Unread f) d) where
    pub unread_too_high : facts ≤ f.0 → body_no facts s c₀ ≡ some FactTooHigh
    unread_too_high h = on r ∙ rw (le-ltb f.0 facts h)

    module _ (below : f.0 < facts) where
      pub unread_late : (n ≡ 0 → ⊥) → body_no facts s c₀ ≡ some UnreadAfterRule
      unread_late h = on r ∙ rw (lt-ltb f.0 facts below, ne_eqb n 0 h)

      pub unread_read : n ≡ 0 → Along s c₀ facts d n own
      unread_read h = record { body = body-after r; same = on r ∙ rw (lt-ltb f.0 facts below, eq-eqb n 0 h) }

  module _ {k : ℕ} {d : Cursor} (r : ReadAt s c (Rules k) d) where
    pub wrong_count : (k ≡ n → ⊥) → body_no facts s c₀ ≡ some WrongRuleCount
    wrong_count h = on r ∙ rw (ne_eqb k n h)

    module _ (right : k ≡ n) where
      pub bytes_left : d.at < length s → body_no facts s c₀ ≡ some BytesAfterEnd
      bytes_left h = on r ∙ rw (eq-eqb k n right, some_left s d h)

      pub all_yes : length s ≤ d.at → body_no facts s c₀ ≡ none
      all_yes h = on r ∙ rw (eq-eqb k n right, none_left s d h)
