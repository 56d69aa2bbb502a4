-- Wish 2: the cap on the length of a rule.
use Prim.Native.Nat.{ℕ, suc, ◌+◌, ◌<◌, ◌≤◌}
use native.Mathlib.Omega.{arith}
use mathlib.Core.Path.{◌≡◌, refl, sym, ap, ◌∙◌}
use mathlib.Core.Bool.{Bool, true, false}
use mathlib.Core.List.{List, [], ◌∷◌}
use mathlib.Core.Option.{some}
use borrow.Author.Tests.{ltb-true, lt-ltb, le-ltb, eqb-true}
use lib.ListN.{length}
use lib.Dec.{eqb, ltb, leb}
use Rattle.theory.specs.Rule.{Rule}
use Rattle.items.specs.declared.refusal.Refusal.TheVariants.{RuleTooLong}
use Rattle.items.specs.declared.item.Item.{Item}
use Rattle.items.specs.Item.{max_bytes, max_rules, max_rule_items, OwnItem, class_of}
use Rattle.items.specs.Question.{number, Question, first_no, no_number}
use Rattle.items.proofs.ItemSays.{by_tags, alone, either_said}
use Rattle.cursors.specs.declared.cursor.Fault.TheVariants.{NoByte, OtherKind, ShortBody}
use Rattle.cursors.specs.Cursor.{Token, item, bad, items_at, file_start}
use Rattle.reader.specs.Questions.{rule_of, rules_of, program_of, fresh, opened, lengthened, body_questions, opening_questions, file_questions, file_no, Scan}
use Rattle.reader.specs.RuleLength.{rule_length, WithinCap}
use Rattle.reader.proofs.Accepted.{all_asked, AllYes, EachRule, opens_rule, opens_none, own-opens_none, unread_opens_none, accepted_file}
use Rattle.reader.proofs.RuleLengths.{own_ahead, own-ahead, Short, within_cap, together_few}
use Rattle.demands.specs.Wish02.{without51, first_no_uncapped, last_rule, TwentyFifth, Wish02}
use Rattle.demands.proofs.ItemsLead.{Refuses, items, Leads, leads-cut, length_of, led_to, FileStops, file_stops, no_rule, asked-on, all-facts, refuses_at, file_refused}
use Rattle.demands.proofs.EachRefuses.{each_refuses}

-- The questions without the cap give the same first no, but for 51.
else_first : (qs : List Question) → (Refuses 51 qs → ⊥) → first_no qs ≡ first_no (without51 qs)
else_first [] h = refl
else_first (q ∷ qs) h = go q.answer (eqb (number q.refusal) 51) refl refl (else_first qs)
  where
    go : (a b : Bool) → q.answer ≡ a → eqb (number q.refusal) 51 ≡ b → ((Refuses 51 qs → ⊥) → first_no qs ≡ first_no (without51 qs)) → first_no (q ∷ qs) ≡ first_no (without51 (q ∷ qs))
    go true true x y rest = rw (x, y) (rest (λ e. h (rw x e)))
    go true false x y rest = rw (x, y) (rest (λ e. h (rw x e)))
    go false true x y rest = absurd (h (rw x (eqb-true (number q.refusal) 51 y)))
    go false false x y rest = rw (x, y)

-- What is accepted without the cap is accepted, where the rule last opened and each later one stay within the cap.
abbrev Capped : Scan → List Token → List Question → Type 0
Capped scan ts qs = AllYes (without51 qs) → (0 < scan.rules → scan.own + own_ahead ts ≤ max_rule_items) → EachRule Short (rules_of ts) → AllYes qs

capped : (scan : Scan) (ts : List Token) → Capped scan ts (body_questions scan ts)
capped scan [] = λ e last-short all_short. e
capped scan (bad NoByte ∷ ts) = λ e last-short all_short. e
capped scan (bad OtherKind ∷ ts) = λ e last-short all_short. e
capped scan (bad ShortBody ∷ ts) = λ e last-short all_short. e
capped scan (item i ∷ ts) =
    either_said (Capped scan (item i ∷ ts)) (class_of i).opens _ _ (λ f s e last-short all_short.
    let a = all_asked _ (ltb f.0 scan.facts) _ e in
    let b = all_asked _ (ltb scan.rules max_rules) _ a.1 in
    let rules : EachRule Short (rule_of f ts ∷ rules_of ts) = rw (opens_rule i ts s) at all_short in
    rw (a.0, b.0) (capped (opened scan) ts b.1 (λ _. omega (arith, rules 0 (omega arith))) (λ j l. rules (suc j) (omega arith))))
    (λ _. either_said (Capped scan (item i ∷ ts)) (class_of i).own _ _ (λ o s e last-short all_short.
    let a = all_asked _ (ltb o.fact.0 scan.facts) _ e in
    let b = all_asked _ (ltb 0 scan.rules) _ a.1 in
    let some_opened : 0 < scan.rules = ltb-true 0 scan.rules b.0 in
    let more : own_ahead (item i ∷ ts) ≡ suc (own_ahead ts) = own-ahead i ts s in
    let few : scan.own + own_ahead (item i ∷ ts) ≤ max_rule_items = last-short some_opened in
    rw (a.0, b.0, lt-ltb scan.own max_rule_items (omega arith)) (capped (lengthened scan) ts b.1 (λ _. omega arith) (rw (own-opens_none i ts s) at all_short)))
    (λ _. either_said (Capped scan (item i ∷ ts)) (class_of i).rules _ _ (λ n s e last-short all_short. e)
    (λ _. either_said (Capped scan (item i ∷ ts)) (class_of i).unread _ _ (λ f s e last-short all_short.
    let a = all_asked _ (ltb f.0 scan.facts) _ e in
    let b = all_asked _ (eqb scan.rules 0) _ a.1 in
    let none-opened : scan.rules ≡ 0 = eqb-true _ _ b.0 in
    rw (a.0, b.0) (capped scan ts b.1 (λ h. absurd (omega arith)) (rw (unread_opens_none i ts s) at all_short)))
    (λ _ e last-short all_short. e))))

file_capped : (ts : List Token) → AllYes (without51 (opening_questions ts)) → EachRule Short (rules_of ts) → AllYes (opening_questions ts)
file_capped [] = λ e all_short. e
file_capped (bad NoByte ∷ ts) = λ e all_short. e
file_capped (bad OtherKind ∷ ts) = λ e all_short. e
file_capped (bad ShortBody ∷ ts) = λ e all_short. e
file_capped (item i ∷ ts) =
    either_said (λ qs. AllYes (without51 qs) → EachRule Short (rules_of (item i ∷ ts)) → AllYes qs) (class_of i).facts _ _ (λ n s e all_short.
    capped (fresh n) ts e (λ h. absurd (omega (arith, h))) (rw (opens_none i ts (alone (by_tags i).facts s (by_tags i).opens (tt, tt))) at all_short))
    (λ _ e all_short. e)

-- The item is one too many of the rule last opened.
record Full (end : Scan) (i : Item) : Type 0 where
  pub own : OwnItem
  pub is_own : (class_of i).own ≡ some own
  pub below : own.fact.0 < end.facts
  pub opened : 0 < end.rules
  pub full : max_rule_items ≤ end.own

-- In such a state the next own item is refused with 51.
full_refuses : {end : Scan} (i : Item) {o : OwnItem} (ts : List Token) → (class_of i).own ≡ some o → o.fact.0 < end.facts → 0 < end.rules → max_rule_items ≤ end.own → first_no (body_questions end (item i ∷ ts)) ≡ some RuleTooLong
full_refuses {end} i {o} ts s below first full =
    rw (alone (by_tags i).own s (by_tags i).opens (tt, tt), s, lt-ltb o.fact.0 end.facts below, lt-ltb 0 end.rules first, le-ltb end.own max_rule_items full)

-- The rule last opened is full in the state that items lead to exactly where it is by their own account.
module _ (first : Item) {n : ℕ} (counts : (class_of first).facts ≡ some n) {is : List Item} {end : Scan} (l : Leads (fresh n) is end) where
  full_length : 0 < end.rules → max_rule_items ≤ end.own → rule_length (last_rule (rules_of (items (first ∷ is)))) ≡ max_rule_items
  full_length opened full = rw (no_rule first counts (items is)) (go (rules_of (items is)) (led_to l).rules (led_to l).length)
    where
      go : (rs : List Rule) → end.rules ≡ 0 + length rs → end.own ≡ length_of rs (0 + own_ahead (items is)) → rule_length (last_rule rs) ≡ max_rule_items
      go [] r e = absurd (omega arith)
      go (q ∷ rs) r e = omega (arith, (led_to l).short (omega arith))

  length-full : rule_length (last_rule (rules_of (items (first ∷ is)))) ≡ max_rule_items → (0 < end.rules) × (max_rule_items ≤ end.own)
  length-full full = go (rules_of (items is)) (led_to l).rules (led_to l).length (rw (no_rule first counts (items is)) at full)
    where
      go : (rs : List Rule) → end.rules ≡ 0 + length rs → end.own ≡ length_of rs (0 + own_ahead (items is)) → rule_length (last_rule rs) ≡ max_rule_items → (0 < end.rules) × (max_rule_items ≤ end.own)
      go [] r e f = absurd (omega (arith, f))
      go (q ∷ rs) r e f = (omega arith, omega arith)

module _ (file : List ℕ) where
  -- 51 exactly there
  says_51 : no_number (file_no file) ≡ 51 → TwentyFifth file
  says_51 e = found (file_stops 51 (omega arith) Full (λ scan i o s b f m _. record { own = o; is_own = s; below = b; opened = f; full = m }) (λ scan i f s b h q. absurd (omega arith)) file e)
    where
      found : FileStops Full file → TwentyFifth file
      found f =
          let t = f.stops in
          record {
            before = f.first ∷ t.before;
            next = t.next;
            after = t.after;
            stands = f.stands ∙ ap (λ ts. item f.first ∷ ts) t.stands;
            own = t.why.own;
            is_own = t.why.is_own;
            below = rw (all-facts f.first f.counts t.leads) t.why.below;
            full = full_length f.first f.counts t.leads t.why.opened t.why.full;
            short = f.short;
            asked = asked-on f.first f.counts (items t.before) ∙ leads-cut t.leads;
          }

  stands-51 : TwentyFifth file → no_number (file_no file) ≡ 51
  stands-51 t =
      ap no_number
      (file_refused RuleTooLong file t.before t.next t.after t.short t.stands
      (refuses_at RuleTooLong t.before t.next t.after (ap no_number t.asked) (λ first before n end is c l.
      let f = length-full first c l (rw is at t.full) in
      full_refuses t.next t.after t.is_own (rw (all-facts first c l) at (rw is at t.below)) f.0 f.1)))

  -- what is accepted without the cap, within it
  accepts : AllYes (without51 (file_questions file)) → WithinCap (program_of file) → AllYes (file_questions file)
  unfolding file_questions
  accepts e within =
      let a = all_asked _ (leb (length file) max_bytes) (first_no (without51 (opening_questions (items_at file file_start)))) e in
      rw a.0 (file_capped (items_at file file_start) a.1 within)

  else_same : (no_number (file_no file) ≡ 51 → ⊥) → file_no file ≡ first_no_uncapped file
  else_same = else_first (file_questions file)

  pub wish_02 : Wish02 file
  wish_02 =
      record {
        each_rule = λ e. within_cap (accepted_file file e);
        together = λ e. together_few (accepted_file file e);
        accepted = (λ e. (sym (else_same (λ n. absurd (omega (arith, sym (ap no_number e) ∙ n)))) ∙ e, within_cap (accepted_file file e)), λ t. accepts t.0 t.1);
        else_same = else_same;
        fifty_one = (says_51, stands-51);
        each_refuses = each_refuses file 51 (omega arith);
      }
