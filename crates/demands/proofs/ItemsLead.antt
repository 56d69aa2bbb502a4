-- Items that get yes to all their questions lead the scan of a file from one state to another, and a file is refused with the number of a wish at the item behind such
-- items.
use Prim.Native.Nat.{ℕ, ◌+◌, ◌<◌, ◌≤◌}
use native.Mathlib.Omega.{arith}
use native.Mathlib.Nat.{zero-add}
use mathlib.Core.Path.{◌≡◌, refl, sym, ap, ◌∙◌}
use mathlib.Core.Bool.{Bool, true, false, cond}
use mathlib.Core.List.{List, [], ◌∷◌, ◌++◌, map, append-nil}
use mathlib.Core.Option.{Option, some}
use borrow.Author.Tests.{ltb-true, ltb-false, leb-true, lt-ltb, le-leb, eqb-true, eqb-false, eq-eqb}
use lib.ListN.{length}
use lib.Dec.{eqb, ltb, leb}
use Rattle.theory.specs.Rule.{Rule}
use Rattle.items.specs.declared.refusal.Refusal.{Refusal}
use Rattle.items.specs.declared.refusal.Refusal.TheVariants.{FileCutOff}
use Rattle.items.specs.declared.item.FactId.{FactId}
use Rattle.items.specs.declared.item.Item.{Item}
use Rattle.items.specs.Item.{max_bytes, max_rules, max_rule_items, asks_in, asks_out, OwnItem, class_of}
use Rattle.items.specs.Question.{number, Question, first_no, no_number}
use Rattle.items.proofs.ItemSays.{by_tags, alone, either_said}
use Rattle.cursors.specs.declared.cursor.Fault.TheVariants.{NoByte, OtherKind, ShortBody}
use Rattle.cursors.specs.Cursor.{Token, item, bad, items_at, file_start, ended}
use Rattle.reader.specs.Questions.{rule_of, rules_of, fact_count, fresh, opened, lengthened, body_questions, opening_questions, file_questions, file_no, Scan}
use Rattle.reader.specs.RuleLength.{rule_length}
use Rattle.reader.proofs.Accepted.{opens_rule, opens_none, own-none, own-opens_none, unread_opens_none, unread_own_none}
use Rattle.reader.proofs.RuleLengths.{own_ahead, own-ahead}
use Rattle.demands.specs.Wish02.{last_rule}

-- The first no has this number.
abbrev pub Refuses : ℕ → List Question → Type 0
Refuses n qs = no_number (first_no qs) ≡ n

-- A no that is not the first question's is one of the others'.
pub later-no : (n : ℕ) (r : Refusal) (b : Bool) (rest : Option Refusal) → (number r ≡ n → ⊥) → no_number (cond b rest (some r)) ≡ n → (b ≡ true) × (no_number rest ≡ n)
later-no n r true rest other e = (refl, e)
later-no n r false rest other e = absurd (other e)

-- Items lead from one state of the scan to another: each of them gets yes to all its questions.
pub data Leads : Scan → List Item → Scan → Type 0 where
  here : {scan : Scan} → Leads scan [] scan
  opens : {scan end : Scan} {i : Item} {f : FactId} {is : List Item} → (class_of i).opens ≡ some f → f.0 < scan.facts → scan.rules < max_rules → Leads (opened scan) is end → Leads scan (i ∷ is) end
  unread : {scan end : Scan} {i : Item} {f : FactId} {is : List Item} → (class_of i).unread ≡ some f → f.0 < scan.facts → scan.rules ≡ 0 → Leads scan is end → Leads scan (i ∷ is) end
  own : {scan end : Scan} {i : Item} {o : OwnItem} {is : List Item} → (class_of i).own ≡ some o → o.fact.0 < scan.facts → 0 < scan.rules → scan.own < max_rule_items → Leads (lengthened scan) is end → Leads scan (i ∷ is) end

abbrev pub items : List Item → List Token
items is = map item is

-- What follows them is asked in that state.
pub leads-on : {scan end : Scan} {is : List Item} → Leads scan is end → (ts : List Token) → first_no (body_questions scan (items is ++ ts)) ≡ first_no (body_questions end ts)
leads-on here ts = refl
leads-on {scan} (opens {i = i} {f = f} s below room l) ts = rw (s, lt-ltb f.0 scan.facts below, lt-ltb scan.rules max_rules room) (leads-on l ts)
leads-on {scan} (own {i = i} {o = o} s below first short l) ts =
    rw (alone (by_tags i).own s (by_tags i).opens (tt, tt), s, lt-ltb o.fact.0 scan.facts below, lt-ltb 0 scan.rules first, lt-ltb scan.own max_rule_items short) (leads-on l ts)
leads-on {scan} (unread {i = i} {f = f} s below first l) ts =
    rw (alone (by_tags i).unread s (by_tags i).opens (tt, tt), alone (by_tags i).unread s (by_tags i).own (tt, (tt, tt)), alone (by_tags i).unread s (by_tags i).rules (tt, tt), s, lt-ltb f.0 scan.facts below, eq-eqb scan.rules 0 first) (leads-on l ts)

pub leads-cut : {scan end : Scan} {is : List Item} → Leads scan is end → first_no (body_questions scan (items is)) ≡ some FileCutOff
leads-cut {scan} {end} {is} l = sym (ap (λ ts. first_no (body_questions scan ts)) (append-nil (items is))) ∙ leads-on l []

-- Where nothing is missing but a next byte, the items lead to some state.
pub cut_leads : (scan : Scan) (is : List Item) → Refuses 3 (body_questions scan (items is)) → (end : Scan) × Leads scan is end
cut_leads scan [] = λ e. (scan, here)
cut_leads scan (i ∷ is) =
    either_said (λ qs. Refuses 3 qs → (end : Scan) × Leads scan (i ∷ is) end) (class_of i).opens _ _ (λ f s e.
    let a = later-no 3 _ (ltb f.0 scan.facts) _ (λ z. omega arith) e in
    let b = later-no 3 _ (ltb scan.rules max_rules) _ (λ z. omega arith) a.1 in
    let r = cut_leads (opened scan) is b.1 in
    (r.0, opens s (ltb-true _ _ a.0) (ltb-true _ _ b.0) r.1))
    (λ _. either_said (λ qs. Refuses 3 qs → (end : Scan) × Leads scan (i ∷ is) end) (class_of i).own _ _ (λ o s e.
    let a = later-no 3 _ (ltb o.fact.0 scan.facts) _ (λ z. omega arith) e in
    let b = later-no 3 _ (ltb 0 scan.rules) _ (λ z. omega arith) a.1 in
    let k = later-no 3 _ (ltb scan.own max_rule_items) _ (λ z. omega arith) b.1 in
    let r = cut_leads (lengthened scan) is k.1 in
    (r.0, own s (ltb-true _ _ a.0) (ltb-true _ _ b.0) (ltb-true _ _ k.0) r.1))
    (λ _. either_said (λ qs. Refuses 3 qs → (end : Scan) × Leads scan (i ∷ is) end) (class_of i).rules _ _ (λ n s e.
    let a = later-no 3 _ (eqb n scan.rules) _ (λ z. omega arith) e in
    let b = later-no 3 _ (ended (items is)) _ (λ z. omega arith) a.1 in
    absurd (omega (arith, b.1)))
    (λ _. either_said (λ qs. Refuses 3 qs → (end : Scan) × Leads scan (i ∷ is) end) (class_of i).unread _ _ (λ f s e.
    let a = later-no 3 _ (ltb f.0 scan.facts) _ (λ z. omega arith) e in
    let b = later-no 3 _ (eqb scan.rules 0) _ (λ z. omega arith) a.1 in
    let r = cut_leads scan is b.1 in
    (r.0, unread s (ltb-true _ _ a.0) (eqb-true _ _ b.0) r.1))
    (λ _ e. absurd (omega (arith, e))))))

-- The state that they lead to: the count of facts stays, the rules opened and the length of the last one are those of the items.
abbrev pub length_of : List Rule → ℕ → ℕ
length_of [] n = n
length_of (r ∷ rs) n = rule_length (last_rule (r ∷ rs))

length-opened : (r : Rule) (rs : List Rule) → length_of rs (rule_length r) ≡ rule_length (last_rule (r ∷ rs))
length-opened r [] = refl
length-opened r (q ∷ rs) = refl

-- before the first rule no item of a rule's own gets yes
none_ahead : {scan end : Scan} {is : List Item} → Leads scan is end → scan.rules ≡ 0 → own_ahead (items is) ≡ 0
none_ahead here e = refl
none_ahead (opens {i = i} {is = is} s below room l) e = let t = alone (by_tags i).opens s (by_tags i).own (tt, (tt, tt)) in rw (own-none i asks_in (items is) t, own-none i asks_out (items is) t)
none_ahead (unread {i = i} {is = is} s below first l) e = rw (unread_own_none i asks_in (items is) s, unread_own_none i asks_out (items is) s)
none_ahead (own s below first short l) e = absurd (omega arith)

pub record LedTo (scan : Scan) (is : List Item) (end : Scan) : Type 0 where
  pub facts : end.facts ≡ scan.facts
  pub rules : end.rules ≡ scan.rules + length (rules_of (items is))
  pub length : end.own ≡ length_of (rules_of (items is)) (scan.own + own_ahead (items is))
  pub short : scan.own ≤ max_rule_items → end.own ≤ max_rule_items

pub led_to : {scan end : Scan} {is : List Item} → Leads scan is end → LedTo scan is end
led_to here = record { facts = refl; rules = omega arith; length = omega arith; short = λ h. h }
led_to {scan} {end} (opens {i = i} {f = f} {is = is} s below room l) =
    let t = led_to l in
    record {
      facts = t.facts;
      rules = rw (opens_rule i (items is) s) (omega (arith, t.rules));
      length = rw (opens_rule i (items is) s) (t.length ∙ ap (length_of (rules_of (items is))) (zero-add (own_ahead (items is))) ∙ length-opened (rule_of f (items is)) (rules_of (items is)));
      short = λ h. t.short (omega arith);
    }
led_to {scan} {end} (own {i = i} {is = is} s below first short l) =
    let t = led_to l in
    let more : scan.own + 1 + own_ahead (items is) ≡ scan.own + own_ahead (item i ∷ items is) = omega (arith, own-ahead i (items is) s) in
    record {
      facts = t.facts;
      rules = rw (own-opens_none i (items is) s) t.rules;
      length = rw (own-opens_none i (items is) s) (t.length ∙ ap (length_of (rules_of (items is))) more);
      short = λ h. t.short (omega arith);
    }
led_to {scan} {end} (unread {i = i} {is = is} s below first l) =
    let t = led_to l in
    let same : scan.own + own_ahead (items is) ≡ scan.own + own_ahead (item i ∷ items is) = rw (none_ahead l first, unread_own_none i asks_in (items is) s, unread_own_none i asks_out (items is) s) in
    record {
      facts = t.facts;
      rules = rw (unread_opens_none i (items is) s) t.rules;
      length = rw (unread_opens_none i (items is) s) (t.length ∙ ap (length_of (rules_of (items is))) same);
      short = t.short;
    }

-- The first item of a row that gets a no, of which Q says why in the state that the items before it lead to.
pub record StopsAt (Q : Scan → Item → Type 0) (scan : Scan) (ts : List Token) : Type 0 where
  pub before : List Item
  pub next : Item
  pub after : List Token
  pub end : Scan
  pub stands : ts ≡ items before ++ (item next ∷ after)
  pub leads : Leads scan before end
  pub why : Q end next

-- .. of a file, behind its count of facts
pub record FileStops (Q : Scan → Item → Type 0) (file : List ℕ) : Type 0 where
  pub first : Item
  pub facts : ℕ
  pub rest : List Token
  pub short : length file ≤ max_bytes
  pub stands : items_at file file_start ≡ item first ∷ rest
  pub counts : (class_of first).facts ≡ some facts
  pub stops : StopsAt Q (fresh facts) rest

-- A row that is refused with a number above those of document 01 stops at an item of a rule's own that is one too many, with 51, or at an unread fact behind a rule, with
-- 56.
module _ (n : ℕ) (above : 10 < n) (Q : Scan → Item → Type 0)
    (long : (scan : Scan) (i : Item) (o : OwnItem) → (class_of i).own ≡ some o → o.fact.0 < scan.facts → 0 < scan.rules → max_rule_items ≤ scan.own → 51 ≡ n → Q scan i)
    (late : (scan : Scan) (i : Item) (f : FactId) → (class_of i).unread ≡ some f → f.0 < scan.facts → (scan.rules ≡ 0 → ⊥) → 56 ≡ n → Q scan i) where
  -- at this item, or at a later one
  at_once : {scan : Scan} {ts : List Token} (i : Item) → Q scan i → StopsAt Q scan (item i ∷ ts)
  at_once {scan} {ts} i q = record { before = []; next = i; after = ts; end = scan; stands = refl; leads = here; why = q }

  one_before : {scan first : Scan} {ts : List Token} (i : Item) → ((end : Scan) (is : List Item) → Leads first is end → Leads scan (i ∷ is) end) → StopsAt Q first ts → StopsAt Q scan (item i ∷ ts)
  one_before i leads t =
      record {
        before = i ∷ t.before;
        next = t.next;
        after = t.after;
        end = t.end;
        stands = ap (λ ts. item i ∷ ts) t.stands;
        leads = leads t.end t.before t.leads;
        why = t.why;
      }

  -- the last question of an item gets yes, and the number is a later item's, or it gets no
  last-asked : (r : Refusal) (b : Bool) (rest : Option Refusal) {A : Type 0} → no_number (cond b rest (some r)) ≡ n → (b ≡ true → no_number rest ≡ n → A) → (b ≡ false → number r ≡ n → A) → A
  last-asked r true rest e later now = later refl e
  last-asked r false rest e later now = now refl e

  pub stops_at : (scan : Scan) (ts : List Token) → Refuses n (body_questions scan ts) → StopsAt Q scan ts
  stops_at scan [] = λ e. absurd (omega (arith, e))
  stops_at scan (bad NoByte ∷ ts) = λ e. absurd (omega (arith, e))
  stops_at scan (bad OtherKind ∷ ts) = λ e. absurd (omega (arith, e))
  stops_at scan (bad ShortBody ∷ ts) = λ e. absurd (omega (arith, e))
  stops_at scan (item i ∷ ts) =
      either_said (λ qs. Refuses n qs → StopsAt Q scan (item i ∷ ts)) (class_of i).opens _ _ (λ f s e.
      let a = later-no n _ (ltb f.0 scan.facts) _ (λ z. omega arith) e in
      let b = later-no n _ (ltb scan.rules max_rules) _ (λ z. omega arith) a.1 in
      one_before i (λ end is l. opens s (ltb-true _ _ a.0) (ltb-true _ _ b.0) l) (stops_at (opened scan) ts b.1))
      (λ _. either_said (λ qs. Refuses n qs → StopsAt Q scan (item i ∷ ts)) (class_of i).own _ _ (λ o s e.
      let a = later-no n _ (ltb o.fact.0 scan.facts) _ (λ z. omega arith) e in
      let b = later-no n _ (ltb 0 scan.rules) _ (λ z. omega arith) a.1 in
      last-asked _ (ltb scan.own max_rule_items) _ b.1
      (λ t r. one_before i (λ end is l. own s (ltb-true _ _ a.0) (ltb-true _ _ b.0) (ltb-true _ _ t) l) (stops_at (lengthened scan) ts r))
      (λ t r. at_once i (long scan i o s (ltb-true _ _ a.0) (ltb-true _ _ b.0) (ltb-false _ _ t) r)))
      (λ _. either_said (λ qs. Refuses n qs → StopsAt Q scan (item i ∷ ts)) (class_of i).rules _ _ (λ m s e.
      let a = later-no n _ (eqb m scan.rules) _ (λ z. omega arith) e in
      let b = later-no n _ (ended ts) _ (λ z. omega arith) a.1 in
      absurd (omega (arith, b.1)))
      (λ _. either_said (λ qs. Refuses n qs → StopsAt Q scan (item i ∷ ts)) (class_of i).unread _ _ (λ f s e.
      let a = later-no n _ (ltb f.0 scan.facts) _ (λ z. omega arith) e in
      last-asked _ (eqb scan.rules 0) _ a.1
      (λ t r. one_before i (λ end is l. unread s (ltb-true _ _ a.0) (eqb-true _ _ t) l) (stops_at scan ts r))
      (λ t r. at_once i (late scan i f s (ltb-true _ _ a.0) (eqb-false _ _ t) r)))
      (λ _ e. absurd (omega (arith, e))))))

  -- So does a file, behind its count of facts.
  pub file_stops : (file : List ℕ) → no_number (file_no file) ≡ n → FileStops Q file
  unfolding file_questions
  file_stops file e =
      let a = later-no n _ (leb (length file) max_bytes) (first_no (opening_questions (items_at file file_start))) (λ z. omega arith) e in
      go (items_at file file_start) refl (leb-true _ _ a.0) a.1
    where
      go : (ts : List Token) → items_at file file_start ≡ ts → length file ≤ max_bytes → Refuses n (opening_questions ts) → FileStops Q file
      go [] stand short = λ e. absurd (omega (arith, e))
      go (bad NoByte ∷ ts) stand short = λ e. absurd (omega (arith, e))
      go (bad OtherKind ∷ ts) stand short = λ e. absurd (omega (arith, e))
      go (bad ShortBody ∷ ts) stand short = λ e. absurd (omega (arith, e))
      go (item i ∷ ts) stand short =
          either_said (λ qs. Refuses n qs → FileStops Q file) (class_of i).facts _ _ (λ m s e. record { first = i; facts = m; rest = ts; short = short; stands = stand; counts = s; stops = stops_at (fresh m) ts e }) (λ _ e. absurd (omega (arith, e)))

-- The first item gives the count of facts, and the questions on the others follow.
module _ (first : Item) {n : ℕ} (counts : (class_of first).facts ≡ some n) where
  pub counted : (ts : List Token) → fact_count (item first ∷ ts) ≡ n
  counted ts = rw counts

  pub no_rule : (ts : List Token) → rules_of (item first ∷ ts) ≡ rules_of ts
  no_rule ts = opens_none first ts (alone (by_tags first).facts counts (by_tags first).opens (tt, tt))

  pub asked-on : (ts : List Token) → first_no (opening_questions (item first ∷ ts)) ≡ first_no (body_questions (fresh n) ts)
  asked-on ts = rw counts

  -- the state that items lead to from there, in terms of all of them
  module _ {is : List Item} {end : Scan} (l : Leads (fresh n) is end) where
    pub all-facts : fact_count (items (first ∷ is)) ≡ end.facts
    all-facts = counted (items is) ∙ sym (led_to l).facts

    pub all-rules : end.rules ≡ length (rules_of (items (first ∷ is)))
    all-rules = (led_to l).rules ∙ (zero-add (length (rules_of (items is))) ∙ sym (ap length (no_rule (items is))))

-- Items that lead to a state in which the next one is refused: so is the file, with that refusal.
pub refuses_at : (r : Refusal) (is : List Item) (next : Item) (after : List Token) → Refuses 3 (opening_questions (items is)) → ((first : Item) (before : List Item) (n : ℕ) (end : Scan) → is ≡ first ∷ before → (class_of first).facts ≡ some n → Leads (fresh n) before end → first_no (body_questions end (item next ∷ after)) ≡ some r) → first_no (opening_questions (items is ++ (item next ∷ after))) ≡ some r
refuses_at r [] next after e h = absurd (omega (arith, e))
refuses_at r (i ∷ is) next after e h =
    either_said (λ qs. Refuses 3 qs → first_no (opening_questions (items (i ∷ is) ++ (item next ∷ after))) ≡ some r) (class_of i).facts _ _ (λ n c e. go n c (cut_leads (fresh n) is e)) (λ _ e. absurd (omega (arith, e))) e
  where
    go : (n : ℕ) → (class_of i).facts ≡ some n → (end : Scan) × Leads (fresh n) is end → first_no (opening_questions (items (i ∷ is) ++ (item next ∷ after))) ≡ some r
    go n c (end, l) = asked-on i c (items is ++ (item next ∷ after)) ∙ (leads-on l (item next ∷ after) ∙ h i is n end refl c l)

pub file_refused : (r : Refusal) (file : List ℕ) (is : List Item) (next : Item) (after : List Token) → length file ≤ max_bytes → items_at file file_start ≡ items is ++ (item next ∷ after) → first_no (opening_questions (items is ++ (item next ∷ after))) ≡ some r → file_no file ≡ some r
unfolding file_questions
file_refused r file is next after short stands e = rw (le-leb (length file) max_bytes short, stands) e
