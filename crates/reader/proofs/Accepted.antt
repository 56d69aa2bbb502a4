-- What holds of an accepted file: its first item, its body item by item, and the bounds of its program.
use Prim.Native.Nat.{ℕ, zero, suc, ◌+◌, ◌<◌, ◌≤◌}
use mathlib.Core.Path.{◌≡◌, refl, sym, ap, ◌∙◌}
use mathlib.Core.Bool.{Bool, true, false, cond}
use mathlib.Core.List.{List, [], ◌∷◌}
use mathlib.Core.Logic.{⊎_elim}
use mathlib.Core.Option.{Option, none, some}
use native.Mathlib.Omega.{arith}
use borrow.Author.Tests.{ltb-true, leb-true, eqb-true, lt-ltb}
use lib.ListN.{length, get_or}
use lib.Dec.{ltb, leb, eqb}
use Rattle.theory.specs.Rule.{all, Rule, FactSet, count, blank}
use Rattle.theory.specs.Conditions.{Bounded}
use Rattle.theory.proofs.Bools.{and_both}
use Rattle.items.specs.declared.refusal.Refusal.{Refusal}
use Rattle.cursors.specs.declared.cursor.Fault.TheVariants.{NoByte, OtherKind, ShortBody}
use Rattle.items.specs.Question.{Question, first_no}
use Rattle.items.specs.declared.item.FactId.{FactId}
use Rattle.items.specs.declared.item.Item.{Item}
use Rattle.cursors.specs.declared.cursor.Cursor.{Cursor}
use Rattle.cursors.specs.declared.cursor.Read.{Read}
use Rattle.cursors.specs.declared.cursor.Read.TheVariants.{Found, Refused, Ended}
use Rattle.items.specs.Item.{max_bytes, max_rules, max_rule_items, Sign, asks_in, asks_out, same_sign, OwnItem, class_of}
use Rattle.cursors.specs.Cursor.{Token, item, bad, past, next_at, items_at, file_start}
use Rattle.reader.specs.Questions.{own_facts, rule_of, rules_of, fact_count, program_of, fresh, opened, lengthened, count_question, end_question, body_questions, opening_questions, file_questions, file_no, Scan}
use Rattle.cursors.proofs.Items.{ReadAt, found, not_found, row-ended}
use Rattle.items.proofs.ItemSays.{by_tags, alone, either_said}

-- A yes to all is a yes to the first question and to the others.
pub all_asked : (r : Refusal) (b : Bool) (rest : Option Refusal) → ◌≡◌ {A = Option Refusal} (cond b rest (some r)) none → (b ≡ true) × (◌≡◌ {A = Option Refusal} rest none)
all_asked r true rest e = (refl, e)
all_asked r false rest e = absurd (let z : ◌≡◌ {A = ℕ} 0 1 = cc in omega arith)

-- The items of an accepted file after its first: unread facts, rules opened, their own items, and the count of rules last.
pub data GoodBody : Scan → List Token → Type 0 where
  opens : {scan : Scan} {i : Item} {f : FactId} {ts : List Token} → (class_of i).opens ≡ some f → f.0 < scan.facts → scan.rules < max_rules → GoodBody (opened scan) ts → GoodBody scan (item i ∷ ts)
  own : {scan : Scan} {i : Item} {o : OwnItem} {ts : List Token} → (class_of i).own ≡ some o → o.fact.0 < scan.facts → 0 < scan.rules → scan.own < max_rule_items → GoodBody (lengthened scan) ts → GoodBody scan (item i ∷ ts)
  unread : {scan : Scan} {i : Item} {f : FactId} {ts : List Token} → (class_of i).unread ≡ some f → f.0 < scan.facts → scan.rules ≡ 0 → GoodBody scan ts → GoodBody scan (item i ∷ ts)
  last : {scan : Scan} {i : Item} {n : ℕ} → (class_of i).rules ≡ some n → n ≡ scan.rules → GoodBody scan (item i ∷ [])

never : {A : Type 0} {r : Refusal} → ◌≡◌ {A = Option Refusal} (some r) none → A
never e = absurd (let z : ◌≡◌ {A = ℕ} 0 1 = cc in omega arith)

last-item : (scan : Scan) (i : Item) (n : ℕ) (ts : List Token) → (class_of i).rules ≡ some n → ◌≡◌ {A = Option Refusal} (first_no (count_question scan n ∷ end_question ts ∷ [])) none → GoodBody scan (item i ∷ ts)
last-item scan i n [] s e = last s (eqb-true n scan.rules (all_asked _ (eqb n scan.rules) _ e).0)
last-item scan i n (t ∷ ts) s e = never (all_asked _ (eqb n scan.rules) _ e).1

-- a yes to all questions
abbrev pub AllYes : List Question → Type 0
AllYes qs = ◌≡◌ {A = Option Refusal} (first_no qs) none

pub good_body : (scan : Scan) (ts : List Token) → AllYes (body_questions scan ts) → GoodBody scan ts
good_body scan [] = λ e. never e
good_body scan (bad NoByte ∷ ts) = λ e. never e
good_body scan (bad OtherKind ∷ ts) = λ e. never e
good_body scan (bad ShortBody ∷ ts) = λ e. never e
good_body scan (item i ∷ ts) =
    either_said (λ qs. AllYes qs → GoodBody scan (item i ∷ ts)) (class_of i).opens _ _ (λ f s e.
    let a = all_asked _ (ltb f.0 scan.facts) _ e in
    let b = all_asked _ (ltb scan.rules max_rules) _ a.1 in
    opens s (ltb-true _ _ a.0) (ltb-true _ _ b.0) (good_body (opened scan) ts b.1))
    (λ _. either_said (λ qs. AllYes qs → GoodBody scan (item i ∷ ts)) (class_of i).own _ _ (λ o s e.
    let a = all_asked _ (ltb o.fact.0 scan.facts) _ e in
    let b = all_asked _ (ltb 0 scan.rules) _ a.1 in
    let k = all_asked _ (ltb scan.own max_rule_items) _ b.1 in
    own s (ltb-true _ _ a.0) (ltb-true _ _ b.0) (ltb-true _ _ k.0) (good_body (lengthened scan) ts k.1))
    (λ _. either_said (λ qs. AllYes qs → GoodBody scan (item i ∷ ts)) (class_of i).rules _ _ (λ n s e. last-item scan i n ts s e)
    (λ _. either_said (λ qs. AllYes qs → GoodBody scan (item i ∷ ts)) (class_of i).unread _ _ (λ f s e.
    let a = all_asked _ (ltb f.0 scan.facts) _ e in
    let b = all_asked _ (eqb scan.rules 0) _ a.1 in
    unread s (ltb-true _ _ a.0) (eqb-true _ _ b.0) (good_body scan ts b.1))
    (λ _ e. never e))))

-- The rules and the own facts that an item begins.
module _ (i : Item) where
  pub opens_rule : {f : FactId} (ts : List Token) → (class_of i).opens ≡ some f → rules_of (item i ∷ ts) ≡ rule_of f ts ∷ rules_of ts
  opens_rule ts s = rw s

  pub opens_none : (ts : List Token) → ◌≡◌ {A = Option FactId} (class_of i).opens none → rules_of (item i ∷ ts) ≡ rules_of ts
  opens_none ts s = rw s

  pub own-none : (sign : Sign) (ts : List Token) → ◌≡◌ {A = Option OwnItem} (class_of i).own none → own_facts sign (item i ∷ ts) ≡ []
  own-none sign ts s = rw s

  pub own_first : {o : OwnItem} (sign : Sign) (ts : List Token) → (class_of i).own ≡ some o → own_facts sign (item i ∷ ts) ≡ cond (same_sign sign o.sign) (o.fact.0 ∷ own_facts sign ts) (own_facts sign ts)
  own_first sign ts s = rw s

  pub own-opens_none : {o : OwnItem} (ts : List Token) → (class_of i).own ≡ some o → rules_of (item i ∷ ts) ≡ rules_of ts
  own-opens_none ts s = opens_none ts (alone (by_tags i).own s (by_tags i).opens (tt, tt))

  pub unread_opens_none : {f : FactId} (ts : List Token) → (class_of i).unread ≡ some f → rules_of (item i ∷ ts) ≡ rules_of ts
  unread_opens_none ts s = opens_none ts (alone (by_tags i).unread s (by_tags i).opens (tt, tt))

  pub unread_own_none : {f : FactId} (sign : Sign) (ts : List Token) → (class_of i).unread ≡ some f → own_facts sign (item i ∷ ts) ≡ []
  unread_own_none sign ts s = own-none sign ts (alone (by_tags i).unread s (by_tags i).own (tt, (tt, tt)))

  pub count-opens_none : {n : ℕ} → (class_of i).rules ≡ some n → rules_of (item i ∷ []) ≡ []
  count-opens_none s = opens_none [] (alone (by_tags i).rules s (by_tags i).opens (tt, tt))

-- At most 512 rules.
pub few_rules : {scan : Scan} {ts : List Token} → GoodBody scan ts → scan.rules ≤ max_rules → scan.rules + length (rules_of ts) ≤ max_rules
few_rules {scan} (opens {i = i} {ts = ts} s below room g) h = rw (opens_rule i ts s) (omega (arith, few_rules g (omega arith)))
few_rules (own {i = i} {ts = ts} s below first short g) h = rw (own-opens_none i ts s) (few_rules g h)
few_rules (unread {i = i} {ts = ts} s below first g) h = rw (unread_opens_none i ts s) (few_rules g h)
few_rules (last {i = i} s e) h = rw (count-opens_none i s) (omega arith)

-- Every fact is below the count.
abbrev pub AllBelow : ℕ → List ℕ → Type 0
AllBelow n fs = all (λ f. ltb f n) fs ≡ true

own_below : {scan : Scan} {ts : List Token} (sign : Sign) → GoodBody scan ts → AllBelow scan.facts (own_facts sign ts)
own_below sign (opens {i = i} {ts = ts} s below room g) = rw (own-none i sign ts (alone (by_tags i).opens s (by_tags i).own (tt, (tt, tt)))) refl
own_below {scan} sign (own {i = i} {o = o} {ts = ts} s below first short g) = rw (own_first i sign ts s) (go (same_sign sign o.sign) (own_below sign g))
  where
    go : (b : Bool) → AllBelow scan.facts (own_facts sign ts) → AllBelow scan.facts (cond b (o.fact.0 ∷ own_facts sign ts) (own_facts sign ts))
    go true rest = and_both (lt-ltb _ _ below) rest
    go false rest = rest
own_below sign (unread {i = i} {ts = ts} s below first g) = rw (unread_own_none i sign ts s) refl
own_below sign (last {i = i} s e) = rw (own-none i sign [] (alone (by_tags i).rules s (by_tags i).own (tt, (tt, tt)))) refl

pub record RuleBelow (n : ℕ) (r : Rule) : Type 0 where
  pub conclusion : r.conclusion < n
  pub premises : AllBelow n r.premises
  pub constraints : AllBelow n r.constraints

-- Q holds of every rule of a list.
abbrev pub EachRule : (Rule → Type 0) → List Rule → Type 0
EachRule Q rs = (i : ℕ) → i < length rs → Q (get_or rs i blank)

pub one_more : (Q : Rule → Type 0) (r : Rule) (rs : List Rule) → Q r → EachRule Q rs → EachRule Q (r ∷ rs)
one_more Q r rs first later zero h = first
one_more Q r rs first later (suc i) h = later i (omega arith)

rules-below : {scan : Scan} {ts : List Token} → GoodBody scan ts → EachRule (RuleBelow scan.facts) (rules_of ts)
rules-below {scan} (opens {i = i} {ts = ts} s below room g) =
    rw (opens_rule i ts s)
    (one_more (RuleBelow scan.facts) _ (rules_of ts) (record { conclusion = below; premises = own_below asks_in g; constraints = own_below asks_out g }) (rules-below g))
rules-below (own {i = i} {ts = ts} s below first short g) = rw (own-opens_none i ts s) (rules-below g)
rules-below (unread {i = i} {ts = ts} s below first g) = rw (unread_opens_none i ts s) (rules-below g)
rules-below (last {i = i} s e) = rw (count-opens_none i s) (λ i h. absurd (omega arith))

pub body-bounded : {n : ℕ} {ts : List Token} (u : FactSet) → GoodBody (fresh n) ts → Bounded (record { facts = n; rules = rules_of ts; unread = u })
body-bounded u g =
    record {
      conclusion_below = λ i h. (rules-below g i h).conclusion;
      premises_below = λ i h. (rules-below g i h).premises;
      constraints_below = λ i h. (rules-below g i h).constraints;
    }

-- Where the items after the first begin.
abbrev pub body_start : List ℕ → Cursor
body_start s = past s file_start

pub record AcceptedFile (s : List ℕ) : Type 0 where
  pub short : length s ≤ max_bytes
  pub first : Item
  pub counts : (class_of first).facts ≡ some (program_of s).facts
  pub read : ReadAt s file_start first (body_start s)
  pub good : GoodBody (fresh (program_of s).facts) (items_at s (body_start s))
  pub rules : (program_of s).rules ≡ rules_of (items_at s (body_start s))

place : (d : Cursor) (s : List ℕ) (c : Cursor) (i : Item) → ReadAt s c i d → d ≡ past s c
place d s c i r = λ j. record { at = r.width j; row = r.row j }

opens_file : (i : Item) (ts : List Token) → AllYes (opening_questions (item i ∷ ts)) → (n : ℕ) × ((class_of i).facts ≡ some n) × AllYes (body_questions (fresh n) ts)
opens_file i ts =
    either_said (λ qs. AllYes qs → (n : ℕ) × ((class_of i).facts ≡ some n) × AllYes (body_questions (fresh n) ts)) (class_of i).facts _ _ (λ n s e. (n, s, e)) (λ _ e. never e)

counted : (i : Item) {n : ℕ} (ts : List Token) → (class_of i).facts ≡ some n → fact_count (item i ∷ ts) ≡ n
counted i ts s = rw s

pub accepted_file : (s : List ℕ) → ◌≡◌ {A = Option Refusal} (file_no s) none → AcceptedFile s
unfolding file_questions
accepted_file s e = by_read (next_at s file_start) refl
  where
    yes_all : (leb (length s) max_bytes ≡ true) × (◌≡◌ {A = Option Refusal} (first_no (opening_questions (items_at s file_start))) none)
    yes_all = all_asked _ (leb (length s) max_bytes) (first_no (opening_questions (items_at s file_start))) e

    with_count : (i : Item) (n : ℕ) → (class_of i).facts ≡ some n → ReadAt s file_start i (past s file_start) → AllYes (body_questions (fresh n) (items_at s (past s file_start))) → AcceptedFile s
    with_count i n c r j =
        let is : (program_of s).facts ≡ n = ap fact_count r.items ∙ counted i (items_at s (past s file_start)) c in
        record {
          short = leb-true _ _ yes_all.0;
          first = i;
          counts = c ∙ ap some (sym is);
          read = r;
          good = rw is (good_body (fresh n) (items_at s (past s file_start)) j);
          rules = ap rules_of r.items ∙ opens_none i (items_at s (past s file_start)) (alone (by_tags i).facts c (by_tags i).opens (tt, tt));
        }

    with_item : (i : Item) → ReadAt s file_start i (past s file_start) → AcceptedFile s
    with_item i r =
        let o = opens_file i (items_at s (past s file_start)) (sym (ap (λ ts. first_no (opening_questions ts)) r.items) ∙ yes_all.1) in
        with_count i o.0 o.1 r o.2

    by_read : (r : Read) → next_at s file_start ≡ r → AcceptedFile s
    by_read (Found i d) q = with_item i (rw (place d s file_start i (found s file_start d i q)) at (found s file_start d i q))
    by_read (Refused r d) q =
        ⊎_elim (λ w. never (sym (ap (λ ts. first_no (opening_questions ts)) w.0) ∙ yes_all.1)) (λ w. never (sym (ap (λ ts. first_no (opening_questions ts)) w) ∙ yes_all.1)) (not_found s file_start d r q).why
    by_read (Ended d) q = never (sym (ap (λ ts. first_no (opening_questions ts)) (row-ended s file_start d q)) ∙ yes_all.1)

module _ {s : List ℕ} (a : AcceptedFile s) where
  pub rules_few : count (program_of s) ≤ max_rules
  rules_few = rw a.rules (omega (arith, few_rules a.good (omega arith)))

  pub bounded : Bounded (program_of s)
  bounded = rw a.rules (body-bounded (program_of s).unread a.good)
