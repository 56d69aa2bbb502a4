-- What the cap on the length of a rule gives: no rule of an accepted file is longer, so there is room in the tables for all rules together.
use Prim.Native.Nat.{ℕ, suc, ◌+◌, ◌*◌, ◌≤◌}
use mathlib.Core.Path.{◌≡◌}
use mathlib.Core.List.{List, [], ◌∷◌}
use mathlib.Core.Bool.{cond}
use mathlib.Core.Option.{some}
use native.Mathlib.Omega.{arith}
use lib.ListN.{length}
use Rattle.theory.specs.Rule.{Rule}
use Rattle.items.specs.declared.item.Item.{Item}
use Rattle.items.specs.Item.{max_rule_items, Sign, asks_in, asks_out, same_sign, OwnItem, class_of}
use Rattle.items.proofs.ItemSays.{by_tags, alone}
use Rattle.cursors.specs.Cursor.{Token, item}
use Rattle.tables.specs.Layout.{max_own}
use Rattle.reader.specs.Questions.{own_facts, rules_of, program_of, Scan}
use Rattle.reader.specs.RuleLength.{rule_length, all_lengths, WithinCap}
use Rattle.reader.proofs.Accepted.{GoodBody, opens, own, unread, last, EachRule, one_more, opens_rule, own-none, own_first, own-opens_none, unread_opens_none, unread_own_none, count-opens_none, AcceptedFile, rules_few}

-- the own items that stand before an item of another class
abbrev pub own_ahead : List Token → ℕ
own_ahead ts = length (own_facts asks_in ts) + length (own_facts asks_out ts)

-- an own item is one more, a premise or a constraint
one_ahead : (sign : Sign) (f : ℕ) (ins outs : List ℕ) → length (cond (same_sign asks_in sign) (f ∷ ins) ins) + length (cond (same_sign asks_out sign) (f ∷ outs) outs) ≡ suc (length ins + length outs)
one_ahead asks_in f ins outs = omega arith
one_ahead asks_out f ins outs = omega arith

pub own-ahead : (i : Item) (ts : List Token) {o : OwnItem} → (class_of i).own ≡ some o → own_ahead (item i ∷ ts) ≡ suc (own_ahead ts)
own-ahead i ts {o} s = rw (own_first i asks_in ts s, own_first i asks_out ts s) (one_ahead o.sign o.fact.0 (own_facts asks_in ts) (own_facts asks_out ts))

-- The rule last opened stays within the cap.
ahead-short : {scan : Scan} {ts : List Token} → GoodBody scan ts → scan.own ≤ max_rule_items → scan.own + own_ahead ts ≤ max_rule_items
ahead-short (opens {i = i} {ts = ts} s below room g) h =
    let none = alone (by_tags i).opens s (by_tags i).own (tt, (tt, tt)) in
    rw (own-none i asks_in ts none, own-none i asks_out ts none) (omega arith)
ahead-short (own {i = i} {ts = ts} s below first short g) h = omega (arith, own-ahead i ts s, ahead-short g (omega arith))
ahead-short (unread {i = i} {ts = ts} s below first g) h = rw (unread_own_none i asks_in ts s, unread_own_none i asks_out ts s) (omega arith)
ahead-short (last {i = i} s e) h =
    let none = alone (by_tags i).rules s (by_tags i).own (tt, (tt, tt)) in
    rw (own-none i asks_in [] none, own-none i asks_out [] none) (omega arith)

-- So does each rule that is opened later.
abbrev pub Short : Rule → Type 0
Short r = rule_length r ≤ max_rule_items

all_short : {scan : Scan} {ts : List Token} → GoodBody scan ts → EachRule Short (rules_of ts)
all_short (opens {i = i} {ts = ts} s below room g) =
    rw (opens_rule i ts s) (one_more Short _ (rules_of ts) (omega (arith, ahead-short g (omega arith))) (all_short g))
all_short (own {i = i} {ts = ts} s below first short g) = rw (own-opens_none i ts s) (all_short g)
all_short (unread {i = i} {ts = ts} s below first g) = rw (unread_opens_none i ts s) (all_short g)
all_short (last {i = i} s e) = rw (count-opens_none i s) (λ i h. absurd (omega arith))

-- Rules within the cap, all together.
lengths_short : (rs : List Rule) → EachRule Short rs → all_lengths rs ≤ max_rule_items * length rs
lengths_short [] h = omega arith
lengths_short (r ∷ rs) h =
    let first : rule_length r ≤ max_rule_items = h 0 (omega arith) in
    let others = lengths_short rs (λ i l. h (suc i) (omega arith)) in
    omega (arith, first, others)

module _ {s : List ℕ} (a : AcceptedFile s) where
  pub within_cap : WithinCap (program_of s)
  within_cap = rw a.rules (all_short a.good)

  pub together_few : all_lengths (program_of s).rules ≤ max_own
  together_few = omega (arith, lengths_short (program_of s).rules within_cap, rules_few a)
