-- The range of a rule by the tables has the rule's premises and constraints in the file.
use Prim.Native.Nat.{ℕ, zero, suc, ◌+◌, ◌*◌, ◌<◌}
use mathlib.Core.Path.{◌≡◌, refl, sym, ap, ap₂, subst, ◌∙◌}
use mathlib.Core.Bool.{cond}
use mathlib.Core.List.{List, [], ◌∷◌, reverse}
use mathlib.Core.Option.{Option, none, some}
use lib.ListN.{length, get_or}
use Rattle.std.proofs.lemmas.List.{length-reverse}
use Rattle.theory.specs.Rule.{Rule, Program, blank, count, rule}
use Rattle.items.specs.declared.item.FactId.{FactId}
use Rattle.items.specs.Item.{narrow, item_width, Sign, asks_in, asks_out, same_sign, OwnItem, class_of, where_said}
use Rattle.cursors.specs.Cursor.{Token, item, bad, items_at, file_start, body_at}
use Rattle.tables.specs.Layout.{place_in, program_in}
use Rattle.reader.specs.Questions.{own_facts, premises_of, constraints_of, rule_of, rules_of, behind_rules, program_of}
use Rattle.reader.specs.Scanned.{Tabled}
use Rattle.view.specs.declared.range.Range.{Range}
use Rattle.view.specs.View.{end_of, end_at, OwnRange, own_items, items_of_rule, facts_asked, GivesEach}
use Rattle.view.proofs.RangeItems.{gives_each}

-- The constraints stand the last one first.
pub own_range : {T : List ℕ} {i : ℕ} {r : Range} {premises constraints : List ℕ} → premises ≡ (rule (program_in T) i).premises → constraints ≡ reverse (rule (program_in T) i).constraints → (r.at ≡ place_in T i) × (r.end ≡ place_in T i + item_width narrow * (length premises + length constraints)) → OwnRange T i r
own_range {T} {i} x y q =
    record {
      begins = q.0;
      ends = q.1 ∙ ap₂ (λ (u v : ℕ). place_in T i + item_width narrow * (u + v)) (ap length x) (ap length y ∙ length-reverse (rule (program_in T) i).constraints);
    }

-- The facts that a rule asks in, or out.
abbrev pub part_of : Sign → Rule → List ℕ
part_of asks_in r = r.premises
part_of asks_out r = r.constraints

nothing : (asked : Sign) → [] ≡ part_of asked blank
nothing asks_in = refl
nothing asks_out = refl

opened : (f : FactId) (ts : List Token) (asked : Sign) → own_facts asked ts ≡ part_of asked (rule_of f ts)
opened f ts asks_in = refl
opened f ts asks_out = refl

asked-facts : (asked : Sign) (ts : List Token) → own_facts asked ts ≡ facts_asked asked (own_items ts)
asked-facts asked [] = refl
asked-facts asked (bad fault ∷ ts) = refl
asked-facts asked (item t ∷ ts) = go (class_of t).own (asked-facts asked ts)
  where
    go : (o : Option OwnItem) → own_facts asked ts ≡ facts_asked asked (own_items ts) → where_said o (λ x. cond (same_sign asked x.sign) (x.fact.0 ∷ own_facts asked ts) (own_facts asked ts)) [] ≡ facts_asked asked (where_said o (λ x. x ∷ own_items ts) [])
    go none later = refl
    go (some x) later = ap (λ (fs : List ℕ). cond (same_sign asked x.sign) (x.fact.0 ∷ fs) fs) later

-- The premises and constraints of a rule stand from place p of a file on.
pub record OwnAt (s : List ℕ) (p : ℕ) (r : Rule) : Type 0 where
  pub premises : premises_of (items_at s (body_at p)) ≡ r.premises
  pub constraints : constraints_of (items_at s (body_at p)) ≡ r.constraints

-- The premises and constraints of a rule are those that stand behind the item that opens it.
abbrev OwnBehind : List (List Token) → List Rule → Type 0
OwnBehind behind rules = (asked : Sign) (i : ℕ) → own_facts asked (get_or behind i []) ≡ part_of asked (get_or rules i blank)

own_behind : (ts : List Token) → OwnBehind (behind_rules ts) (rules_of ts)
own_behind [] = λ asked i. nothing asked
own_behind (bad fault ∷ ts) = λ asked i. nothing asked
own_behind (item t ∷ ts) = go (class_of t).opens (own_behind ts)
  where
    go : (o : Option FactId) → OwnBehind (behind_rules ts) (rules_of ts) → OwnBehind (where_said o (λ f. ts ∷ behind_rules ts) (behind_rules ts)) (where_said o (λ f. rule_of f ts ∷ rules_of ts) (rules_of ts))
    go none later asked i = later asked i
    go (some f) later asked zero = opened f ts asked
    go (some f) later asked (suc i) = later asked i

pub own-items : (s : List ℕ) (i : ℕ) (asked : Sign) → facts_asked asked (items_of_rule s i) ≡ part_of asked (rule (program_of s) i)
own-items s i asked = sym (asked-facts asked (get_or (behind_rules (items_at s file_start)) i [])) ∙ own_behind (items_at s file_start) asked i

-- Where the tables are those of the file.
pub record InFile (s : List ℕ) (R : Rule) (r : Range) : Type 0 where
  pub own : OwnAt s r.at R
  pub ends : r.end ≡ end_at s r.at

pub rule-in_file : {s T : List ℕ} {i : ℕ} {r : Range} → Tabled s T → i < count (program_of s) → OwnRange T i r → InFile s (rule (program_of s) i) r
unfolding end_at
rule-in_file {s} {T} {i} {r} t h o =
    record {
      own = subst (λ (p : ℕ). OwnAt s p R) (sym o.begins) there;
      ends = o.ends ∙ ap (λ (P : Program). end_of (place_in T i) (rule P i).premises (rule P i).constraints) t.program ∙ sym (ap (end_at s) o.begins ∙ ap₂ (end_of (place_in T i)) there.premises there.constraints);
    }
  where
    R : Rule
    R = rule (program_of s) i

    there : OwnAt s (place_in T i) R
    there = record { premises = stands asks_in; constraints = stands asks_out }
      where
        stands : (asked : Sign) → own_facts asked (items_at s (body_at (place_in T i))) ≡ part_of asked R
        stands asked = ap (own_facts asked) (t.placed i h) ∙ own_behind (items_at s file_start) asked i

-- The view of a rule's range gives the rule's own items in the file's order, and then ends.
pub rule-given : {s T : List ℕ} {i : ℕ} {r : Range} → Tabled s T → i < count (program_of s) → OwnRange T i r → GivesEach s r.at r.end (items_of_rule s i)
rule-given {s} {T} {i} {r} t h o =
    subst (λ (ts : List Token). GivesEach s r.at r.end (own_items ts)) (ap (λ (p : ℕ). items_at s (body_at p)) o.begins ∙ t.placed i h)
    (gives_each s r.end r.at (rule-in_file t h o).ends)
