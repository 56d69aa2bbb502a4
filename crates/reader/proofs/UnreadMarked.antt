-- The unread facts, and the rules that are withheld, while a scan marks them.
use Prim.Native.Nat.{ℕ, ◌+◌, ◌-◌, ◌<◌, ◌≤◌}
use mathlib.Core.Path.{◌≡◌, refl, sym, ap, ◌∙◌, fun_ext}
use mathlib.Core.Bool.{Bool, true, false, ◌&&◌, ◌||◌}
use mathlib.Core.List.{List, []}
use mathlib.Core.Logic.{⊎_elim}
use native.Mathlib.Omega.{arith}
use borrow.Author.Tests.{ltb-true, lt-ltb, eqb-true, eqb-false}
use lib.ListN.{get_or}
use lib.Dec.{eqb, ltb}
use Rattle.theory.specs.Rule.{any, mem, Rule, FactSet}
use Rattle.theory.proofs.Bools.{or-none, or_assoc, and-false}
use Rattle.theory.proofs.Lists.{zeros}
use Rattle.items.specs.declared.item.FactId.{FactId}
use Rattle.items.specs.declared.item.Item.TheVariants.{Opens, Premise, Constraint, Rules, Unread}
use Rattle.cursors.specs.declared.cursor.Cursor.{Cursor}
use Rattle.items.specs.Item.{narrow, max_facts, max_rules}
use Rattle.cursors.specs.Cursor.{items_at}
use Rattle.cursors.proofs.Items.{ReadAt}
use Rattle.tables.specs.Layout.{unread_from, withheld_from, unread_in, withheld_in, table_cells}
use Rattle.reader.specs.Questions.{constraints_of, rule_of, unread_of}
use Rattle.reader.specs.BodyScanned.{Cleared}
use Rattle.reader.specs.Scanning.{rule_from, Holding}
use Rattle.reader.proofs.PartsFilled.{last-or_before}
use Rattle.stores.proofs.CellsStored.{MarksKept, UnreadStored, WithheldStored}

-- Nothing stands in tables where nothing is stored, and nothing is marked.
pub nothing-in : {T : List ℕ} → Cleared T → (k : ℕ) → get_or T k 0 ≡ 0
nothing-in cleared k = ap (λ (l : List ℕ). get_or l k 0) cleared.zeros ∙ zeros table_cells k

no-mark : {T : List ℕ} → Cleared T → (k : ℕ) → eqb (get_or T k 0) 1 ≡ false
no-mark cleared k = ap (λ (x : ℕ). eqb x 1) (nothing-in cleared k)

pub none_unread : (facts : ℕ) {T : List ℕ} → Cleared T → (f : ℕ) → unread_in T facts f ≡ false
none_unread facts {T} cleared f = ap (λ (b : Bool). ltb f facts && b) (no-mark cleared (unread_from + f)) ∙ and-false (ltb f facts)

pub none_held : (facts : ℕ) (s : List ℕ) (c : Cursor) {T : List ℕ} → Cleared T → Holding facts s c c T 0
none_held facts s c {T} cleared =
    record {
      named = λ f. ap (λ (b : Bool). b || mem f (unread_of (items_at s c))) (sym (none_unread facts cleared f));
      done = λ i h. absurd (omega arith);
      last = λ i h. absurd (omega arith);
      later = λ i _ _. no-mark cleared (withheld_from + i);
    }

-- Marks that are as they were tell the same.
same_unread : (facts : ℕ) → facts < max_facts narrow → (T T' : List ℕ) → ((f : ℕ) → f < max_facts narrow → get_or T' (unread_from + f) 0 ≡ get_or T (unread_from + f) 0) → unread_in T' facts ≡ unread_in T facts
same_unread facts small T T' e = fun_ext (λ f. go f (ltb f facts) refl)
  where
    go : (f : ℕ) (b : Bool) → ltb f facts ≡ b → b && eqb (get_or T' (unread_from + f) 0) 1 ≡ b && eqb (get_or T (unread_from + f) 0) 1
    go f true q = ap (λ (x : ℕ). eqb x 1) (e f (omega (arith, ltb-true f facts q)))
    go f false q = refl

module _ {facts : ℕ} (small : facts < max_facts narrow) {T T' : List ℕ} (k : MarksKept T T') where
  pub kept-unread : unread_in T' facts ≡ unread_in T facts
  kept-unread = same_unread facts small T T' (λ f h. k.marks (unread_from + f) (omega arith) (omega arith))

  kept-withheld : (i : ℕ) → i < max_rules → withheld_in T' i ≡ withheld_in T i
  kept-withheld i h = ap (λ (x : ℕ). eqb x 1) (k.marks (withheld_from + i) (omega arith) (omega arith))

  pub holding_kept : {s : List ℕ} {c₀ c : Cursor} {n : ℕ} → n ≤ max_rules → Holding facts s c₀ c T n → Holding facts s c₀ c T' n
  holding_kept {s} {c₀} {c} few w =
      record {
        named = λ f. w.named f ∙ ap (λ (S : FactSet). S f || mem f (unread_of (items_at s c))) (sym kept-unread);
        done = λ i h. kept-withheld i (omega arith) ∙ (w.done i h ∙ ap (λ (S : FactSet). any S (rule_from s c₀ i).constraints) (sym kept-unread));
        last = λ i h. rw (kept-withheld i (omega arith), kept-unread) (w.last i h);
        later = λ i l h. kept-withheld i h ∙ w.later i l h;
      }

-- so they do where a rule is marked as withheld
pub held-unread : {facts : ℕ} → facts < max_facts narrow → {T T' : List ℕ} {n : ℕ} {unread : Bool} → 0 < n → WithheldStored T T' n unread → unread_in T' facts ≡ unread_in T facts
held-unread {facts} small {T} {T'} some_rule t = same_unread facts small T T' (λ g h. t.others (unread_from + g) (λ q. omega arith))

-- one unread fact more
pub unread_more : (facts : ℕ) {T T' : List ℕ} {f : ℕ} → UnreadStored T T' f → f < facts → (g : ℕ) → unread_in T' facts g ≡ eqb g f || unread_in T facts g
unread_more facts {T} {T'} {f} t below g = go (eqb g f) refl
  where
    go : (b : Bool) → eqb g f ≡ b → unread_in T' facts g ≡ b || unread_in T facts g
    go true e = let same : g ≡ f = eqb-true g f e in rw (same, lt-ltb f facts below, t.fact) refl
    go false e = ap (λ (x : ℕ). ltb g facts && eqb x 1) (t.others (unread_from + g) (λ q. eqb-false g f e (omega arith)))

module _ {facts : ℕ} {s : List ℕ} {c₀ c : Cursor} {T : List ℕ} {n : ℕ} (w : Holding facts s c₀ c T n) where
  -- a rule: of the one before it no constraint is to come, and of this one all are
  pub rule-held : {f : FactId} {d : Cursor} → ReadAt s c (Opens f) d → n < max_rules → rule_from s c₀ n ≡ rule_of f (items_at s d) → Holding facts s c₀ d T (n + 1)
  rule-held {f} {d} r few opened =
      record {
        named = λ g. w.named g ∙ ap (λ ts. unread_in T facts g || mem g (unread_of ts)) r.items;
        done = λ i h. ⊎_elim (λ l. w.done i l) (λ q. sym (or-none (withheld_in T i)) ∙ (sym (ap (λ ts. withheld_in T i || any (unread_in T facts) (constraints_of ts)) r.items) ∙ w.last i q)) (last-or_before (i + 1) n h);
        last = λ i h. at_last i (omega arith);
        later = λ i l h. w.later i (omega arith) h;
      }
    where
      at_last : (i : ℕ) → i ≡ n → withheld_in T i || any (unread_in T facts) (constraints_of (items_at s d)) ≡ any (unread_in T facts) (rule_from s c₀ i).constraints
      at_last i q =
          rw (q, w.later n (omega arith) few) (ap (λ (x : Rule). any (unread_in T facts) x.constraints) (sym opened))

  pub premise_held : {f : FactId} {d : Cursor} → ReadAt s c (Premise f) d → Holding facts s c₀ d T n
  premise_held {f} {d} r =
      record {
        named = λ g. w.named g ∙ ap (λ ts. unread_in T facts g || mem g (unread_of ts)) r.items;
        done = w.done;
        last = λ i h. sym (ap (λ ts. withheld_in T i || any (unread_in T facts) (constraints_of ts)) r.items) ∙ w.last i h;
        later = w.later;
      }

  -- a constraint: where it is unread, the last rule is marked
  pub constraint_held : {f : FactId} {d : Cursor} {T' : List ℕ} → ReadAt s c (Constraint f) d → f.0 < facts → facts < max_facts narrow → 0 < n → n ≤ max_rules → {unread : Bool} → unread ≡ unread_in T facts f.0 → WithheldStored T T' n unread → Holding facts s c₀ d T' n
  constraint_held {f} {d} {T'} r below small some_rule few {unread} is-unread t =
      record {
        named = λ g. w.named g ∙ (ap (λ ts. unread_in T facts g || mem g (unread_of ts)) r.items ∙ ap (λ (S : FactSet). S g || mem g (unread_of (items_at s d))) (sym unread_same));
        done = λ i h. other i (λ q. omega arith) ∙ (w.done i h ∙ ap (λ (S : FactSet). any S (rule_from s c₀ i).constraints) (sym unread_same));
        last = λ i h.
            rw (t.last i h, unread_same)
            (sym (or_assoc (withheld_in T i) unread _)
            ∙ (ap (λ (b : Bool). withheld_in T i || (b || any (unread_in T facts) (constraints_of (items_at s d)))) is-unread
            ∙ (sym (ap (λ ts. withheld_in T i || any (unread_in T facts) (constraints_of ts)) r.items) ∙ w.last i h)));
        later = λ i l h. other i (λ q. omega arith) ∙ w.later i l h;
      }
    where
      unread_same : unread_in T' facts ≡ unread_in T facts
      unread_same = held-unread small some_rule t

      other : (i : ℕ) → (i ≡ n - 1 → ⊥) → withheld_in T' i ≡ withheld_in T i
      other i h = ap (λ (x : ℕ). eqb x 1) (t.others (withheld_from + i) (λ q. h (omega arith)))

  -- an unread fact, before the first rule
  pub unread_held : {f : FactId} {d : Cursor} {T' : List ℕ} → ReadAt s c (Unread f) d → f.0 < facts → facts < max_facts narrow → n ≡ 0 → UnreadStored T T' f.0 → Holding facts s c₀ d T' n
  unread_held {f} {d} {T'} r below small none-opened t =
      record {
        named = λ g.
            w.named g
            ∙ (ap (λ ts. unread_in T facts g || mem g (unread_of ts)) r.items
            ∙ (sides (unread_in T facts g) (eqb g f.0) (mem g (unread_of (items_at s d))) ∙ ap (λ (b : Bool). b || mem g (unread_of (items_at s d))) (sym (unread_more facts t below g))));
        done = λ i h. absurd (omega arith);
        last = λ i h. absurd (omega arith);
        later = λ i l h. ap (λ (x : ℕ). eqb x 1) (t.others (withheld_from + i) (λ q. omega arith)) ∙ w.later i l h;
      }
    where
      sides : (a e b : Bool) → a || (e || b) ≡ (e || a) || b
      sides true true b = refl
      sides true false b = refl
      sides false true b = refl
      sides false false b = refl

-- At the count of rules nothing is to come: the marks tell what the file says.
module _ {facts : ℕ} (small : facts < max_facts narrow) {s : List ℕ} {c₀ c : Cursor} {T T' : List ℕ} {n : ℕ} where
  pub unread_told : MarksKept T T' → Holding facts s c₀ c T n → {k : ℕ} {d : Cursor} → ReadAt s c (Rules k) d → items_at s d ≡ [] → unread_in T' facts ≡ (λ f. mem f (unread_of (items_at s c₀)))
  unread_told m w r ends = kept-unread small m ∙ fun_ext (λ f. sym (w.named f ∙ (ap (λ ts. unread_in T facts f || mem f (unread_of ts)) r.items ∙ (ap (λ ts. unread_in T facts f || mem f (unread_of ts)) ends ∙ or-none (unread_in T facts f)))))

  pub withheld-told : n ≤ max_rules → MarksKept T T' → Holding facts s c₀ c T n → {k : ℕ} {d : Cursor} → ReadAt s c (Rules k) d → items_at s d ≡ [] → (i : ℕ) → i < n → withheld_in T' i ≡ any (λ f. mem f (unread_of (items_at s c₀))) (rule_from s c₀ i).constraints
  withheld-told few m w r ends i h =
      kept-withheld small m i (omega arith)
      ∙ (⊎_elim (λ l. w.done i l) (λ q. sym (or-none (withheld_in T i)) ∙ (sym (ap (λ ts. withheld_in T i || any (unread_in T facts) (constraints_of ts)) r.items) ∙ w.last i q)) (last-or_before (i + 1) n (omega arith))
      ∙ ap (λ (S : FactSet). any S (rule_from s c₀ i).constraints) (sym (kept-unread small m) ∙ unread_told m w r ends))
