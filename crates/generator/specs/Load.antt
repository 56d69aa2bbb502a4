-- A test load: the file of m rules over n facts that is drawn from a start, as items, as bytes and as a program (document 02, wish 5).
use Rattle.std.specs.Prelude.{ℕ, ◌+◌, ◌*◌, ◌%◌, cond, List, [], ◌∷◌, ◌++◌, map, ◌==◌}
use Rattle.theory.specs.Rule.{up_to, Rule, Program, nothing}
use Rattle.items.specs.declared.item.Item.{Item}
use Rattle.items.specs.declared.item.Item.TheVariants.{Facts, Opens, Premise, Constraint, Rules}
use Rattle.items.specs.Item.{narrow, fact_id}
use Rattle.items.specs.Write.{bytes_of}
use Rattle.generator.specs.Draws.{draw}

-- "A rule draws three facts, written in that order": its conclusion, and the facts of its two other items.
abbrev pub conclusion_of : ℕ → ℕ → ℕ → ℕ
conclusion_of start n i = draw start n (3 * i)

abbrev pub first_of : ℕ → ℕ → ℕ → ℕ
first_of start n i = draw start n (3 * i + 1)

abbrev pub second_of : ℕ → ℕ → ℕ → ℕ
second_of start n i = draw start n (3 * i + 2)

-- One of three things for rule i, by turns: the first of them for rule 0.
abbrev pub by_turns : {A : Type 0} → ℕ → A → A → A → A
by_turns i a b c = cond (i % 3 == 0) a (cond (i % 3 == 1) b c)

-- "the conclusion as a 01 item, then two items that are by turns 03 03 (rule 0), 02 02, and 02 03".
unfoldable pub rule_items : ℕ → ℕ → ℕ → List Item
rule_items start n i =
    let f = fact_id (first_of start n i) in
    let g = fact_id (second_of start n i) in
    Opens (fact_id (conclusion_of start n i))
    ∷ by_turns i (Constraint f ∷ Constraint g ∷ []) (Premise f ∷ Premise g ∷ []) (Premise f ∷ Constraint g ∷ [])

-- of each of these rules
abbrev pub items_of : ℕ → ℕ → List ℕ → List Item
items_of start n [] = []
items_of start n (i ∷ is) = rule_items start n i ++ items_of start n is

-- The items of the file, and its bytes.
abbrev pub load_items : ℕ → ℕ → ℕ → List Item
load_items start n m = Facts n ∷ (items_of start n (up_to m) ++ (Rules m ∷ []))

unfoldable pub load_bytes : ℕ → ℕ → ℕ → List ℕ
load_bytes start n m = bytes_of narrow (load_items start n m)

-- The program that was drawn: n facts, and m rules with those conclusions, premises and constraints.
abbrev pub rule_drawn : ℕ → ℕ → ℕ → Rule
rule_drawn start n i =
    let f = first_of start n i in
    let g = second_of start n i in
    record {
      conclusion = conclusion_of start n i;
      premises = by_turns i [] (f ∷ g ∷ []) (f ∷ []);
      constraints = by_turns i (f ∷ g ∷ []) [] (g ∷ []);
    }

abbrev pub load_program : ℕ → ℕ → ℕ → Program
load_program start n m = record { facts = n; rules = map (rule_drawn start n) (up_to m); unread = nothing }
