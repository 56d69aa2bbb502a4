-- What was drawn is read back: a load is accepted, and it is the program that was drawn.
use Rattle.std.proofs.Common.{◌≡◌, ℕ, suc, ◌+◌, ◌*◌, ◌%◌, ◌<◌, ◌≤◌, Bool, true, false, cond, eqb, List, [], ◌∷◌, ◌++◌, map, length, refl, ap, ◌∙◌, ap₂, append_assoc, arith, length-append, lt-ltb, eq-eqb, le-leb}
use mathlib.Core.Option.{Option, none}
use Rattle.theory.specs.Rule.{mem, up_to, Rule}
use Rattle.theory.proofs.Lists.{length-range}
use Rattle.items.specs.declared.refusal.Refusal.{Refusal}
use Rattle.items.specs.declared.item.Item.{Item}
use Rattle.items.specs.declared.item.Item.TheVariants.{Opens, Premise, Constraint, Rules}
use Rattle.items.specs.Item.{narrow, fact_id, max_rules, max_bytes, Sign, asks_in, asks_out}
use Rattle.items.specs.Question.{first_no}
use Rattle.items.specs.Write.{bytes_of}
use Rattle.items.proofs.ItemBytes.{bytes_append}
use Rattle.cursors.specs.declared.cursor.Row.TheVariants.{Opening, Body}
use Rattle.cursors.specs.Cursor.{item, items_at, file_start}
use Rattle.cursors.proofs.ReadBack.{InRow, read_back}
use Rattle.reader.specs.Scanning.{seen}
use Rattle.reader.specs.Questions.{own_facts, rules_of, unread_of, body_questions, file_questions, program_of, file_no}
use Rattle.generator.specs.Load.{conclusion_of, first_of, second_of, rule_items, items_of, load_items, load_bytes, rule_drawn, load_program}
use Rattle.generator.specs.Outcome.{load_length}
use Rattle.generator.proofs.Quotients.{draw-below}

-- The two items behind a rule's conclusion, where two tests tell whose turn it is.
abbrev pub two : Bool → Bool → ℕ → ℕ → List Item
two a b f g =
    cond a (Constraint (fact_id f) ∷ Constraint (fact_id g) ∷ [])
    (cond b (Premise (fact_id f) ∷ Premise (fact_id g) ∷ []) (Premise (fact_id f) ∷ Constraint (fact_id g) ∷ []))

-- Each has six bytes.
two_bytes : (a b : Bool) (f g : ℕ) → length (bytes_of narrow (two a b f g)) ≡ 4
two_bytes true b f g = refl
two_bytes false true f g = refl
two_bytes false false f g = refl

-- They are items of a file's body.
two-body : (a b : Bool) (f g : ℕ) (is : List Item) → InRow Body is → InRow Body (two a b f g ++ is)
two-body true b f g is r = (refl, (refl, r))
two-body false true f g is r = (refl, (refl, r))
two-body false false f g is r = (refl, (refl, r))

-- The rule that is opened before them has their facts, where what follows them is not its own.
two-rules : (a b : Bool) (c f g : ℕ) (is : List Item) → ((sign : Sign) → own_facts sign (map item is) ≡ []) → rules_of (map item (Opens (fact_id c) ∷ (two a b f g ++ is))) ≡ record { conclusion = c; premises = cond a [] (cond b (f ∷ g ∷ []) (f ∷ [])); constraints = cond a (f ∷ g ∷ []) (cond b [] (g ∷ [])) } ∷ rules_of (map item is)
two-rules true b c f g is ends = rw (ends asks_in, ends asks_out) refl
two-rules false true c f g is ends = rw (ends asks_in, ends asks_out) refl
two-rules false false c f g is ends = rw (ends asks_in, ends asks_out) refl

-- They name no unread fact.
two-read : (a b : Bool) (f g : ℕ) (is : List Item) → unread_of (map item (two a b f g ++ is)) ≡ unread_of (map item is)
two-read true b f g is = refl
two-read false true f g is = refl
two-read false false f g is = refl

-- They get yes behind an opened rule.
two-asked : (n r : ℕ) (a b : Bool) (f g : ℕ) (is : List Item) → 0 < r → f < n → g < n → first_no (body_questions (seen n r 0) (map item (two a b f g ++ is))) ≡ first_no (body_questions (seen n r 2) (map item is))
two-asked n r true b f g is hr hf hg = rw (lt-ltb 0 r hr, lt-ltb f n hf, lt-ltb g n hg) refl
two-asked n r false true f g is hr hf hg = rw (lt-ltb 0 r hr, lt-ltb f n hf, lt-ltb g n hg) refl
two-asked n r false false f g is hr hf hg = rw (lt-ltb 0 r hr, lt-ltb f n hf, lt-ltb g n hg) refl

module _ (start n : ℕ) where
  pub rule-length : (i : ℕ) → length (bytes_of narrow (rule_items start n i)) ≡ 6
  unfolding rule_items
  rule-length i = ap (λ (m : ℕ). suc (suc m)) (two_bytes (eqb (i % 3) 0) (eqb (i % 3) 1) (first_of start n i) (second_of start n i))

  pub rules-length : (is : List ℕ) → length (bytes_of narrow (items_of start n is)) ≡ 6 * length is
  rules-length [] = refl
  rules-length (i ∷ is) =
      ap length (bytes_append narrow (rule_items start n i) (items_of start n is))
      ∙ length-append (bytes_of narrow (rule_items start n i)) (bytes_of narrow (items_of start n is))
      ∙ omega (arith, rule-length i, rules-length is)

  -- The length of a load.
  pub load-length : (m : ℕ) → length (load_bytes start n m) ≡ load_length m
  unfolding load_bytes
  load-length m =
      ap (λ (k : ℕ). suc (suc k)) (ap length (bytes_append narrow (items_of start n (up_to m)) (Rules m ∷ [])) ∙ length-append (bytes_of narrow (items_of start n (up_to m))) (bytes_of narrow (Rules m ∷ [])))
      ∙ omega (arith, rules-length (up_to m), length-range 0 m)

  -- the rules that are left, and the end
  abbrev left : List ℕ → ℕ → List Item
  left is m = items_of start n is ++ (Rules m ∷ [])

  -- whose turn it is
  abbrev first : ℕ → Bool
  first i = eqb (i % 3) 0

  abbrev second : ℕ → Bool
  second i = eqb (i % 3) 1

  next-left : (i : ℕ) (is : List ℕ) (m : ℕ) → left (i ∷ is) m ≡ Opens (fact_id (conclusion_of start n i)) ∷ (two (first i) (second i) (first_of start n i) (second_of start n i) ++ left is m)
  unfolding rule_items
  next-left i is m = append_assoc (rule_items start n i) (items_of start n is) (Rules m ∷ [])

  in_body : (is : List ℕ) (m : ℕ) → InRow Body (left is m)
  in_body [] m = (refl, tt)
  in_body (i ∷ is) m = rw (next-left i is m) (refl, two-body (first i) (second i) _ _ (left is m) (in_body is m))

  -- Reading gives back the items.
  pub items_back : (m : ℕ) → items_at (load_bytes start n m) file_start ≡ map item (load_items start n m)
  unfolding items_at load_bytes
  items_back m = read_back Opening (load_items start n m) (refl, in_body (up_to m) m)

  -- A rule's own items end where the next rule is opened, and where the file ends.
  own-ends : (sign : Sign) (is : List ℕ) (m : ℕ) → own_facts sign (map item (left is m)) ≡ []
  own-ends sign [] m = refl
  own-ends sign (i ∷ is) m = rw (next-left i is m) refl

  rules-back : (is : List ℕ) (m : ℕ) → rules_of (map item (left is m)) ≡ map (rule_drawn start n) is
  rules-back [] m = refl
  rules-back (i ∷ is) m =
      rw (next-left i is m) (two-rules (first i) (second i) (conclusion_of start n i) (first_of start n i) (second_of start n i) (left is m) (λ sign. own-ends sign is m) ∙ ap (λ (rs : List Rule). rule_drawn start n i ∷ rs) (rules-back is m))

  -- No fact of it is unread.
  none_unread : (is : List ℕ) (m : ℕ) → unread_of (map item (left is m)) ≡ []
  none_unread [] m = refl
  none_unread (i ∷ is) m = rw (next-left i is m) (two-read (first i) (second i) (first_of start n i) (second_of start n i) (left is m) ∙ none_unread is m)

  pub program-back : (m : ℕ) → program_of (load_bytes start n m) ≡ load_program start n m
  program-back m = rw (items_back m) (ap₂ (λ (rs : List Rule) (fs : List ℕ). record { facts = n; rules = rs; unread = λ f. mem f fs }) (rules-back (up_to m) m) (none_unread (up_to m) m))

  -- Every question gets yes.
  module _ (some : 0 < n) where
    body-asked : (is : List ℕ) (r own m : ℕ) → r + length is ≡ m → m ≤ max_rules → ◌≡◌ {A = Option Refusal} (first_no (body_questions (seen n r own) (map item (left is m)))) none
    body-asked [] r own m e few = rw (eq-eqb m r (omega arith)) refl
    body-asked (i ∷ is) r own m e few =
        rw (next-left i is m, lt-ltb _ _ (draw-below start n some (3 * i)), lt-ltb r max_rules (omega arith))
        (two-asked n (r + 1) (first i) (second i) (first_of start n i) (second_of start n i) (left is m) (omega arith) (draw-below start n some (3 * i + 1)) (draw-below start n some (3 * i + 2))
        ∙ body-asked is (r + 1) 2 m (omega arith) few)

    pub load_accepted : (m : ℕ) → m ≤ max_rules → ◌≡◌ {A = Option Refusal} (file_no (load_bytes start n m)) none
    unfolding file_questions
    load_accepted m few =
        rw (le-leb (length (load_bytes start n m)) max_bytes (omega (arith, load-length m)), items_back m) (body-asked (up_to m) 0 0 m (omega (arith, length-range 0 m)) few)
