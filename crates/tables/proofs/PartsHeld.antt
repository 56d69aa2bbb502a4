-- The premises and the constraints of a rule as parts of the tables, and walks along such a part.
use Prim.Native.Nat.{ℕ, zero, suc, ◌+◌, ◌-◌, ◌<◌, ◌≤◌}
use mathlib.Core.Path.{◌≡◌, refl, sym, ap, ap₂, ◌∙◌}
use mathlib.Core.Bool.{Bool, true, false, not, ◌||◌}
use mathlib.Core.List.{List, [], ◌∷◌, ◌++◌, reverse}
use native.Mathlib.Omega.{arith}
use native.Mathlib.Nat.{add-zero}
use borrow.Author.Tests.{lt-ltb, le-ltb}
use lib.ListN.{length, get_or, take, drop}
use lib.Dec.{eqb, ltb}
use Rattle.std.proofs.Math.Seq.{drop-cons}
use Rattle.std.proofs.lemmas.List.{reverse-append, length-reverse, length-take, drop_more, drop_all}
use Rattle.theory.specs.Rule.{all, clear, mem, Rule, Program, count, rule, null, exception}
use Rattle.theory.proofs.Bools.{both_ways}
use Rattle.theory.proofs.Lists.{all-elem, all_of, mem-append, element_below}
use Rattle.theory.proofs.ListWalks.{Decides, whole-decides, all_pass, one_fails, one_passes}
use Rattle.tables.specs.Layout.{max_own, own_from, last_cell, table_cells, premise_start, constraint_start, premise_at, constraint_at, listed, span, rule_in, program_in, WellFormed}
use Rattle.tables.proofs.ProgramHeld.{rule-held, known}

-- A row of the tables that stands from a cell on, from its place a on.
part-from : (T : List ℕ) (base n a : ℕ) → base + a + n ≤ length T → take n (drop (base + a) T) ≡ listed (λ j. get_or T (base + j) 0) a n
part-from T base zero a h = refl
part-from T base (suc n) a h =
    let next : suc (base + a) ≡ base + suc a = omega arith in
    ap (take (suc n)) (drop-cons T (base + a) 0 (omega arith))
    ∙ ap (λ (k : ℕ). get_or T (base + a) 0 ∷ take n (drop k T)) next
    ∙ ap (λ (ys : List ℕ). get_or T (base + a) 0 ∷ ys) (part-from T base n (suc a) (omega arith))

pub listed-more : (row : ℕ → ℕ) (m a : ℕ) → listed row a (suc m) ≡ listed row a m ++ (row (a + m) ∷ [])
listed-more row zero a = ap (λ (j : ℕ). row j ∷ []) (sym (add-zero a))
listed-more row (suc m) a =
    let next : suc a + m ≡ a + suc m = omega arith in
    ap (λ (xs : List ℕ). row a ∷ xs) (listed-more row m (suc a) ∙ ap (λ (j : ℕ). listed row (suc a) m ++ (row j ∷ [])) next)

-- A row that stands up to a cell, from the back, from its place a on: its elements come the last one first.
part_up_to : (T : List ℕ) (last n a at : ℕ) → suc last ≡ length T → at + a + n ≡ length T → take n (drop at T) ≡ reverse (listed (λ j. get_or T (last - j) 0) a n)
part_up_to T last zero a at l e = refl
part_up_to T last (suc n) a at l e =
    let here : at ≡ last - (a + n) = omega arith in
    ap (take (suc n)) (drop-cons T at 0 (omega arith))
    ∙ ap (λ (x : ℕ). get_or T x 0 ∷ take n (drop (suc at) T)) here
    ∙ ap (λ (ys : List ℕ). get_or T (last - (a + n)) 0 ∷ ys) (part_up_to T last n a (suc at) l (omega arith))
    ∙ sym (reverse-append (listed (λ j. get_or T (last - j) 0) a n) (get_or T (last - (a + n)) 0 ∷ []))
    ∙ sym (ap reverse (listed-more (λ j. get_or T (last - j) 0) n a))

-- The elements of a list, whichever comes first.
pub mem-reverse : (x : ℕ) (xs : List ℕ) → mem x (reverse xs) ≡ mem x xs
mem-reverse x [] = refl
mem-reverse x (y ∷ ys) =
    ap (mem x) (reverse-append (y ∷ []) ys) ∙ mem-append x (reverse ys) (y ∷ []) ∙ ap (λ (b : Bool). b || mem x (y ∷ [])) (mem-reverse x ys) ∙ turn (mem x ys) (eqb x y)
  where
    turn : (a b : Bool) → a || (b || false) ≡ b || a
    turn true true = refl
    turn true false = refl
    turn false true = refl
    turn false false = refl

pub all-reverse : (p : ℕ → Bool) (xs : List ℕ) → all p (reverse xs) ≡ all p xs
all-reverse p xs =
    both_ways _ _
    (λ a. all_of p xs (λ x m. all-elem p (reverse xs) a x (mem-reverse x xs ∙ m)))
    (λ a. all_of p (reverse xs) (λ x m. all-elem p xs a x (sym (mem-reverse x xs) ∙ m)))

-- What a test, and the elements, say of a part that stands the last one first.
module _ {own : List ℕ} (elements : List ℕ) (e : own ≡ reverse elements) where
  pub all-reversed : (p : ℕ → Bool) → all p own ≡ all p elements
  all-reversed p = ap (all p) e ∙ all-reverse p elements

  pub clear-reversed : (p : ℕ → Bool) → clear p own ≡ clear p elements
  clear-reversed p = all-reversed (λ f. not (p f))

  pub mem-reversed : (x : ℕ) → mem x own ≡ mem x elements
  mem-reversed x = ap (mem x) e ∙ mem-reverse x elements

module _ {T : List ℕ} (w : WellFormed T) {i : ℕ} (h : i < count (program_in T)) where
  pub conclusion_is : (rule (program_in T) i).conclusion ≡ (rule_in T i).conclusion
  conclusion_is = ap (λ (r : Rule). r.conclusion) (rule-held T i (known w h))

  premises_are : (rule (program_in T) i).premises ≡ span (premise_at T) (premise_start T i) (premise_start T (i + 1))
  unfolding rule_in
  premises_are = ap (λ (r : Rule). r.premises) (rule-held T i (known w h))

  constraints-are : (rule (program_in T) i).constraints ≡ span (constraint_at T) (constraint_start T i) (constraint_start T (i + 1))
  unfolding rule_in
  constraints-are = ap (λ (r : Rule). r.constraints) (rule-held T i (known w h))

  module _ (places : length T ≡ table_cells) (from end : ℕ) where
    pub premises-part : from ≡ premise_start T i → end ≡ premise_start T (i + 1) → take (own_from + end - (own_from + from)) (drop (own_from + from) T) ≡ (rule (program_in T) i).premises
    premises-part a b =
        let low : from ≤ end = omega (arith, a, b, w.premise_spans.low i (known w h)) in
        let high : end ≤ 12288 = omega (arith, b, w.premise_spans.high i (known w h)) in
        let many : own_from + end - (own_from + from) ≡ end - from = omega arith in
        rw many (part-from T own_from (end - from) from (omega (arith, places)) ∙ sym (premises_are ∙ ap₂ (span (premise_at T)) (sym a) (sym b)))

    pub constraints-part : from ≡ constraint_start T i → end ≡ constraint_start T (i + 1) → take (table_cells - from - (table_cells - end)) (drop (table_cells - end) T) ≡ reverse (rule (program_in T) i).constraints
    constraints-part a b =
        let low : from ≤ end = omega (arith, a, b, w.constraint_spans.low i (known w h)) in
        let high : end ≤ 12288 = omega (arith, b, w.constraint_spans.high i (known w h)) in
        let many : table_cells - from - (table_cells - end) ≡ end - from = omega arith in
        rw many (part_up_to T last_cell (end - from) from (table_cells - end) (omega (arith, places)) (omega (arith, places)) ∙ ap reverse (sym (constraints-are ∙ ap₂ (span (constraint_at T)) (sym a) (sym b))))

  module _ (places : length T ≡ table_cells) (from end : ℕ) where
    pub premises-few : from ≡ premise_start T i → end ≡ premise_start T (i + 1) → length (take (own_from + end - (own_from + from)) (drop (own_from + from) T)) ≤ max_own
    premises-few a b = omega (arith, length-take (own_from + end - (own_from + from)) (drop (own_from + from) T), b, w.premise_spans.high i (known w h))

    pub constraints-few : from ≡ constraint_start T i → end ≡ constraint_start T (i + 1) → length (take (table_cells - from - (table_cells - end)) (drop (table_cells - end) T)) ≤ max_own
    constraints-few a b = omega (arith, length-take (table_cells - from - (table_cells - end)) (drop (table_cells - end) T), b, w.constraint_spans.high i (known w h))

  pub premises-below : all (λ f. ltb f (program_in T).facts) (rule (program_in T) i).premises ≡ true
  premises-below = w.in_bounds.premises_below i h

  pub constraints-below : all (λ f. ltb f (program_in T).facts) (reverse (rule (program_in T) i).constraints) ≡ true
  constraints-below = all-reverse (λ f. ltb f (program_in T).facts) (rule (program_in T) i).constraints ∙ w.in_bounds.constraints_below i h

-- A walk along a list with a test on each element, up to its place k.
abbrev pub Tested : (ℕ → Bool) → List ℕ → ℕ → Type 0
Tested p xs k = Decides p xs (drop k xs)

pub none_tested : (p : ℕ → Bool) (xs : List ℕ) → Tested p xs 0
none_tested p xs = whole-decides p xs

module _ {p : ℕ → Bool} {xs : List ℕ} {k : ℕ} (w : Tested p xs k) where
  pub all_tested : length xs ≤ k → true ≡ all p xs
  all_tested h = all_pass w (drop_all k xs h)

  module _ (h : k < length xs) where
    pub test_fails : p (get_or xs k 0) ≡ false → false ≡ all p xs
    test_fails e = one_fails w (get_or xs k 0) _ (drop-cons xs k 0 h) e

    pub test_passes : p (get_or xs k 0) ≡ true → Tested p xs (k + 1)
    test_passes e = one_passes w (get_or xs k 0) _ (drop_more xs k 0 h) e

-- Such a walk along a part that stands the last one first, in the order of the file.
module _ {p : ℕ → Bool} (own : List ℕ) {k : ℕ} (w : Tested p (reverse own) k) where
  pub all-tested_back : length own ≤ k → true ≡ all p own
  all-tested_back h = all_tested w (omega (arith, length-reverse own)) ∙ all-reverse p own

  module _ (h : k < length own) {x : ℕ} (e : x ≡ get_or (reverse own) k 0) where
    pub test-fails_back : p x ≡ false → false ≡ all p own
    test-fails_back q = test_fails w (omega (arith, length-reverse own)) (sym (ap p e) ∙ q) ∙ all-reverse p own

    pub test-passes_back : p x ≡ true → Tested p (reverse own) (k + 1)
    test-passes_back q = test_passes w (omega (arith, length-reverse own)) (sym (ap p e) ∙ q)

pub element-below_back : (n : ℕ) (own : List ℕ) (k : ℕ) → all (λ f. ltb f n) own ≡ true → k < length own → get_or (reverse own) k 0 < n
element-below_back n own k a h = element_below n (reverse own) k (all-reverse (λ f. ltb f n) own ∙ a) (omega (arith, length-reverse own))

-- An exception rule has a constraint.
pub exception-is : (P : Program) (i : ℕ) (own : List ℕ) → i < count P → own ≡ reverse (rule P i).constraints → ltb 0 (length own) ≡ exception P i
unfolding exception
exception-is P i own h e = rw (lt-ltb i (count P) h, e, length-reverse (rule P i).constraints) (some (rule P i).constraints)
  where
    some : (xs : List ℕ) → ltb 0 (length xs) ≡ not (null xs)
    some [] = le-ltb 0 0 (omega arith)
    some (x ∷ xs) = lt-ltb 0 (length (x ∷ xs)) (omega arith)
