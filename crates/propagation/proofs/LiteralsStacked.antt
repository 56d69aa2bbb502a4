-- A literal is put on the stack, or taken from it.
use Prim.Native.Nat.{ℕ, suc, ◌+◌, ◌<◌, ◌≤◌}
use native.Mathlib.Omega.{arith}
use native.Mathlib.Numerals.{add-one}
use mathlib.Core.Path.{◌≡◌, refl, sym, ap, ◌∙◌, fun_ext}
use mathlib.Core.Bool.{Bool, true, false, not, ◌&&◌, ◌||◌}
use mathlib.Core.List.{List, [], ◌∷◌, ◌++◌}
use mathlib.Core.Logic.{◌⊎◌, ⊎_elim}
use borrow.Author.Tests.{eqb-true, eqb-false, ne_eqb, lt-ltb, ltb-true}
use lib.ListN.{length, get_or, set, take, length-set}
use lib.Seq.{get_or-set_same, get_or-set_other, take-suc, take-suc-set}
use lib.Dec.{eqb, ltb}
use Rattle.theory.specs.Rule.{all, mem, adjoin}
use Rattle.theory.proofs.Bools.{either, never, and_left, and_right, and_both, or_left, or_right, or_cases, or-none}
use Rattle.theory.proofs.Lists.{eqb-self, mem-left, mem-append, all_append}
use Rattle.items.specs.Item.{has}
use Rattle.index.specs.Literal.{literals, literal_count}
use Rattle.index.proofs.LiteralsCounted.{count_same, count-more, count_room, count_most}
use Rattle.propagation.specs.State.{waiting, told, told_count, Stacked, Waited}

-- A literal's byte says whether it is told and whether it is true.
module _ (marks : List ℕ) (l : ℕ) where
  pub untold : get_or marks l 0 ≡ 0 → told marks l ≡ false
  unfolding told
  untold e = rw e refl

  pub is_told : (get_or marks l 0 ≡ 0 → ⊥) → told marks l ≡ true
  unfolding told
  is_told n = rw (ne_eqb (get_or marks l 0) 0 n) refl

  pub has-told : has marks l ≡ true → told marks l ≡ true
  unfolding has told
  has-told h = rw (eqb-true (get_or marks l 0) 1 h) refl

-- A byte changed at one place.
module _ (s : List ℕ) (n v : ℕ) (h : n < length s) (Q : ℕ → ℕ → Type 0) where
  pub set_cases : Q n v → ((x : ℕ) → eqb x n ≡ false → Q x (get_or s x 0)) → (x : ℕ) → Q x (get_or (set s n v) x 0)
  set_cases here there x = ⊎_elim same other (either (eqb x n))
    where
      same : eqb x n ≡ true → Q x (get_or (set s n v) x 0)
      same e =
          let is-n : x ≡ n = eqb-true x n e in
          rw (is-n, get_or-set_same s n v 0 h) here

      other : eqb x n ≡ false → Q x (get_or (set s n v) x 0)
      other e = rw (get_or-set_other s n x v 0 (eqb-false x n e)) (there x e)

-- A literal that may be told already.
module _ {marks stack : List ℕ} {top : ℕ} (w : Stacked marks stack top) (l : ℕ) (h : l < literals) where
  pub told-before : (get_or marks l 0 ≡ 0 → ⊥) → Waited l marks top marks stack top
  told-before n =
      record {
        on_stack = w;
        tells = λ x. go x (eqb x l) refl;
        keeps = λ x. refl;
        paced = omega arith;
      }
    where
      go : (x : ℕ) (b : Bool) → eqb x l ≡ b → told marks x ≡ eqb x l || told marks x
      go x true e = let is-l : x ≡ l = eqb-true x l e in rw (e, is-l) (is_told marks l n)
      go x false e = rw e refl

  module _ (e : get_or marks l 0 ≡ 0) where
    pub room-left : top < literals
    room-left = omega (arith, w.room, count_room (told marks) l h (untold marks l e))

    tells_more : (x : ℕ) → told (set marks l waiting) x ≡ eqb x l || told marks x
    unfolding told
    tells_more =
        set_cases marks l waiting (omega (arith, w.literal_places)) (λ x b. not (eqb b 0) ≡ eqb x l || not (eqb (get_or marks x 0) 0))
        (rw (eqb-self l) refl) (λ x f. rw f refl)

    keeps_all : (x : ℕ) → has (set marks l waiting) x ≡ has marks x
    unfolding has
    keeps_all =
        set_cases marks l waiting (omega (arith, w.literal_places)) (λ x b. eqb b 1 ≡ eqb (get_or marks x 0) 1)
        (rw e refl) (λ x f. refl)

    grown : told_count marks < told_count (set marks l waiting)
    grown = omega (arith, count_same (told (set marks l waiting)) (adjoin (told marks) l) tells_more, count-more (told marks) l h (untold marks l e))

    longer : take (top + 1) (set stack top l) ≡ take top stack ++ (l ∷ [])
    longer = ap (λ (n : ℕ). take n (set stack top l)) (add-one top) ∙ take-suc-set stack top l (omega (arith, w.stack_places, room-left))

    pub told-now : Waited l marks top (set marks l waiting) (set stack top l) (top + 1)
    told-now =
        record {
          on_stack =
              record {
                literal_places = length-set marks l waiting ∙ w.literal_places;
                stack_places = length-set stack top l ∙ w.stack_places;
                stacked = ap (all (λ x. ltb x literals)) longer ∙ all_append (λ x. ltb x literals) (take top stack) (l ∷ []) ∙ and_both w.stacked (and_both (lt-ltb l literals h) refl);
                room = omega (arith, w.room, grown);
                waits = λ x k t. ap (mem x) longer ∙ on_it x k (either (eqb x l)) t;
                bytes = λ x k. set_cases marks l waiting (omega (arith, w.literal_places)) (λ y b. y < literals → b ≤ waiting) (λ _. omega arith) (λ y f q. w.bytes y q) x k;
              };
          tells = tells_more;
          keeps = keeps_all;
          paced = omega (arith, grown);
        }
      where
        on_it : (x : ℕ) → x < literals → (eqb x l ≡ true) ⊎ (eqb x l ≡ false) → get_or (set marks l waiting) x 0 ≡ waiting → mem x (take top stack ++ (l ∷ [])) ≡ true
        on_it x k s t = ⊎_elim last before s
          where
            last : eqb x l ≡ true → mem x (take top stack ++ (l ∷ [])) ≡ true
            last f = mem-append x (take top stack) (l ∷ []) ∙ or_right (mem x (take top stack)) _ (or_left _ _ f)

            before : eqb x l ≡ false → mem x (take top stack ++ (l ∷ [])) ≡ true
            before f = mem-left x (take top stack) (l ∷ []) (w.waits x k (sym (get_or-set_other marks l x waiting 0 (eqb-false x l f)) ∙ t))

-- The literal on top of the stack.
module _ {marks stack : List ℕ} {rest : ℕ} (w : Stacked marks stack (suc rest)) where
  abbrev last : ℕ
  last = get_or stack rest 0

  pub top_inside : rest < literals
  top_inside = omega (arith, w.room, count_most (told marks))

  shorter : take (suc rest) stack ≡ take rest stack ++ (last ∷ [])
  shorter = take-suc stack rest 0 (omega (arith, w.stack_places, top_inside))

  all-shorter : all (λ x. ltb x literals) (take rest stack) && (ltb last literals && true) ≡ true
  all-shorter = sym (ap (all (λ x. ltb x literals)) shorter ∙ all_append (λ x. ltb x literals) (take rest stack) (last ∷ [])) ∙ w.stacked

  pub top_literal : last < literals
  top_literal = ltb-true last literals (and_left _ _ (and_right (all (λ x. ltb x literals) (take rest stack)) _ all-shorter))

  waits_below : (x : ℕ) → eqb x last ≡ false → x < literals → get_or marks x 0 ≡ waiting → mem x (take rest stack) ≡ true
  waits_below x f k t =
      ⊎_elim (λ m. m) (λ m. never (sym (or-none (eqb x last)) ∙ m) f)
      (or_cases (mem x (take rest stack)) _ (sym (ap (mem x) shorter ∙ mem-append x (take rest stack) (last ∷ [])) ∙ w.waits x k t))

  pub passed_by : (get_or marks last 0 ≡ waiting → ⊥) → Stacked marks stack rest
  passed_by n =
      record {
        literal_places = w.literal_places;
        stack_places = w.stack_places;
        stacked = and_left _ _ all-shorter;
        room = omega (arith, w.room);
        waits = λ x k t. waits_below x (ne_eqb x last (λ e. n (ap (λ (y : ℕ). get_or marks y 0) (sym e) ∙ t))) k t;
        bytes = w.bytes;
      }

  module _ (e : get_or marks last 0 ≡ waiting) where
    pub same_told : told (set marks last 1) ≡ told marks
    unfolding told
    same_told =
        fun_ext
        (set_cases marks last 1 (omega (arith, w.literal_places, top_literal)) (λ x b. not (eqb b 0) ≡ not (eqb (get_or marks x 0) 0))
        (rw e refl) (λ x f. refl))

    pub was_not_true : has marks last ≡ false
    unfolding has
    was_not_true = rw e refl

    pub taken : Stacked (set marks last 1) stack rest
    taken =
        record {
          literal_places = length-set marks last 1 ∙ w.literal_places;
          stack_places = w.stack_places;
          stacked = and_left _ _ all-shorter;
          room = omega (arith, w.room, ap literal_count same_told);
          waits =
              set_cases marks last 1 (omega (arith, w.literal_places, top_literal)) (λ x b. x < literals → b ≡ waiting → mem x (take rest stack) ≡ true)
              (λ k t. absurd (omega arith)) (λ x f k t. waits_below x f k t);
          bytes =
              set_cases marks last 1 (omega (arith, w.literal_places, top_literal)) (λ x b. x < literals → b ≤ waiting)
              (λ k. omega arith) (λ x f k. w.bytes x k);
        }
