-- Each step of a run stands in its turn, for every chaining along the order, and no other row with the same facts has this.
use Prim.Native.Nat.{ℕ, zero, suc, ◌+◌, ◌<◌}
use native.Mathlib.Omega.{arith}
use native.Mathlib.Decide.{dec_lt}
use mathlib.Core.Path.{◌≡◌, refl, sym, ◌∙◌, ap, ap₂, fun_ext}
use mathlib.Core.Bool.{Bool, true, false, ◌||◌}
use mathlib.Core.List.{List, [], ◌∷◌, ◌++◌, map, map-append, append-nil, append_assoc}
use mathlib.Core.Option.{Option, none, some}
use lib.ListN.{length, take, length-append}
use lib.Dec.{eqb}
use Rattle.theory.specs.Rule.{how_many, Program, Mask, FactSet, Same, nothing, adjoin, count, rule, plain, exception, Step, plain_rules}
use Rattle.theory.specs.Walk.{picks}
use Rattle.theory.specs.Derive.{lowest, conclude, fired, step_by, steps}
use Rattle.theory.specs.Run.{Stand, stage, first_eligible, run, stage_count}
use Rattle.theory.specs.Stable.{step_at, facts_of}
use Rattle.theory.specs.Chaining.{Chaining, ReadyOn, LowestReady, stages_behind, InTurn, StepsInTurn}
use Rattle.theory.proofs.Bools.{never, and_right, or_right, false_of}
use Rattle.theory.proofs.Lists.{mem-here, how_many-append}
use Rattle.theory.proofs.Walk as walk
use Rattle.theory.proofs.Derive.{Trail, fires, lowest-ready, none_ready, fired-trail}
use Rattle.theory.proofs.Grounds.{facts-append}
use Rattle.theory.proofs.Run.{Sound, Eligible, start-sound, stage-sound, picked, not-both}
use Rattle.theory.proofs.Stages.{onward, stands, onward-some, onward-none, run-stands, stands-all}
use Rattle.theory.proofs.Chaining.{chaining_stands, taken-first, first-unique}

-- the facts of a row with one step more
facts-more : (before : List Step) (s : Step) → facts_of (before ++ (s ∷ [])) ≡ adjoin (facts_of before) s.fact
facts-more before s = fun_ext (λ f. facts-append before (s ∷ []) f ∙ swap (facts_of before f) (eqb f s.fact))
  where
    swap : (a b : Bool) → a || (b || false) ≡ b || a
    swap true true = refl
    swap true false = refl
    swap false true = refl
    swap false false = refl

-- There is only one lowest-numbered rule that is ready.
lowest-unique : (P : Program) (on : Mask) (S : FactSet) (c d : ℕ) → LowestReady P on S c → LowestReady P on S d → c ≡ d
lowest-unique P on S c d u v = go (dec_lt c d) (dec_lt d c)
  where
    go : Dec (c < d) → Dec (d < c) → c ≡ d
    go (yes l) e = absurd (v.none_below c l u.ready)
    go (no n) (yes l) = absurd (u.none_below d l v.ready)
    go (no n) (no m) = omega arith

module _ (P : Program) (on : Mask) where
  -- no step of the closure is by an exception rule
  trail_behind : (is : List ℕ) (S : FactSet) → Trail P (plain_rules P on) S is → stages_behind P (map (step_by P) is) ≡ 0
  unfolding plain_rules
  trail_behind [] S t = refl
  trail_behind (i ∷ is) S t =
      rw (false_of (exception P i) (λ x. not-both P on i (and_right (on i) (plain P i) t.0.is_on) x)) (trail_behind is (conclude P S i) t.1)

  behind_append : (xs ys : List Step) → stages_behind P (xs ++ ys) ≡ stages_behind P xs + stages_behind P ys
  behind_append xs ys =
      ap (how_many (exception P)) (map-append (λ (s : Step). s.by) xs ys)
      ∙ how_many-append (exception P) (map (λ (s : Step). s.by) xs) (map (λ (s : Step). s.by) ys)

  -- a stage brings one such step
  stage-behind : (s : Stand) (i : ℕ) → exception P i ≡ true → stages_behind P s.trace ≡ stage_count s → stages_behind P (stage P on s i).trace ≡ stage_count (stage P on s i)
  unfolding steps
  stage-behind s i x h =
      let plains : stages_behind P (steps P (plain_rules P on) (conclude P s.derived i)) ≡ 0 = trail_behind (fired P (plain_rules P on) (conclude P s.derived i)) (conclude P s.derived i) (fired-trail P (plain_rules P on) (conclude P s.derived i)) in
      let one : stages_behind P (step_by P i ∷ steps P (plain_rules P on) (conclude P s.derived i)) ≡ 1 = rw (x, plains) refl in
      behind_append s.trace (step_by P i ∷ steps P (plain_rules P on) (conclude P s.derived i))
      ∙ (rw (h, one) (sym (length-append s.applied (i ∷ []))))

  module _ (order : List ℕ) (D R : ℕ → FactSet) where
    -- each step of a row stands in its turn behind the steps before it and those before the row
    abbrev Turns : List Step → List Step → Type 0
    Turns before [] = Unit {0}
    Turns before (s ∷ row) = InTurn P on order D R before s × Turns (before ++ (s ∷ [])) row

    turns_append : (xs ys before : List Step) → Turns before xs → Turns (before ++ xs) ys → Turns before (xs ++ ys)
    turns_append [] ys before t u = rw (append-nil before) at u
    turns_append (x ∷ xs) ys before t u =
        (t.0, turns_append xs ys (before ++ (x ∷ [])) t.1 (rw (append_assoc before (x ∷ []) xs) u))

    turns_at : (row before : List Step) → Turns before row → (k : ℕ) → k < length row → InTurn P on order D R (before ++ take k row) (step_at row k)
    turns_at [] before t k l = absurd (omega arith)
    turns_at (x ∷ row) before t zero l = rw (append-nil before) t.0
    turns_at (x ∷ row) before t (suc k) l =
        rw (← append_assoc before (x ∷ []) (take k row)) (turns_at row (before ++ (x ∷ [])) t.1 k (omega arith))

    -- the steps of the closure stand in their turn
    plain_turn : (before : List Step) (i : ℕ) → lowest P (plain_rules P on) (facts_of before) ≡ some i → InTurn P on order D R before (step_by P i)
    plain_turn before i e =
        let t : LowestReady P (plain_rules P on) (facts_of before) i = lowest-ready P (plain_rules P on) (facts_of before) i e in
        record {
          new = t.ready.conclusion_out;
          concludes = refl;
          plain_first = λ c _. t;
          else_taken = λ none. absurd (none i t.ready);
        }

    picks-turn : (n : ℕ) (before : List Step) → Turns before (map (step_by P) (picks (lowest P (plain_rules P on)) (conclude P) n (facts_of before)))
    picks-turn zero before = tt
    picks-turn (suc n) before = go (lowest P (plain_rules P on) (facts_of before)) refl (picks-turn n)
      where
        go : (o : Option ℕ) → lowest P (plain_rules P on) (facts_of before) ≡ o → ((xs : List Step) → Turns xs (map (step_by P) (picks (lowest P (plain_rules P on)) (conclude P) n (facts_of xs)))) → Turns before (map (step_by P) (picks (lowest P (plain_rules P on)) (conclude P) (suc n) (facts_of before)))
        go none e r = rw (walk.picks-none (lowest P (plain_rules P on)) (conclude P) (suc n) (facts_of before) e) tt
        go (some i) e r =
            rw (walk.picks-some (lowest P (plain_rules P on)) (conclude P) n (facts_of before) i e)
            (plain_turn before i e, rw (facts-more before (step_by P i)) at (r (before ++ (step_by P i ∷ []))))

    steps-turn : (before : List Step) → Turns before (steps P (plain_rules P on) (facts_of before))
    unfolding steps fired
    steps-turn before = picks-turn (count P) before

    at-turns : (row before : List Step) → ((k : ℕ) → k < length row → InTurn P on order D R (before ++ take k row) (step_at row k)) → Turns before row
    at-turns [] before h = tt
    at-turns (x ∷ row) before h = (
      rw (append-nil before) at (h 0 (omega arith)),
      at-turns row (before ++ (x ∷ [])) (λ k l. rw (append_assoc before (x ∷ []) (take k row)) (h (suc k) (omega arith))),
    )

    -- Behind the same steps only one step is in turn, ..
    turn_unique : (before : List Step) (s t : Step) → InTurn P on order D R before s → InTurn P on order D R before t → s ≡ t
    turn_unique before s t u v =
        ap₂ (λ (f i : ℕ). record { fact = f; by = i }) (sym u.concludes ∙ (ap (λ i. (rule P i).conclusion) same ∙ v.concludes)) same
      where
        go : (o : Option ℕ) → lowest P (plain_rules P on) (facts_of before) ≡ o → s.by ≡ t.by
        go none e =
            let empty = none_ready P (plain_rules P on) (facts_of before) e in
            first-unique P on order (D (stages_behind P before)) (R (stages_behind P before)) s.by t.by (u.else_taken empty).taken (v.else_taken empty).taken
        go (some i) e =
            let r = fires P (plain_rules P on) (facts_of before) i e in
            lowest-unique P (plain_rules P on) (facts_of before) s.by t.by (u.plain_first i r) (v.plain_first i r)

        same : s.by ≡ t.by
        same = go (lowest P (plain_rules P on) (facts_of before)) refl

    -- the fact of a step in turn is not among those before, so no row ends before it
    ends_sooner : (before : List Step) (s : Step) (row : List Step) → InTurn P on order D R before s → Same (facts_of (before ++ [])) (facts_of (before ++ (s ∷ row))) → ⊥
    ends_sooner before s row t same =
        never
        (facts-append before (s ∷ row) s.fact ∙ or_right (facts_of before s.fact) _ (mem-here s.fact (map (λ (x : Step). x.fact) row)))
        (sym (same s.fact) ∙ rw (append-nil before) t.new)

    turns_unique : (xs ys before : List Step) → Turns before xs → Turns before ys → Same (facts_of (before ++ xs)) (facts_of (before ++ ys)) → xs ≡ ys
    turns_unique [] [] before t u same = refl
    turns_unique [] (y ∷ ys) before t u same = absurd (ends_sooner before y ys u.0 same)
    turns_unique (x ∷ xs) [] before t u same = absurd (ends_sooner before x xs t.0 (λ f. sym (same f)))
    turns_unique (x ∷ xs) (y ∷ ys) before t u same =
        let e : y ≡ x = turn_unique before y x u.0 t.0 in
        ap₂ (λ (z : Step) (zs : List Step). z ∷ zs) (sym e)
        (turns_unique xs ys (before ++ (x ∷ [])) t.1 (rw e at u.1) (rw (append_assoc before (x ∷ []) xs, append_assoc before (x ∷ []) ys) (rw e at same)))

    -- .. so of the rows with the same facts only one is.
    pub in_turn_unique : (xs ys : List Step) → StepsInTurn P on order D R xs → StepsInTurn P on order D R ys → Same (facts_of xs) (facts_of ys) → xs ≡ ys
    in_turn_unique xs ys t u same = turns_unique xs ys [] (at-turns xs [] t) (at-turns ys [] u) same

    module _ (chain : Chaining P on order D R) where
      -- the step of a stage stands in its turn: D is closed, so no plain rule is ready
      taken-turn : (n i : ℕ) → Sound P on (stands P on order n) → stages_behind P (stands P on order n).trace ≡ stage_count (stands P on order n) → first_eligible P on order (stands P on order n) ≡ some i → InTurn P on order D R (stands P on order n).trace (step_by P i)
      taken-turn n i v b e =
          record {
            new = sym (v.facts (rule P i).conclusion) ∙ (picked P on order (stands P on order n) i e).conclusion_out;
            concludes = refl;
            plain_first = λ c t. absurd (closed c t);
            else_taken = λ _. rw (b ∙ stands-all P on order n i e) (record { reached = λ f. sym (v.facts f) ∙ sym ((chaining_stands P on order D R chain n).0 f); taken = taken-first P on order D R chain n i e });
          }
        where
          closed : (c : ℕ) → ReadyOn P (plain_rules P on) (facts_of (stands P on order n).trace) c → ⊥
          closed c t =
              let u : ReadyOn P (plain_rules P on) (stands P on order n).derived c = rw (fun_ext v.facts) t in
              never (v.closed c u.known u.is_on u.premises-in) u.conclusion_out

      -- what holds wherever the run stands
      abbrev Standing : Stand → Type 0
      Standing s = Sound P on s × (stages_behind P s.trace ≡ stage_count s) × Turns [] s.trace

      goes_on : (n : ℕ) → Standing (stands P on order n) → (i : ℕ) → first_eligible P on order (stands P on order n) ≡ some i → Standing (stage P on (stands P on order n) i)
      goes_on n h i e = (
        stage-sound P on (stands P on order n) i h.0 t,
        stage-behind (stands P on order n) i t.excepted h.1,
        turns_append (stands P on order n).trace (step_by P i ∷ steps P (plain_rules P on) (conclude P (stands P on order n).derived i)) [] h.2
            (taken-turn n i h.0 h.1 e, rw now at (steps-turn ((stands P on order n).trace ++ (step_by P i ∷ [])))),
      )
        where
          t : Eligible P on (stands P on order n) i
          t = picked P on order (stands P on order n) i e

          now : facts_of ((stands P on order n).trace ++ (step_by P i ∷ [])) ≡ conclude P (stands P on order n).derived i
          now = facts-more (stands P on order n).trace (step_by P i) ∙ ap (λ (S : FactSet). conclude P S i) (sym (fun_ext h.0.facts))

      standing : (n : ℕ) → Standing (stands P on order n)
      unfolding steps
      standing zero =
          (start-sound P on, trail_behind (fired P (plain_rules P on) nothing) nothing (fired-trail P (plain_rules P on) nothing), steps-turn [])
      standing (suc n) = go (first_eligible P on order (stands P on order n)) refl (standing n)
        where
          go : (o : Option ℕ) → first_eligible P on order (stands P on order n) ≡ o → Standing (stands P on order n) → Standing (onward P on order (stands P on order n))
          go none e h = rw (onward-none P on order (stands P on order n) e) h
          go (some i) e h = rw (onward-some P on order (stands P on order n) i e) (goes_on n h i e)

      -- Each step of the run stands in its turn.
      pub run-in_turn : StepsInTurn P on order D R (run P on order).trace
      run-in_turn = rw (run-stands P on order) (turns_at (stands P on order (count P)).trace [] (standing (count P)).2)
