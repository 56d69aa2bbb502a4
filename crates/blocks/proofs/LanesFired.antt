-- One rule fires in all lanes: from what is kept of a body, to what its conclusion gains, and the places that wait then.
use Prim.Native.Nat.{ℕ, ◌+◌, ◌*◌, ◌/◌, ◌%◌, ◌^◌, ◌<◌, ◌≤◌}
use native.Mathlib.Omega.{arith}
use mathlib.Core.Path.{◌≡◌, refl, sym, ap, ap₂, subst, ◌∙◌}
use mathlib.Core.Bool.{Bool, true, false, ◌&&◌, ◌||◌}
use mathlib.Core.List.{List, [], ◌∷◌, ◌++◌}
use mathlib.Core.Logic.{inl, inr, ⊎_elim}
use borrow.Author.Tests.{eqb-true, eqb-false, ltb-true, ltb-false}
use lib.Bits.{bit_and, and_le_l}
use lib.Dec.{eqb, ltb}
use lib.ListN.{length, get_or, take, replicate, get_or-replicate, get_or-eq_default}
use lib.Seq.{ext_get_or}
use Rattle.theory.specs.Rule.{all, mem, Program, rule}
use Rattle.theory.specs.Guesses.{bit}
use Rattle.theory.proofs.Bools.{either, never, and-true, or-none, or_left, and_left, and_both, or-false_right, false_of}
use Rattle.theory.proofs.Lists.{all-ext, all_append}
use Rattle.theory.proofs.NumberBits.{bit-and, bit-or}
use Rattle.std.proofs.lemmas.List.{take_more, take_all}
use Rattle.bits.specs.Flags.{word_bits, Flags}
use Rattle.premises.specs.Premises.{Places, premises_at, asks_at}
use Rattle.lanes.specs.Lanes.{every_lane, lane_words, lane_cells, word_of, lane_in, Fit, Met, Joined}
use Rattle.lanes.proofs.LanePatterns.{every-lane}
use Rattle.blocks.specs.Settling.{MetAll, fires_in, Fired, Stepped}

-- The facts of a list before a place are met.
pub record Meeting (own words before after : List ℕ) (k : ℕ) : Type 0 where
  pub met : MetAll (take k own) words before after

pub none_met : (own words before : List ℕ) → Meeting own words before before 0
none_met own words before = record { met = record { places = refl; kept = λ e w t h u. sym (and-true (bit (get_or before w 0) t)); fitting = λ e f. f } }

-- one fact more
one_more_met : {fact : ℕ} {facts words before middle after : List ℕ} → MetAll facts words before middle → Met fact words middle after → MetAll (facts ++ (fact ∷ [])) words before after
one_more_met {fact} {facts} {words} {before} {middle} {after} a m =
    record {
      places = m.places ∙ a.places;
      kept = λ e w t h l.
          ap (λ (n : ℕ). bit n t) (m.kept (a.places ∙ e) w h)
          ∙ bit-and t (get_or middle w 0) (word_of words fact w)
          ∙ ap (λ (b : Bool). b && lane_in words w t fact) (a.kept e w t h l)
          ∙ one_more (bit (get_or before w 0) t) (all (lane_in words w t) facts) (lane_in words w t fact)
          ∙ ap (λ (b : Bool). bit (get_or before w 0) t && b) (sym (all_append (lane_in words w t) facts (fact ∷ [])));
      fitting = λ e f i. fits e (a.fitting e f) i (ltb i lane_words) refl;
    }
  where
    one_more : (a b c : Bool) → a && b && c ≡ a && (b && (c && true))
    one_more true true true = refl
    one_more true true false = refl
    one_more true false c = refl
    one_more false b c = refl

    fits : length before ≡ lane_words → Fit middle → (i : ℕ) (b : Bool) → ltb i lane_words ≡ b → get_or after i 0 < 2 ^ word_bits
    fits e f i true q =
        let h : i < lane_words = ltb-true i lane_words q in
        let le : bit_and (get_or middle i 0) (word_of words fact i) ≤ get_or middle i 0 = and_le_l (get_or middle i 0) (word_of words fact i) in
        let is : get_or after i 0 ≡ bit_and (get_or middle i 0) (word_of words fact i) = m.kept (a.places ∙ e) i h in
        omega (arith, f i)
    fits e f i false q =
        let h : lane_words ≤ i = ltb-false i lane_words q in
        let z : get_or after i 0 ≡ 0 = get_or-eq_default after 0 (omega (arith, m.places, a.places)) in
        omega arith

module _ {own words before middle : List ℕ} {k : ℕ} (w : Meeting own words before middle k) where
  pub one_met : k < length own → {fact : ℕ} {after : List ℕ} → fact ≡ get_or own k 0 → Met fact words middle after → Meeting own words before after (k + 1)
  one_met h {fact} {after} is m =
      record { met = subst (λ (xs : List ℕ). MetAll xs words before after) (sym (take_more own k 0 h)) (one_more_met w.met (subst (λ (f : ℕ). Met f words middle after) is m)) }

  pub all-met : length own ≤ k → MetAll own words before middle
  all-met h = subst (λ (xs : List ℕ). MetAll xs words before middle) (take_all k own h) w.met

-- Facts met in another order are met.
pub met_in : {own facts words before after : List ℕ} → ((p : ℕ → Bool) → all p own ≡ all p facts) → MetAll own words before after → MetAll facts words before after
met_in {own} {facts} {words} {before} same m =
    record { places = m.places; kept = λ e w t h l. m.kept e w t h l ∙ ap (λ (b : Bool). bit (get_or before w 0) t && b) (same (lane_in words w t)); fitting = m.fitting }

-- a body with all lanes
abbrev start : List ℕ
start = replicate lane_words every_lane

start_has : (w t : ℕ) → w < lane_words → t < word_bits → bit (get_or start w 0) t ≡ true
start_has w t h l = ap (λ (n : ℕ). bit n t) (get_or-replicate lane_words w every_lane 0 h) ∙ every-lane t l

start_fits : Fit start
start_fits i = ⊎_elim inside past (either (ltb i lane_words))
  where
    inside : ltb i lane_words ≡ true → get_or start i 0 < 2 ^ word_bits
    inside q = let e : get_or start i 0 ≡ every_lane = get_or-replicate lane_words i every_lane 0 (ltb-true i lane_words q) in omega arith

    past : ltb i lane_words ≡ false → get_or start i 0 < 2 ^ word_bits
    past q =
        let h : lane_words ≤ i = ltb-false i lane_words q in
        let e : get_or start i 0 ≡ 0 = get_or-eq_default start 0 h in
        omega arith

-- What a rule derives where its whole body is met.
pub rule-fired : (P : Program) (i : ℕ) {outs before middle body after : List ℕ} {new : Bool} {fact : ℕ}
    → length before ≡ lane_cells → fact ≡ (rule P i).conclusion
    → MetAll (rule P i).premises before start middle → MetAll (rule P i).constraints outs middle body
    → Joined fact body before after new → Fired P i outs before after new
rule-fired P i {outs} {before} {middle} {body} {after} {new} size is m n joined =
    record {
      places = j.beside.places ∙ size;
      adds = λ w t f h l. ⊎_elim (own w t f h l) (other w t f h l) (either (eqb f (rule P i).conclusion));
      fitting = λ f. j.fitting f (n.fitting m.places (m.fitting refl start_fits));
      same = λ e. ext_get_or 0 after before j.beside.places (λ k h. unchanged e k);
      more = j.more size;
    }
  where
    j : Joined (rule P i).conclusion body before after new
    j = subst (λ (f : ℕ). Joined f body before after new) is joined

    fires : (w t : ℕ) → w < lane_words → t < word_bits → bit (get_or body w 0) t ≡ fires_in P outs before i w t
    fires w t h l =
        n.kept m.places w t h l
        ∙ ap (λ (b : Bool). b && all (lane_in outs w t) (rule P i).constraints) (m.kept refl w t h l ∙ ap (λ (b : Bool). b && all (lane_in before w t) (rule P i).premises) (start_has w t h l))

    own : (w t f : ℕ) → w < lane_words → t < word_bits → eqb f (rule P i).conclusion ≡ true → lane_in after w t f ≡ lane_in before w t f || (eqb f (rule P i).conclusion && fires_in P outs before i w t)
    own w t f h l q =
        let here : f ≡ (rule P i).conclusion = eqb-true f (rule P i).conclusion q in
        ap (lane_in after w t) here
        ∙ ap (λ (x : ℕ). bit x t) (j.given size w h)
        ∙ bit-or t (word_of before (rule P i).conclusion w) (get_or body w 0)
        ∙ ap₂ (λ (a b : Bool). a || b) (ap (lane_in before w t) (sym here)) (fires w t h l)
        ∙ ap (λ (b : Bool). lane_in before w t f || (b && fires_in P outs before i w t)) (sym q)

    other : (w t f : ℕ) → w < lane_words → t < word_bits → eqb f (rule P i).conclusion ≡ false → lane_in after w t f ≡ lane_in before w t f || (eqb f (rule P i).conclusion && fires_in P outs before i w t)
    other w t f h l q =
        ap (λ (x : ℕ). bit x t) (j.beside.others f w h (eqb-false f (rule P i).conclusion q))
        ∙ sym (or-none (lane_in before w t f))
        ∙ ap (λ (b : Bool). lane_in before w t f || (b && fires_in P outs before i w t)) (sym q)

    unchanged : new ≡ false → (k : ℕ) → get_or after k 0 ≡ get_or before k 0
    unchanged e k =
        let is : k / lane_words * lane_words + k % lane_words ≡ k = omega arith in
        subst (λ (x : ℕ). get_or after x 0 ≡ get_or before x 0) is (j.same e (k / lane_words) (k % lane_words) (omega arith))

-- Where nothing is new, the same places wait.
pub stepped_same : {P : Program} {R : Places} {p : ℕ → Bool} {i : ℕ} {outs before waiting after : List ℕ} {new : Bool} → Fired P i outs before after new → new ≡ false → Flags p waiting → Stepped P R p i outs before waiting after waiting
stepped_same {P} {R} {p} {i} {outs} {before} {waiting} {after} d none f =
    record {
      places = d.places;
      adds = d.adds;
      fitting = d.fitting;
      waits = p;
      flags = f;
      still = λ k t. t;
      taken = λ k t o. never t o;
      known = λ k t o w l h u. ap (λ (xs : List ℕ). all (lane_in xs w l) (premises_at P R k)) (d.same none);
      forward = inl (refl, d.same none);
    }

-- Else those that ask the conclusion wait too.
pub stepped_new : {P : Program} {R : Places} {p : ℕ → Bool} {i : ℕ} {outs before waiting after waiting' : List ℕ} {new : Bool} → Fired P i outs before after new → new ≡ true → Flags (λ k. p k || asks_at P R (rule P i).conclusion k) waiting' → Stepped P R p i outs before waiting after waiting'
stepped_new {P} {R} {p} {i} {outs} {before} {waiting} {after} {waiting'} d some f =
    record {
      places = d.places;
      adds = d.adds;
      fitting = d.fitting;
      waits = λ k. p k || asks_at P R (rule P i).conclusion k;
      flags = f;
      still = λ k t. or_left (p k) _ t;
      taken = λ k t o. and_left (R.taken k) _ (rw o at t);
      known = λ k t o w l h u. all-ext (lane_in after w l) (lane_in before w l) (premises_at P R k) (λ g m. stays k t o w l h u g m);
      forward = inr (d.more some);
    }
  where
    stays : (k : ℕ) → R.taken k ≡ true → p k || asks_at P R (rule P i).conclusion k ≡ false → (w t : ℕ) → w < lane_words → t < word_bits → (g : ℕ) → mem g (premises_at P R k) ≡ true → lane_in after w t g ≡ lane_in before w t g
    stays k t o w l h u g m =
        let not-asked : eqb g (rule P i).conclusion ≡ false =
        false_of (eqb g (rule P i).conclusion)
        (λ e. never (and_both t (subst (λ (x : ℕ). mem x (premises_at P R k) ≡ true) (eqb-true g (rule P i).conclusion e) m)) (or-false_right (p k) _ o)) in
        d.adds w l g h u ∙ ap (λ (b : Bool). lane_in before w l g || (b && fires_in P outs before i w l)) not-asked ∙ or-none (lane_in before w l g)
