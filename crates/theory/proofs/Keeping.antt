-- The steps that are kept for a fact: what is computed is the least set (`keeping_kept`), and of a run the kept row is a minimal proof that D admits.
use Prim.Native.Nat.{ℕ, zero, suc, ◌-◌, ◌<◌}
use native.Mathlib.Omega.{arith}
use mathlib.Core.Path.{◌≡◌, refl, sym, ◌∙◌, ap, ap₂}
use mathlib.Core.Bool.{Bool, true, false, cond, ◌&&◌, ◌||◌}
use mathlib.Core.List.{List, [], ◌∷◌, map}
use mathlib.Core.Logic.{◌⊎◌, inl, inr, ⊎_elim}
use borrow.Author.Tests.{eqb-true}
use lib.ListN.{length, take}
use lib.Dec.{eqb}
use Rattle.theory.specs.Rule.{mem, NoRepeat, Program, Mask, FactSet, Sub, nothing, adjoin, rule, Step}
use Rattle.theory.specs.Run.{Stand, run}
use Rattle.theory.specs.Stable.{step_at, facts_of, used_rule, Proof, Admits}
use Rattle.theory.specs.Check.{ends_with}
use Rattle.theory.specs.Keeping.{StepSet, HasOwn, Back, Kept, select, Subsequence, uses, UsesOnly, Minimal, wanted, kept_steps, grounds_of, Once, Traced}
use Rattle.theory.proofs.Bools.{never, and_left, and_right, and_both, or_left, or_right, or_cases, or-false_left, or-false_right, both_ways, false_of, either, or-none}
use Rattle.theory.proofs.Lists.{eqb-self, all-elem, all_of, mem-cases, mem-here, mem-there}
use Rattle.theory.proofs.Grounds.{Grounded, Grounds, grounds_at}
use Rattle.theory.proofs.Check.{ends_last}
use Rattle.theory.proofs.Run.{Sound, step_facts, granted, run_sound}
use Rattle.theory.proofs.Rows.{grounded_admits, grounded_proof}

-- A fact of the first k steps has its step among them.
pub fact-before : (row : List Step) (k g : ℕ) → facts_of (take k row) g ≡ true → (j : ℕ) × (j < k) × (j < length row) × ((step_at row j).fact ≡ g)
fact-before row zero g m = never m refl
fact-before [] (suc k) g m = never m refl
fact-before (s ∷ row) (suc k) g m =
    ⊎_elim
    (λ e. (0, omega arith, omega arith, sym e))
    (λ e. let (j, l, h, q) = fact-before row k g e in (suc j, omega (arith, l), omega (arith, h), q))
    (mem-cases g s.fact (map (λ x. x.fact) (take k row)) m)

-- The fact of each step is a fact of the row, and each fact of the row has a step.
pub fact_there : (row : List Step) (k : ℕ) → k < length row → facts_of row (step_at row k).fact ≡ true
fact_there [] k l = absurd (omega arith)
fact_there (s ∷ row) zero l = mem-here s.fact (map (λ x. x.fact) row)
fact_there (s ∷ row) (suc k) l = mem-there _ s.fact (map (λ x. x.fact) row) (fact_there row k (omega arith))

pub fact-place : (row : List Step) (g : ℕ) → facts_of row g ≡ true → (j : ℕ) × (j < length row) × ((step_at row j).fact ≡ g)
fact-place [] g m = never m refl
fact-place (s ∷ row) g m =
    ⊎_elim
    (λ e. (0, omega arith, sym e))
    (λ e. let (j, h, q) = fact-place row g e in (suc j, omega (arith, h), q))
    (mem-cases g s.fact (map (λ x. x.fact) row) m)

-- A row whose facts do not repeat has one step for each.
pub one_step_each : (row : List Step) → NoRepeat (step_facts row) → Once row
one_step_each [] n j k l h e = absurd (omega arith)
one_step_each (s ∷ row) n zero zero l h e = refl
one_step_each (s ∷ row) n zero (suc k) l h e = never (rw e (fact_there row k (omega arith))) n.0
one_step_each (s ∷ row) n (suc j) zero l h e = never (rw (← e) (fact_there row j (omega arith))) n.0
one_step_each (s ∷ row) n (suc j) (suc k) l h e = ap suc (one_step_each row n.1 j k (omega arith) (omega arith) e)

-- What is selected is a subsequence.
abbrev one_past : (ℕ → ℕ) → ℕ → ℕ
one_past place zero = 0
one_past place (suc k) = suc (place k)

one_taken : (s : Step) (xs ys : List Step) → Subsequence xs ys → Subsequence (s ∷ xs) (s ∷ ys)
one_taken s xs ys r = record { place = one_past r.place; inside = inside; same = same; ascends = ascends }
  where
    inside : (k : ℕ) → k < length (s ∷ xs) → one_past r.place k < length (s ∷ ys)
    inside zero l = omega arith
    inside (suc k) l = let h : r.place k < length ys = r.inside k (omega arith) in omega arith

    same : (k : ℕ) → k < length (s ∷ xs) → step_at (s ∷ xs) k ≡ step_at (s ∷ ys) (one_past r.place k)
    same zero l = refl
    same (suc k) l = r.same k (omega arith)

    ascends : (j k : ℕ) → j < k → k < length (s ∷ xs) → one_past r.place j < one_past r.place k
    ascends j zero h l = absurd (omega arith)
    ascends zero (suc k) h l = omega arith
    ascends (suc j) (suc k) h l = let g : r.place j < r.place k = r.ascends j k (omega arith) (omega arith) in omega arith

pub select-subsequence : (K : StepSet) (row : List Step) → Subsequence (select K row) row
select-subsequence K [] =
    record { place = λ k. k; inside = λ k l. absurd (omega arith); same = λ k l. absurd (omega arith); ascends = λ j k h l. absurd (omega arith) }
select-subsequence K (s ∷ row) = go (K 0) (select-subsequence (λ k. K (suc k)) row)
  where
    go : (b : Bool) → Subsequence (select (λ k. K (suc k)) row) row → Subsequence (cond b (s ∷ select (λ k. K (suc k)) row) (select (λ k. K (suc k)) row)) (s ∷ row)
    go true r = one_taken s (select (λ k. K (suc k)) row) row r
    go false r =
        record {
          place = λ k. suc (r.place k);
          inside = λ k l. let h : r.place k < length row = r.inside k l in omega arith;
          same = r.same;
          ascends = λ j k h l. let g : r.place j < r.place k = r.ascends j k h l in omega arith;
        }

module _ (P : Program) (f : ℕ) where
  wanted-own : (row : List Step) → wanted P f row f ≡ true
  wanted-own [] = eqb-self f
  wanted-own (s ∷ row) = or_left _ _ (wanted-own row)

  -- the premises of a kept step are wanted before the row
  wanted-step : (row : List Step) (k g : ℕ) → k < length row → kept_steps P f row k ≡ true → mem g (used_rule P row k).premises ≡ true → wanted P f row g ≡ true
  wanted-step [] k g l t m = absurd (omega arith)
  wanted-step (s ∷ row) zero g l t m = or_right (wanted P f row g) _ (and_both t m)
  wanted-step (s ∷ row) (suc k) g l t m = or_left _ _ (wanted-step row k g (omega arith) t m)

  -- and nothing else is, but f
  wanted-cases : (row : List Step) (g : ℕ) → wanted P f row g ≡ true → (g ≡ f) ⊎ ((i : ℕ) × (i < length row) × (kept_steps P f row i ≡ true) × (mem g (used_rule P row i).premises ≡ true))
  wanted-cases [] g t = inl (eqb-true g f t)
  wanted-cases (s ∷ row) g t =
      ⊎_elim
      (λ e. ⊎_elim (λ q. inl q) (λ w. let (i, l, k, m) = w in inr (suc i, omega (arith, l), k, m)) (wanted-cases row g e))
      (λ e. inr (0, omega arith, and_left (wanted P f row s.fact) _ e, and_right (wanted P f row s.fact) _ e))
      (or_cases (wanted P f row g) _ t)

  kept-own : (row : List Step) → HasOwn row f (kept_steps P f row)
  kept-own [] k l e = absurd (omega arith)
  kept-own (s ∷ row) zero l e = rw e (wanted-own row)
  kept-own (s ∷ row) (suc k) l e = kept-own row k (omega arith) e

  kept-earlier : (row : List Step) (k j : ℕ) → j < k → k < length row → kept_steps P f row k ≡ true → mem (step_at row j).fact (used_rule P row k).premises ≡ true → kept_steps P f row j ≡ true
  kept-earlier [] k j h l t m = absurd (omega arith)
  kept-earlier (s ∷ row) zero j h l t m = absurd (omega arith)
  kept-earlier (s ∷ row) (suc k) zero h l t m = wanted-step row k s.fact (omega arith) t m
  kept-earlier (s ∷ row) (suc k) (suc j) h l t m = kept-earlier row k j (omega arith) (omega arith) t m

  kept-below : (row : List Step) (N : StepSet) → HasOwn row f N → Back P row N → (k : ℕ) → k < length row → kept_steps P f row k ≡ true → N k ≡ true
  kept-below [] N o b k l t = absurd (omega arith)
  kept-below (s ∷ row) N o b (suc k) l t =
      kept-below row (λ i. N (suc i)) (λ i h e. o (suc i) (omega arith) e) (λ i j h g u m. b (suc i) (suc j) (omega arith) (omega arith) u m) k (omega arith) t
  kept-below (s ∷ row) N o b zero l t =
      first (kept-below row (λ i. N (suc i)) (λ i h e. o (suc i) (omega arith) e) (λ i j h g u m. b (suc i) (suc j) (omega arith) (omega arith) u m))
    where
      first : ((i : ℕ) → i < length row → kept_steps P f row i ≡ true → N (suc i) ≡ true) → N 0 ≡ true
      first later =
          ⊎_elim
          (λ e. o 0 (omega arith) e)
          (λ w. let (i, h, u, m) = w in b (suc i) 0 (omega (arith, h)) (omega arith) (later i h u) m)
          (wanted-cases row s.fact t)

  -- In a row in which each fact has one step, and premises stand before, the kept steps are the least set.
  pub keeping_kept : (row : List Step) → Traced P row → Kept P row f (kept_steps P f row)
  keeping_kept row r = record { own = kept-own row; back = goes_back; below = kept-below row }
    where
      goes_back : Back P row (kept_steps P f row)
      goes_back k j l h t m =
          let (i, less, inside, same) = fact-before row k (step_at row j).fact (all-elem (facts_of (take k row)) (used_rule P row k).premises (r.founded k l) (step_at row j).fact m) in
          let q : i ≡ j = r.once i j inside h same in
          kept-earlier row k j (omega (arith, less, q)) l t m

-- Sets that agree on a row select the same.
pub select-same : {A : Type 0} (K N : ℕ → Bool) (xs : List A) → ((k : ℕ) → k < length xs → K k ≡ N k) → select K xs ≡ select N xs
select-same K N [] h = refl
select-same {A} K N (x ∷ xs) h =
    ap₂ (λ (b : Bool) (l : List A). cond b (x ∷ l) l) (h 0 (omega arith)) (select-same (λ k. K (suc k)) (λ k. N (suc k)) xs (λ k l. h (suc k) (omega arith)))

-- There is one least set on a row.
pub kept-unique : (P : Program) (row : List Step) (f : ℕ) (K N : StepSet) → Kept P row f K → Kept P row f N → select K row ≡ select N row
kept-unique P row f K N a b =
    select-same K N row (λ k l. both_ways (K k) (N k) (a.below N b.own b.back k l) (b.below K a.own a.back k l))

-- What is kept is computed: any least set selects it.
pub kept-is : (P : Program) (row : List Step) (f : ℕ) (K : StepSet) → Traced P row → Kept P row f K → select K row ≡ grounds_of P f row
unfolding grounds_of
kept-is P row f K r a = kept-unique P row f K (kept_steps P f row) a (keeping_kept P f row r)

-- A rule that the selected steps use is that of a step in the set.
uses-place : (K : StepSet) (row : List Step) (i : ℕ) → uses (select K row) i ≡ true → (k : ℕ) × (k < length row) × (K k ≡ true) × ((step_at row k).by ≡ i)
uses-place K [] i m = never m refl
uses-place K (s ∷ row) i m = go (K 0) refl (uses-place (λ k. K (suc k)) row i)
  where
    later : (k : ℕ) × (k < length row) × (K (suc k) ≡ true) × ((step_at row k).by ≡ i) → (k : ℕ) × (k < length (s ∷ row)) × (K k ≡ true) × ((step_at (s ∷ row) k).by ≡ i)
    later w = let (k, l, t, e) = w in (suc k, omega (arith, l), t, e)

    go : (b : Bool) → K 0 ≡ b → (uses (select (λ k. K (suc k)) row) i ≡ true → (k : ℕ) × (k < length row) × (K (suc k) ≡ true) × ((step_at row k).by ≡ i)) → (k : ℕ) × (k < length (s ∷ row)) × (K k ≡ true) × ((step_at (s ∷ row) k).by ≡ i)
    go true e r =
        let n : uses (s ∷ select (λ k. K (suc k)) row) i ≡ true = rw (e, select) at m in
        ⊎_elim (λ q. (0, omega arith, e, sym q)) (λ u. later (r u)) (mem-cases i s.by (map (λ x. x.by) (select (λ k. K (suc k)) row)) n)
    go false e r = later (r (rw (e, select) at m))

uses-there : (row : List Step) (k : ℕ) → k < length row → uses row (step_at row k).by ≡ true
uses-there [] k l = absurd (omega arith)
uses-there (s ∷ row) zero l = mem-here s.by (map (λ x. x.by) row)
uses-there (s ∷ row) (suc k) l = mem-there _ s.by (map (λ x. x.by) row) (uses-there row k (omega arith))

uses-step : (row : List Step) (i : ℕ) → uses row i ≡ true → (k : ℕ) × (k < length row) × ((step_at row k).by ≡ i)
uses-step [] i m = never m refl
uses-step (s ∷ row) i m =
    ⊎_elim
    (λ e. (0, omega arith, sym e))
    (λ e. let (k, l, q) = uses-step row i e in (suc k, omega (arith, l), q))
    (mem-cases i s.by (map (λ x. x.by) row) m)

-- A proof of f that uses only the rules of the kept steps uses all of them: the steps whose rules it uses have the fact's own step and go back.
module _ (P : Program) (on : Mask) (row : List Step) (f : ℕ) (K : StepSet) (r : Traced P row) (kept : Kept P row f K) (other : List Step) (proof : Proof P on other f) (only : UsesOnly other (select K row)) where
  -- the one kept rule that concludes a fact of the proof is used there
  same_rule : (k : ℕ) → k < length row → facts_of other (step_at row k).fact ≡ true → uses other (step_at row k).by ≡ true
  same_rule k l t =
      let (m, h, e) = fact-place other (step_at row k).fact t in
      let u : uses other (step_at other m).by ≡ true = uses-there other m h in
      let (j, g, _, b) = uses-place K row (step_at other m).by (only _ u) in
      let same : (step_at row j).fact ≡ (step_at row k).fact = sym (r.concludes j g) ∙ ap (λ (i : ℕ). (rule P i).conclusion) b ∙ proof.concludes m h ∙ e in
      let q : j ≡ k = r.once j k g l same in
      rw (← q, b) u

  abbrev used_too : StepSet
  used_too k = K k && uses other (step_at row k).by

  used_own : HasOwn row f used_too
  used_own k l e =
      and_both (kept.own k l e)
      (same_rule k l (rw (e, ← proof.last) (fact_there other (length other - 1) (let h : 0 < length other = proof.not_empty in omega arith))))

  used_back : Back P row used_too
  used_back k j l h t m =
      let (n, g, b) = uses-step other (step_at row k).by (and_right (K k) _ t) in
      let before : facts_of (take n other) (step_at row j).fact ≡ true = all-elem (facts_of (take n other)) (used_rule P other n).premises (proof.founded n g) (step_at row j).fact (rw b m) in
      let (i, _, inside, e) = fact-before other n (step_at row j).fact before in
      and_both (kept.back k j l h (and_left (K k) _ t) m) (same_rule j h (rw (← e) (fact_there other i inside)))

  pub kept-minimal : UsesOnly (select K row) other
  kept-minimal i u =
      let (k, l, t, e) = uses-place K row i u in
      rw (← e) (and_right (K k) _ (kept.below used_too used_own used_back k l t))

-- The kept row is grounded where the row is: what a kept step wants stands before it and is kept.
module _ (P : Program) (f : ℕ) (ok : Mask) where
  kept-grounds : (row : List Step) (S T : FactSet) → ((g : ℕ) → S g ≡ true → wanted P f row g ≡ true → T g ≡ true) → Grounds P ok S row → Grounds P ok T (select (kept_steps P f row) row)
  kept-grounds [] S T w g = tt
  kept-grounds (s ∷ row) S T w g = go (wanted P f row s.fact) refl (kept-grounds row (adjoin S s.fact))
    where
      go : (b : Bool) → wanted P f row s.fact ≡ b → ((U : FactSet) → ((h : ℕ) → adjoin S s.fact h ≡ true → wanted P f row h ≡ true → U h ≡ true) → Grounds P ok (adjoin S s.fact) row → Grounds P ok U (select (kept_steps P f row) row)) → Grounds P ok T (cond (wanted P f row s.fact) (s ∷ select (kept_steps P f row) row) (select (kept_steps P f row) row))
      go true e r =
          rw e (
            record {
              known = g.0.known;
              granted = g.0.granted;
              concludes = g.0.concludes;
              founded = all_of T (rule P s.by).premises (λ h m. w h (all-elem S (rule P s.by).premises g.0.founded h m) (or_right (wanted P f row h) _ (and_both e m)));
            },
            r (adjoin T s.fact) (λ h t u. ⊎_elim (λ q. or_left _ _ q) (λ q. or_right (eqb h s.fact) _ (w h q (or_left _ _ u))) (or_cases (eqb h s.fact) _ t)) g.1,
          )
      go false e r =
          rw e
          (r T (λ h t u. ⊎_elim (λ q. never {b = wanted P f row s.fact} (rw (← eqb-true h s.fact q) u) e) (λ q. w h q (or_left _ _ u)) (or_cases (eqb h s.fact) _ t)) g.1)

-- Behind the last step of f nothing is kept, ..
module _ (P : Program) (f : ℕ) where
  none_behind : (row : List Step) → facts_of row f ≡ false → (◌≡◌ {A = List Step} (select (kept_steps P f row) row) []) × ((g : ℕ) → wanted P f row g ≡ eqb g f)
  none_behind [] m = (refl, λ g. refl)
  none_behind (s ∷ row) m = go (none_behind row (or-false_right (eqb f s.fact) _ m))
    where
      go : (◌≡◌ {A = List Step} (select (kept_steps P f row) row) []) × ((g : ℕ) → wanted P f row g ≡ eqb g f) → (◌≡◌ {A = List Step} (select (kept_steps P f (s ∷ row)) (s ∷ row)) []) × ((g : ℕ) → wanted P f (s ∷ row) g ≡ eqb g f)
      go r =
          let out : wanted P f row s.fact ≡ false = r.1 s.fact ∙ false_of (eqb s.fact f) (λ e. never (rw (eqb-true s.fact f e) (eqb-self f)) (or-false_left (eqb f s.fact) _ m)) in
          (rw (out, select) r.0, λ g. ap₂ ◌||◌ (r.1 g) (ap (λ (b : Bool). b && mem g (rule P s.by).premises) out) ∙ or-none (eqb g f))

  ends_more : (s : Step) (xs : List Step) → ends_with f xs ≡ true → ends_with f (s ∷ xs) ≡ true
  ends_more s [] e = never e refl
  ends_more s (x ∷ xs) e = e

  -- .. so the kept row ends with it.
  kept-ends : (row : List Step) → facts_of row f ≡ true → ends_with f (select (kept_steps P f row) row) ≡ true
  kept-ends [] m = never m refl
  kept-ends (s ∷ row) m = ⊎_elim (λ e. deep (wanted P f row s.fact) (kept-ends row e)) (λ e. here e) (either (facts_of row f))
    where
      deep : (b : Bool) → ends_with f (select (kept_steps P f row) row) ≡ true → ends_with f (cond b (s ∷ select (kept_steps P f row) row) (select (kept_steps P f row) row)) ≡ true
      deep true e = ends_more s (select (kept_steps P f row) row) e
      deep false e = e

      here : facts_of row f ≡ false → ends_with f (select (kept_steps P f (s ∷ row)) (s ∷ row)) ≡ true
      here e =
          let own : f ≡ s.fact = ⊎_elim (λ q. q) (λ q. never q e) (mem-cases f s.fact (map (λ x. x.fact) row) m) in
          let last : eqb s.fact f ≡ true = rw (← own) (eqb-self f) in
          rw ((none_behind row e).1 s.fact, last, (none_behind row e).0, select) last

-- The facts of what is selected are facts of the row.
selected_inside : (K : StepSet) (row : List Step) → Sub (facts_of (select K row)) (facts_of row)
selected_inside K row g m =
    let r : Subsequence (select K row) row = select-subsequence K row in
    let (j, l, e) = fact-place (select K row) g m in
    rw (← e, r.same j l) (fact_there row (r.place j) (r.inside j l))

-- Wherever a run may stand, its steps are traced.
pub sound_traced : (P : Program) (on : Mask) (s : Stand) → Sound P on s → Traced P s.trace
sound_traced P on s v = record { known = λ k l. (at k l).known; concludes = λ k l. (at k l).concludes; founded = λ k l. (at k l).founded; once = one_step_each s.trace v.once }
  where
    at : (k : ℕ) → k < length s.trace → Grounded P (granted P on s.applied) (facts_of (take k s.trace)) (step_at s.trace k)
    at k l = grounds_at P (granted P on s.applied) s.trace nothing v.grounds k l

pub run-traced : (P : Program) (on : Mask) (order : List ℕ) → Traced P (run P on order).trace
run-traced P on order = sound_traced P on (run P on order) (run_sound P on order)

-- The kept row of a fact that a run derived is a minimal proof of it that D admits.
module _ (P : Program) (on : Mask) (order : List ℕ) (f : ℕ) where
  abbrev stand : Stand
  stand = run P on order

  grounded : Grounds P (granted P on stand.applied) nothing (grounds_of P f stand.trace)
  unfolding grounds_of
  grounded = kept-grounds P f (granted P on stand.applied) stand.trace nothing nothing (λ g t u. t) (run_sound P on order).grounds

  pub run-kept : Kept P stand.trace f (kept_steps P f stand.trace)
  run-kept = keeping_kept P f stand.trace (run-traced P on order)

  pub grounds_subsequence : Subsequence (grounds_of P f stand.trace) stand.trace
  unfolding grounds_of
  grounds_subsequence = select-subsequence (kept_steps P f stand.trace) stand.trace

  pub grounds_admitted : Admits P stand.derived (grounds_of P f stand.trace)
  grounds_admitted = grounded_admits P on stand (run_sound P on order) (grounds_of P f stand.trace) grounded

  pub grounds_minimal : stand.derived f ≡ true → Minimal P on (grounds_of P f stand.trace) f
  unfolding grounds_of
  grounds_minimal d =
      record {
        proof = grounded_proof P on stand v (grounds_of P f stand.trace) grounded f (λ g m. v.facts g ∙ selected_inside (kept_steps P f stand.trace) stand.trace g m) last.0 last.1;
        minimal = kept-minimal P on stand.trace f (kept_steps P f stand.trace) (run-traced P on order) run-kept;
      }
    where
      v : Sound P on stand
      v = run_sound P on order

      last : (0 < length (grounds_of P f stand.trace)) × ((step_at (grounds_of P f stand.trace) (length (grounds_of P f stand.trace) - 1)).fact ≡ f)
      last = ends_last f (grounds_of P f stand.trace) (kept-ends P f stand.trace (sym (v.facts f) ∙ d))
