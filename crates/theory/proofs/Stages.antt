-- Where a run stands after each number of stages: at which stages it takes a rule, which one, and that it comes to rest at its end.
use Prim.Native.Nat.{ℕ, zero, suc, ◌+◌, ◌≤◌, ◌<◌}
use native.Mathlib.Omega.{arith}
use native.Mathlib.Nat.{add-suc, add-zero, add_comm}
use mathlib.Core.Path.{◌≡◌, refl, sym, ◌∙◌, ap}
use mathlib.Core.Bool.{true}
use mathlib.Core.List.{List, [], ◌∷◌}
use mathlib.Core.Logic.{⊎_elim, ◌↔◌}
use mathlib.Core.Option.{Option, none, some}
use lib.ListN.{length-append}
use Rattle.theory.specs.Rule.{mem, Program, Mask, count}
use Rattle.theory.specs.Walk.{picks, after}
use Rattle.theory.specs.Run.{Stand, stage, start, first_eligible, run, stage_count}
use Rattle.theory.proofs.Bools.{never, or_right}
use Rattle.theory.proofs.Lists.{mem-here, mem-append, mem-left}
use Rattle.theory.proofs.Walk as walk
use Rattle.theory.proofs.Derive.{open_rules, open_most}
use Rattle.theory.proofs.Run.{applied_cases, picked, stage-less, run_ends}

module _ (P : Program) (on : Mask) (order : List ℕ) where
  -- one stage more, or rest
  abbrev pub onward : Stand → Stand
  onward s = elim (first_eligible P on order s) [ none ↦ s | some i ↦ stage P on s i ]

  abbrev pub stands : ℕ → Stand
  stands zero = start P on
  stands (suc n) = onward (stands n)

  pub onward-some : (s : Stand) (i : ℕ) → first_eligible P on order s ≡ some i → onward s ≡ stage P on s i
  onward-some s i e = rw (e, onward)

  pub onward-none : (s : Stand) → ◌≡◌ {A = Option ℕ} (first_eligible P on order s) none → onward s ≡ s
  onward-none s e = rw (e, onward)

  -- the end of a run that goes on from s
  unfoldable pub finish : Stand → Stand
  finish s = after (stage P on) s (picks (first_eligible P on order) (stage P on) (count P) s)

  pub run-finish : run P on order ≡ finish (start P on)
  unfolding run finish
  run-finish = refl

  pub finish-some : (s : Stand) (i : ℕ) → first_eligible P on order s ≡ some i → finish s ≡ finish (stage P on s i)
  unfolding finish
  finish-some s i e =
      ap (after (stage P on) s)
      (walk.picks_first (first_eligible P on order) (stage P on) (λ _. Unit {0}) (λ t. open_rules P t.derived) (λ t j _ h. (tt, stage-less P on order t j (picked P on order t j h))) (count P) s i tt (open_most P s.derived) e)

  pub finish-none : (s : Stand) → ◌≡◌ {A = Option ℕ} (first_eligible P on order s) none → finish s ≡ s
  unfolding finish
  finish-none s e =
      ap (after (stage P on) s) (walk.picks-none (first_eligible P on order) (stage P on) (count P) s e)

  abbrev from : Stand → ℕ → Stand
  from s zero = s
  from s (suc n) = from (onward s) n

  from_suc : (n : ℕ) (s : Stand) → from s (suc n) ≡ onward (from s n)
  from_suc zero s = refl
  from_suc (suc n) s = from_suc n (onward s)

  stands_from : (n : ℕ) → stands n ≡ from (start P on) n
  stands_from zero = refl
  stands_from (suc n) = ap onward (stands_from n) ∙ sym (from_suc n (start P on))

  rests : (n : ℕ) (s : Stand) → ◌≡◌ {A = Option ℕ} (first_eligible P on order s) none → from s n ≡ s
  rests zero s e = refl
  rests (suc n) s e = ap (λ t. from t n) (onward-none s e) ∙ rests n s e

  after-picks : (n : ℕ) (s : Stand) → after (stage P on) s (picks (first_eligible P on order) (stage P on) n s) ≡ from s n
  after-picks zero s = refl
  after-picks (suc n) s = go (first_eligible P on order s) refl (after-picks n)
    where
      go : (o : Option ℕ) → first_eligible P on order s ≡ o → ((t : Stand) → after (stage P on) t (picks (first_eligible P on order) (stage P on) n t) ≡ from t n) → after (stage P on) s (picks (first_eligible P on order) (stage P on) (suc n) s) ≡ from (onward s) n
      go none e r = rw (walk.picks-none (first_eligible P on order) (stage P on) (suc n) s e, onward-none s e) (sym (rests n s e))
      go (some i) e r = rw (walk.picks-some (first_eligible P on order) (stage P on) n s i e, onward-some s i e) (r (stage P on s i))

  -- the run stands at its end after as many stages as there are rules, and from then on
  pub run-stands : run P on order ≡ stands (count P)
  unfolding run
  run-stands = after-picks (count P) (start P on) ∙ sym (stands_from (count P))

  pub stands-rest : (k : ℕ) → stands (count P + k) ≡ run P on order
  stands-rest zero = rw (add-zero (count P)) (sym run-stands)
  stands-rest (suc k) =
      rw (add-suc (count P) k) (ap onward (stands-rest k) ∙ onward-none (run P on order) (run_ends P on order))

  -- each stage keeps what the stages before derived, and the rules that they applied
  pub onward-keeps : (Kept : Stand → Type 0) → ((s : Stand) (i : ℕ) → Kept s → Kept (stage P on s i)) → (s : Stand) → Kept s → Kept (onward s)
  onward-keeps Kept h s t = go (first_eligible P on order s) refl
    where
      go : (o : Option ℕ) → first_eligible P on order s ≡ o → Kept (onward s)
      go none e = rw (onward-none s e) t
      go (some i) e = rw (onward-some s i e) (h s i t)

  stands-more : (Kept : Stand → Type 0) → ((s : Stand) (i : ℕ) → Kept s → Kept (stage P on s i)) → (n k : ℕ) → Kept (stands n) → Kept (stands (n + k))
  stands-more Kept h n zero t = rw (add-zero n) t
  stands-more Kept h n (suc k) t = rw (add-suc n k) (onward-keeps Kept h (stands (n + k)) (stands-more Kept h n k t))

  -- what each stage keeps, once it holds, holds at the end
  pub stands-end : (Kept : Stand → Type 0) → ((s : Stand) (i : ℕ) → Kept s → Kept (stage P on s i)) → (n : ℕ) → Kept (stands n) → Kept (run P on order)
  stands-end Kept h n t = rw (← stands-rest n, add_comm (count P) n) (stands-more Kept h n (count P) t)

  -- where no rule is taken the run has ended
  rest-stands : (n k : ℕ) → ◌≡◌ {A = Option ℕ} (first_eligible P on order (stands n)) none → stands (n + k) ≡ stands n
  rest-stands n zero e = rw (add-zero n) refl
  rest-stands n (suc k) e = rw (add-suc n k) (ap onward (rest-stands n k e) ∙ onward-none (stands n) e)

  pub rest-ends : (n : ℕ) → ◌≡◌ {A = Option ℕ} (first_eligible P on order (stands n)) none → run P on order ≡ stands n
  rest-ends n e = sym (stands-rest n) ∙ (rw (add_comm (count P) n) (rest-stands n (count P) e))

  stage-length : (s : Stand) (i : ℕ) → stage_count (stage P on s i) ≡ stage_count s + 1
  stage-length s i = length-append s.applied (i ∷ [])

  -- there are at most as many rules applied as stages
  stands-most : (n : ℕ) → stage_count (stands n) ≤ n
  stands-most zero = omega arith
  stands-most (suc n) = go (first_eligible P on order (stands n)) refl (stands-most n)
    where
      go : (o : Option ℕ) → first_eligible P on order (stands n) ≡ o → stage_count (stands n) ≤ n → stage_count (onward (stands n)) ≤ suc n
      go none e r = rw (onward-none (stands n) e) (omega arith)
      go (some i) e r =
          let l : stage_count (stage P on (stands n) i) ≡ stage_count (stands n) + 1 = stage-length (stands n) i in
          rw (onward-some (stands n) i e) (omega arith)

  -- and just as many where the run goes on
  pub stands-all : (n c : ℕ) → first_eligible P on order (stands n) ≡ some c → stage_count (stands n) ≡ n
  stands-all zero c h = refl
  stands-all (suc n) c h = go (first_eligible P on order (stands n)) refl (stands-all n)
    where
      go : (o : Option ℕ) → first_eligible P on order (stands n) ≡ o → ((d : ℕ) → first_eligible P on order (stands n) ≡ some d → stage_count (stands n) ≡ n) → stage_count (onward (stands n)) ≡ suc n
      go none e r =
          let z : ◌≡◌ {A = Option ℕ} none (some c) = sym e ∙ (ap (first_eligible P on order) (sym (onward-none (stands n) e)) ∙ h) in
          let w : ◌≡◌ {A = ℕ} 0 1 = cc in
          absurd (omega arith)
      go (some i) e r =
          let l : stage_count (stage P on (stands n) i) ≡ stage_count (stands n) + 1 = stage-length (stands n) i in
          let k : stage_count (stands n) ≡ n = r i e in
          rw (onward-some (stands n) i e) (omega arith)

  -- A rule is taken at exactly the first stages, as many as the run counts.
  pub stands-taken : (n : ℕ) → (n < stage_count (run P on order)) ↔ ((c : ℕ) × (first_eligible P on order (stands n) ≡ some c))
  stands-taken n = (λ l. into l (first_eligible P on order (stands n)) refl, back)
    where
      into : n < stage_count (run P on order) → (o : Option ℕ) → first_eligible P on order (stands n) ≡ o → (c : ℕ) × (first_eligible P on order (stands n) ≡ some c)
      into l none e =
          let m : stage_count (stands n) ≤ n = stands-most n in
          let r : n < stage_count (stands n) = rw (rest-ends n e) at l in
          absurd (omega arith)
      into l (some c) e = (c, e)

      back : (c : ℕ) × (first_eligible P on order (stands n) ≡ some c) → n < stage_count (run P on order)
      back t =
          stands-end (λ s. n < stage_count s)
          (λ s i l. let m : stage_count (stage P on s i) ≡ stage_count s + 1 = stage-length s i in omega arith)
          (suc n) (rw (onward-some (stands n) t.0 t.1) next)
        where
          next : n < stage_count (stage P on (stands n) t.0)
          next =
              let l : stage_count (stage P on (stands n) t.0) ≡ stage_count (stands n) + 1 = stage-length (stands n) t.0 in
              let a : stage_count (stands n) ≡ n = stands-all n t.0 t.1 in
              omega arith

  -- The rules applied are those taken at some stage.
  pub stands-applied : (c : ℕ) → (mem c (run P on order).applied ≡ true) ↔ ((n : ℕ) × (first_eligible P on order (stands n) ≡ some c))
  stands-applied c = (
    λ m. by_then (count P) (rw run-stands at m),
    λ t. stands-end (λ s. mem c s.applied ≡ true) (λ s i m. mem-left c s.applied (i ∷ []) m) (suc t.0) (rw (onward-some (stands t.0) c t.1) (added (stands t.0))),
  )
    where
      by_then : (n : ℕ) → mem c (stands n).applied ≡ true → (m : ℕ) × (first_eligible P on order (stands m) ≡ some c)
      by_then zero m = never m refl
      by_then (suc n) m = go (first_eligible P on order (stands n)) refl (by_then n)
        where
          go : (o : Option ℕ) → first_eligible P on order (stands n) ≡ o → (mem c (stands n).applied ≡ true → (k : ℕ) × (first_eligible P on order (stands k) ≡ some c)) → (k : ℕ) × (first_eligible P on order (stands k) ≡ some c)
          go none e r = r (rw (onward-none (stands n) e) at m)
          go (some i) e r =
              ⊎_elim r (λ q. (n, e ∙ ap some (sym q)))
              (applied_cases P on (stands n).applied i c (rw (onward-some (stands n) i e) at m))

      added : (s : Stand) → mem c (stage P on s c).applied ≡ true
      added s = mem-append c s.applied (c ∷ []) ∙ or_right (mem c s.applied) _ (mem-here c [])
