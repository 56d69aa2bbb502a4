-- Laws of a walk: what each act keeps holds at its end, and with enough turns nothing is picked there.
use Prim.Native.Nat.{ℕ, zero, suc, ◌≤◌, ◌<◌}
use native.Mathlib.Omega.{arith}
use mathlib.Core.Path.{◌≡◌, refl, sym, ap, ◌∙◌}
use mathlib.Core.List.{List, [], ◌∷◌}
use mathlib.Core.Option.{Option, none, some}
use Rattle.theory.specs.Walk.{picks, after}

module _ {State : Type 0} (pick : State → Option ℕ) (act : State → ℕ → State) where
  pub picks-some : (n : ℕ) (s : State) (i : ℕ) → pick s ≡ some i → picks pick act (suc n) s ≡ i ∷ picks pick act n (act s i)
  picks-some n s i e = rw (e, picks)

  pub picks-none : (n : ℕ) (s : State) → ◌≡◌ {A = Option ℕ} (pick s) none → ◌≡◌ {A = List ℕ} (picks pick act n s) []
  picks-none zero s e = refl
  picks-none (suc n) s e = rw (e, picks)

  pub kept : (Inv : State → Type 0) → ((s : State) (i : ℕ) → Inv s → pick s ≡ some i → Inv (act s i)) → (n : ℕ) (s : State) → Inv s → Inv (after act s (picks pick act n s))
  kept Inv step zero s v = v
  kept Inv step (suc n) s v = go (pick s) refl (kept Inv step n)
    where
      go : (o : Option ℕ) → pick s ≡ o → ((t : State) → Inv t → Inv (after act t (picks pick act n t))) → Inv (after act s (picks pick act (suc n) s))
      go none e r = rw (picks-none (suc n) s e) v
      go (some i) e r = rw (picks-some n s i e) (r (act s i) (step s i v e))

  -- under an invariant, with a measure that each act lowers
  pub ends : (Inv : State → Type 0) (μ : State → ℕ) → ((s : State) (i : ℕ) → Inv s → pick s ≡ some i → Inv (act s i) × (μ (act s i) < μ s)) → (n : ℕ) (s : State) → Inv s → μ s ≤ n → ◌≡◌ {A = Option ℕ} (pick (after act s (picks pick act n s))) none
  ends Inv μ step zero s v l = go (pick s) refl
    where
      go : (o : Option ℕ) → pick s ≡ o → ◌≡◌ {A = Option ℕ} (pick s) none
      go none e = e
      go (some i) e = let t : μ (act s i) < μ s = (step s i v e).1 in absurd (omega arith)
  ends Inv μ step (suc n) s v l = go (pick s) refl (ends Inv μ step n)
    where
      go : (o : Option ℕ) → pick s ≡ o → ((t : State) → Inv t → μ t ≤ n → ◌≡◌ {A = Option ℕ} (pick (after act t (picks pick act n t))) none) → ◌≡◌ {A = Option ℕ} (pick (after act s (picks pick act (suc n) s))) none
      go none e r = rw (picks-none (suc n) s e) e
      go (some i) e r =
          let t : μ (act s i) < μ s = (step s i v e).1 in
          rw (picks-some n s i e) (r (act s i) (step s i v e).0 (omega arith))

  -- more turns than the measure change nothing
  pub picks-enough : (Inv : State → Type 0) (μ : State → ℕ) → ((s : State) (i : ℕ) → Inv s → pick s ≡ some i → Inv (act s i) × (μ (act s i) < μ s)) → (n m : ℕ) (s : State) → Inv s → μ s ≤ n → μ s ≤ m → picks pick act n s ≡ picks pick act m s
  picks-enough Inv μ step zero m s v l k = sym (picks-none m s (ends Inv μ step zero s v l))
  picks-enough Inv μ step (suc n) zero s v l k = picks-none (suc n) s (ends Inv μ step zero s v k)
  picks-enough Inv μ step (suc n) (suc m) s v l k = go (pick s) refl (picks-enough Inv μ step n m)
    where
      go : (o : Option ℕ) → pick s ≡ o → ((t : State) → Inv t → μ t ≤ n → μ t ≤ m → picks pick act n t ≡ picks pick act m t) → picks pick act (suc n) s ≡ picks pick act (suc m) s
      go none e r = picks-none (suc n) s e ∙ sym (picks-none (suc m) s e)
      go (some i) e r =
          let t : μ (act s i) < μ s = (step s i v e).1 in
          picks-some n s i e
          ∙ (ap (λ is. i ∷ is) (r (act s i) (step s i v e).0 (omega arith) (omega arith)) ∙ sym (picks-some m s i e))

  -- with turns for the measure, the first pick and then the walk from there
  pub picks_first : (Inv : State → Type 0) (μ : State → ℕ) → ((s : State) (i : ℕ) → Inv s → pick s ≡ some i → Inv (act s i) × (μ (act s i) < μ s)) → (n : ℕ) (s : State) (i : ℕ) → Inv s → μ s ≤ n → pick s ≡ some i → picks pick act n s ≡ i ∷ picks pick act n (act s i)
  picks_first Inv μ step n s i v l e =
      let t : μ (act s i) < μ s = (step s i v e).1 in
      picks-enough Inv μ step n (suc n) s v l (omega arith) ∙ picks-some n s i e

-- Two walks whose picks and acts agree wherever the first one comes make the same picks and end in the same state.
module _ {State : Type 0} (pick pick' : State → Option ℕ) (act act' : State → ℕ → State) (Inv : State → Type 0) (same-pick : (s : State) → Inv s → pick s ≡ pick' s) (same-act : (s : State) (i : ℕ) → Inv s → pick s ≡ some i → (act s i ≡ act' s i) × Inv (act s i)) where
  pub picks-same : (n : ℕ) (s : State) → Inv s → picks pick act n s ≡ picks pick' act' n s
  picks-same zero s v = refl
  picks-same (suc n) s v = go (pick s) refl (picks-same n)
    where
      go : (o : Option ℕ) → pick s ≡ o → ((t : State) → Inv t → picks pick act n t ≡ picks pick' act' n t) → picks pick act (suc n) s ≡ picks pick' act' (suc n) s
      go none e r = picks-none pick act (suc n) s e ∙ sym (picks-none pick' act' (suc n) s (sym (same-pick s v) ∙ e))
      go (some i) e r =
          let (a, w) = same-act s i v e in
          picks-some pick act n s i e
          ∙ (ap (λ is. i ∷ is) (r (act s i) w ∙ ap (picks pick' act' n) a)
          ∙ sym (picks-some pick' act' n s i (sym (same-pick s v) ∙ e)))

  pub ends_same : (n : ℕ) (s : State) → Inv s → after act s (picks pick act n s) ≡ after act' s (picks pick' act' n s)
  ends_same zero s v = refl
  ends_same (suc n) s v = go (pick s) refl (ends_same n)
    where
      go : (o : Option ℕ) → pick s ≡ o → ((t : State) → Inv t → after act t (picks pick act n t) ≡ after act' t (picks pick' act' n t)) → after act s (picks pick act (suc n) s) ≡ after act' s (picks pick' act' (suc n) s)
      go none e r = rw (picks-none pick act (suc n) s e, picks-none pick' act' (suc n) s (sym (same-pick s v) ∙ e)) refl
      go (some i) e r =
          let (a, w) = same-act s i v e in
          let there : after act' (act s i) (picks pick' act' n (act s i)) ≡ after act' (act' s i) (picks pick' act' n (act' s i)) = ap (λ t. after act' t (picks pick' act' n t)) a in
          rw (picks-some pick act n s i e, picks-some pick' act' n s i (sym (same-pick s v) ∙ e)) (r (act s i) w ∙ there)
