-- One row of the tables while a scan fills it, the premises of all rules or their constraints: the parts of the rules before the last are whole, and
-- what is read of the last goes on with what is ahead.
use Prim.Native.Nat.{ℕ, zero, suc, ◌+◌, ◌-◌, ◌<◌, ◌≤◌}
use mathlib.Core.Path.{◌≡◌, refl, sym, ap, ap₂, ◌∙◌}
use mathlib.Core.List.{List, [], ◌∷◌, ◌++◌, append_assoc, append-nil}
use mathlib.Core.Logic.{◌⊎◌, inl, inr, ⊎_elim}
use native.Mathlib.Omega.{arith}
use borrow.Author.Tests.{ltb-true, ltb-false}
use lib.Dec.{ltb}
use Rattle.theory.proofs.Bools.{either}
use Rattle.tables.specs.Layout.{listed, span}
use Rattle.tables.proofs.Spans.{span_more, span-end}
use Rattle.reader.specs.Scanning.{Filled}

span_agree : (row row' : ℕ → ℕ) (a b : ℕ) → ((j : ℕ) → j < b → row' j ≡ row j) → span row' a b ≡ span row a b
span_agree row row' a b h = go (b - a) a (λ j l u. h j (omega arith))
  where
    go : (m a : ℕ) → ((j : ℕ) → a ≤ j → j < a + m → row' j ≡ row j) → listed row' a m ≡ listed row a m
    go zero a g = refl
    go (suc m) a g = ap₂ (λ (x : ℕ) (xs : List ℕ). x ∷ xs) (g a (omega arith) (omega arith)) (go m (suc a) (λ j l u. g j (omega arith) (omega arith)))

pub last-or_before : (i n : ℕ) → i < n + 1 → (i < n) ⊎ (i ≡ n)
last-or_before i n h = ⊎_elim (λ t. inl (ltb-true i n t)) (λ t. let over : n ≤ i = ltb-false i n t in inr (omega arith)) (either (ltb i n))

-- nothing is known of a row before the first rule
pub none_begun : (part : ℕ → List ℕ) (start row : ℕ → ℕ) {n : ℕ} (at : ℕ) (ahead : List ℕ) → n ≡ 0 → Filled part start row n at ahead
none_begun part start row at ahead none-opened =
    record {
      low = λ i h. absurd (omega arith);
      high = λ i h. absurd (omega arith);
      done = λ i h. absurd (omega arith);
      last_low = λ i h. absurd (omega arith);
      last = λ i h. absurd (omega arith);
    }

module _ {part : ℕ → List ℕ} {start row : ℕ → ℕ} {n at : ℕ} {ahead : List ℕ} (w : Filled part start row n at ahead) where
  -- a store elsewhere
  pub kept : (start' row' : ℕ → ℕ) → ((i : ℕ) → i < n → start' i ≡ start i) → ((j : ℕ) → j < at → row' j ≡ row j) → Filled part start' row' n at ahead
  kept start' row' starts rows =
      record {
        low = λ i h. rw (starts i (omega arith), starts (i + 1) h) (w.low i h);
        high = λ i h. rw (starts (i + 1) h) (w.high i h);
        done = λ i h.
            rw (starts i (omega arith), starts (i + 1) h)
            (span_agree row row' (start i) (start (i + 1)) (λ j l. rows j (omega (arith, w.high i h))) ∙ w.done i h);
        last_low = λ i h. rw (starts i (omega arith)) (w.last_low i h);
        last = λ i h.
            rw (starts i (omega arith))
            (ap (λ (xs : List ℕ). xs ++ ahead) (span_agree row row' (start i) at rows) ∙ w.last i h);
      }

  -- an item of another kind
  pub same_ahead : (ahead' : List ℕ) → ahead ≡ ahead' → Filled part start row n at ahead'
  same_ahead ahead' e = rw e at w

  -- an element of the last rule
  pub one_read : (f : ℕ) (ahead' : List ℕ) → ahead ≡ f ∷ ahead' → row at ≡ f → Filled part start row n (at + 1) ahead'
  one_read f ahead' e stored =
      record {
        low = w.low;
        high = λ i h. omega (arith, w.high i h);
        done = w.done;
        last_low = λ i h. omega (arith, w.last_low i h);
        last = λ i h.
            ap (λ (xs : List ℕ). xs ++ ahead') (span_more row (start i) at (w.last_low i h))
            ∙ append_assoc (span row (start i) at) (row at ∷ []) ahead'
            ∙ ap (λ (x : ℕ). span row (start i) at ++ (x ∷ ahead')) stored
            ∙ ap (λ (xs : List ℕ). span row (start i) at ++ xs) (sym e)
            ∙ w.last i h;
      }

  -- a rule is opened, or the last one ends
  pub next_rule : (ahead' : List ℕ) → ahead ≡ [] → start n ≡ at → part n ≡ ahead' → Filled part start row (n + 1) at ahead'
  next_rule ahead' e begins own =
      record {
        low = λ i h. ⊎_elim (λ l. w.low i l) (λ q. ends i q) (last-or_before (i + 1) n h);
        high = λ i h. ⊎_elim (λ l. w.high i l) (λ q. inside i q) (last-or_before (i + 1) n h);
        done = λ i h. ⊎_elim (λ l. w.done i l) (λ q. whole i q) (last-or_before (i + 1) n h);
        last_low = λ i h. let same : i ≡ n = omega arith in let here : start i ≡ at = ap start same ∙ begins in omega arith;
        last = λ i h. newly i (omega arith);
      }
    where
      newly : (i : ℕ) → i ≡ n → span row (start i) at ++ ahead' ≡ part i
      newly i q =
          ap (λ (a : ℕ). span row a at ++ ahead') (ap start q ∙ begins)
          ∙ (ap (λ (xs : List ℕ). xs ++ ahead') (span-end row at at (omega arith)) ∙ (sym own ∙ ap part (sym q)))

      inside : (i : ℕ) → i + 1 ≡ n → start (i + 1) ≤ at
      inside i q = let here : start (i + 1) ≡ at = ap start q ∙ begins in omega arith

      ends : (i : ℕ) → i + 1 ≡ n → start i ≤ start (i + 1)
      ends i q = let here : start (i + 1) ≡ at = ap start q ∙ begins in omega (arith, w.last_low i q)

      whole : (i : ℕ) → i + 1 ≡ n → span row (start i) (start (i + 1)) ≡ part i
      whole i q = ap (span row (start i)) (ap start q ∙ begins) ∙ (sym (append-nil (span row (start i) at)) ∙ ap (λ (xs : List ℕ). span row (start i) at ++ xs) (sym e) ∙ w.last i q)
