-- Rules written one after another.
use Rattle.std.proofs.Common.{◌≡◌, ℕ, suc, ◌+◌, ◌*◌, ◌%◌, ◌<◌, ◌≤◌, Bool, true, false, cond, eqb, List, [], ◌∷◌, ◌++◌, length, sym, refl, ap, ◌∙◌, ap₂, append_assoc, append-nil, zero-add, add-one, arith}
use Rattle.theory.specs.Rule.{up_to}
use Rattle.theory.proofs.Lists.{length-range, range-more}
use Rattle.items.specs.declared.item.Item.{Item}
use Rattle.items.specs.declared.item.Item.TheVariants.{Facts}
use Rattle.items.specs.Item.{narrow, opens_kind}
use Rattle.items.specs.Write.{bytes_of, placed, over}
use Rattle.items.proofs.ItemBytes.{bytes_append}
use Rattle.items.proofs.PlacedBytes.{placed-more, placed-length, over-more}
use Rattle.generator.specs.Draws.{increment, states, state_after, taken}
use Rattle.generator.specs.Load.{conclusion_of, first_of, second_of, rule_items, items_of}
use Rattle.generator.specs.Outcome.{load_length}
use Rattle.generator.specs.Drawing.{first_kind, second_kind, RuleWritten, RulesWritten}
use Rattle.generator.proofs.LoadRead.{two, rule-length, rules-length}

-- The bytes of a rule's two further items.
turn_bytes : (t f g : ℕ) → bytes_of narrow (two (eqb t 0) (eqb t 1) f g) ≡ (first_kind t ∷ f ∷ []) ++ (second_kind t ∷ g ∷ [])
turn_bytes t f g = go (eqb t 0) (eqb t 1)
  where
    go : (a b : Bool) → bytes_of narrow (two a b f g) ≡ (cond a 3 2 ∷ f ∷ []) ++ (cond a 3 (cond b 2 3) ∷ g ∷ [])
    go true b = refl
    go false true = refl
    go false false = refl

-- The state behind one draw more.
next-state : (start k state : ℕ) → state ≡ state_after start k → (state + increment) % states ≡ state_after start (suc k)
unfolding state_after
next-state start k state e = rw e refl

-- What is placed part after part, two bytes each.
placed-three : (a b c d e f at : ℕ) (s : List ℕ) → at + 6 ≤ length s → placed (e ∷ f ∷ []) (at + 4) (placed (c ∷ d ∷ []) (at + 2) (placed (a ∷ b ∷ []) at s)) ≡ placed ((a ∷ b ∷ []) ++ ((c ∷ d ∷ []) ++ (e ∷ f ∷ []))) at s
placed-three a b c d e f at s h =
    let first = placed (a ∷ b ∷ []) at s in
    let four : at + 4 ≡ at + 2 + 2 = omega arith in
    rw four
    (sym (placed-more (c ∷ d ∷ []) first (at + 2) (omega (arith, placed-length (a ∷ b ∷ []) s at (omega arith))) (e ∷ f ∷ []))
    ∙ sym (placed-more (a ∷ b ∷ []) s at (omega arith) ((c ∷ d ∷ []) ++ (e ∷ f ∷ []))))

module _ (start n : ℕ) where
  -- The bytes of rule i, by the table of kinds.
  rule-bytes : (i : ℕ) → bytes_of narrow (rule_items start n i) ≡ (opens_kind narrow ∷ conclusion_of start n i ∷ []) ++ ((first_kind (i % 3) ∷ first_of start n i ∷ []) ++ (second_kind (i % 3) ∷ second_of start n i ∷ []))
  unfolding rule_items
  rule-bytes i = ap (λ (bytes : List ℕ). opens_kind narrow ∷ conclusion_of start n i ∷ bytes) (turn_bytes (i % 3) (first_of start n i) (second_of start n i))

  -- What is written when i rules are.
  pub record Drawn (before : List ℕ) (state i : ℕ) (out : List ℕ) : Type 0 where
    pub state_is : state ≡ state_after start (3 * i)
    pub kept : length out ≡ length before
    pub written : RulesWritten start n i before out

  pub front_length : (i : ℕ) → length (bytes_of narrow (Facts n ∷ items_of start n (up_to i))) ≡ 2 + 6 * i
  front_length i = omega (arith, rules-length start n (up_to i), length-range 0 i)

  -- One rule more is one more at the end.
  items-append : (is js : List ℕ) → items_of start n (is ++ js) ≡ items_of start n is ++ items_of start n js
  items-append [] js = refl
  items-append (i ∷ is) js = ap (λ (l : List Item). rule_items start n i ++ l) (items-append is js) ∙ sym (append_assoc (rule_items start n i) (items_of start n is) (items_of start n js))

  items_more : (i : ℕ) → items_of start n (up_to (i + 1)) ≡ items_of start n (up_to i) ++ rule_items start n i
  items_more i =
      ap (λ (k : ℕ). items_of start n (up_to k)) (add-one i)
      ∙ ap (items_of start n) (range-more 0 i)
      ∙ items-append (up_to i) ((0 + i) ∷ [])
      ∙ ap (λ (l : List Item). items_of start n (up_to i) ++ l) (append-nil (rule_items start n (0 + i)) ∙ ap (rule_items start n) (zero-add i))

  front-more : (i : ℕ) → bytes_of narrow (Facts n ∷ items_of start n (up_to i)) ++ bytes_of narrow (rule_items start n i) ≡ bytes_of narrow (Facts n ∷ items_of start n (up_to (i + 1)))
  front-more i =
      ap (λ (bytes : List ℕ). 0x10 ∷ n ∷ bytes)
      (sym (bytes_append narrow (items_of start n (up_to i)) (rule_items start n i)) ∙ ap (bytes_of narrow) (sym (items_more i)))

  pub none_drawn : (out : List ℕ) → Drawn out start 0 out
  unfolding state_after
  none_drawn out = record { state_is = refl; kept = refl; written = λ room e. e }

  module _ {before : List ℕ} {state i : ℕ} {out : List ℕ} (d : Drawn before state i out) (m : ℕ) (h : i < m) (l : load_length m ≤ length before) where
    pub rule_fits : 2 + 6 * i + 6 ≤ length out
    rule_fits = omega (arith, d.kept)

    pub rule-drawn : (r : ℕ) (out' : List ℕ) → RuleWritten n state (i % 3) (2 + 6 * i) out r out' → Drawn before r (i + 1) out'
    rule-drawn r out' w =
        let wrote = w start i d.state_is refl in
        record {
          state_is = wrote.1 ∙ ap (λ (k : ℕ). state_after start (3 * k)) (sym (add-one i));
          kept = ap length wrote.0 ∙ placed-length (bytes_of narrow (rule_items start n i)) out (2 + 6 * i) (omega (arith, rule-length start n i, rule_fits)) ∙ d.kept;
          written = λ room e.
              wrote.0
              ∙ ap₂ (λ (k : ℕ) (s : List ℕ). placed (bytes_of narrow (rule_items start n i)) k s) (sym (front_length i)) (d.written room e)
              ∙ over-more (bytes_of narrow (Facts n ∷ items_of start n (up_to i))) (bytes_of narrow (rule_items start n i)) room
              ∙ ap (λ (bytes : List ℕ). over bytes room) (front-more i);
        }

-- The three items of a rule, each drawn and written, are the rule.
module _ (n state turn at s₁ s₂ s₃ f₁ f₂ f₃ : ℕ) (out out₁ out₂ out₃ : List ℕ) where
  pub three-written :
      s₁ ≡ (state + increment) % states → s₂ ≡ (s₁ + increment) % states → s₃ ≡ (s₂ + increment) % states
      → f₁ ≡ taken n s₁ → f₂ ≡ taken n s₂ → f₃ ≡ taken n s₃
      → at + 6 ≤ length out
      → out₁ ≡ placed (0x01 ∷ f₁ ∷ []) at out
      → out₂ ≡ placed (first_kind turn ∷ f₂ ∷ []) (at + 2) out₁
      → out₃ ≡ placed (second_kind turn ∷ f₃ ∷ []) (at + 4) out₂
      → RuleWritten n state turn at out s₃ out₃
  three-written d₁ d₂ d₃ t₁ t₂ t₃ fits w₁ w₂ w₃ start i e t =
      let b₁ : s₁ ≡ state_after start (suc (3 * i)) = d₁ ∙ next-state start (3 * i) state e in
      let b₂ : s₂ ≡ state_after start (suc (3 * i + 1)) = d₂ ∙ next-state start (3 * i + 1) s₁ (b₁ ∙ ap (state_after start) (omega arith)) in
      let b₃ : s₃ ≡ state_after start (suc (3 * i + 2)) = d₃ ∙ next-state start (3 * i + 2) s₂ (b₂ ∙ ap (state_after start) (omega arith)) in (
        rw (w₃, w₂, w₁, placed-three _ _ _ _ _ _ at out fits, t₁, t₂, t₃, b₁, b₂, b₃, t, rule-bytes start n i) refl,
        b₃ ∙ ap (state_after start) (omega arith),
      )
