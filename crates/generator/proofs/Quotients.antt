-- What a draw takes. A division by a small number is a product: with the factor 2^32 / n + 1 the quotient of a number below 65,536 stands above 2^32.
use Rattle.std.proofs.Common.{◌≡◌, ℕ, ◌+◌, ◌-◌, ◌*◌, ◌/◌, ◌%◌, ◌<◌, ◌≤◌, sym, ap, ◌∙◌, mul-le-mul_right, mod-lt, mul_assoc, mul_comm, add-mul, mul-le-mul, mul-le-mul_left, le-div_iff_mul-le, mul-one, mul-add, div-le_self, div-mul-le_self, arith}
use native.Mathlib.Nat.{div-add-mod, mod-eq-sub-div-mul}
use Rattle.generator.specs.Draws.{states, divisor, taken, draw}
use Rattle.generator.specs.Outcome.{most_facts}
use Rattle.generator.specs.declared.draw.Modulus.{Modulus}
use Rattle.generator.specs.Drawing.{Divides}

-- The product, by the quotients and the remainders of both: x is n q + r, and s is n w + t.
product : (x n q r w s t : ℕ) → n * q + r ≡ x → n * w + t ≡ s → x * (w + 1) + q * t ≡ q * s + (r * w + x)
product x n q r w s t ex es =
    let a : x * (w + 1) ≡ x * w + x = mul-add x w 1 ∙ ap (λ (y : ℕ). x * w + y) (mul-one x) in
    let b : x * w ≡ n * q * w + r * w = ap (λ (y : ℕ). y * w) (sym ex) ∙ add-mul (n * q) r w in
    let c : n * q * w ≡ q * (n * w) = ap (λ (y : ℕ). y * w) (mul_comm n q) ∙ mul_assoc q n w in
    let d : q * s ≡ q * (n * w) + q * t = ap (λ (y : ℕ). q * y) (sym es) ∙ mul-add q (n * w) t in
    omega arith

module _ (x n : ℕ) (small : x < divisor) (some : 0 < n) (few : n ≤ most_facts) where
  -- the factor is above x
  wide : divisor ≤ states / n
  wide = (le-div_iff_mul-le some).1 (omega arith)

  pub quotient : x * (states / n + 1) / states ≡ x / n
  quotient =
      let p = product x n (x / n) (x % n) (states / n) states (states % n) (div-add-mod x n) (div-add-mod states n) in
      -- not below: what is too much in q s is at most x
      let low : x / n * (states % n) ≤ x / n * n = mul-le-mul_left (x / n) (omega (arith, mod-lt states some)) in
      let all : x / n * n ≤ x = div-mul-le_self x n in
      -- and not above: what is left is below s
      let high : (x % n + 1) * (states / n) ≤ n * (states / n) = mul-le-mul_right (states / n) (omega (arith, mod-lt x some)) in
      let one : (x % n + 1) * (states / n) ≡ x % n * (states / n) + 1 * (states / n) = add-mul (x % n) 1 (states / n) in
      omega (arith, wide, div-add-mod states n)

-- What is taken of a state, by the product; x is its high half.
module _ (state : ℕ) (by : Modulus) (fits : state < states) (d : Divides by) where
  abbrev x : ℕ
  x = state / divisor

  abbrev n : ℕ
  n = by.facts

  small : x < divisor
  small = omega arith

  pub product_fits : x * by.inverse < states * states
  product_fits =
      let few-times : x * by.inverse ≤ divisor * (states + 1) = mul-le-mul {n₁ = x} {m₁ = by.inverse} {n₂ = divisor} {m₂ = states + 1} (omega (arith, small)) (omega (arith, d.inverse, div-le_self states n)) in
      omega arith

  pub quotient_is : x * by.inverse / states ≡ x / n
  quotient_is = rw d.inverse (quotient x n small d.some d.few)

  pub quotient_small : x * by.inverse / states ≤ x
  quotient_small = omega (arith, quotient_is, div-le_self x n)

  pub back_below : x * by.inverse / states * n ≤ x
  back_below = rw quotient_is (div-mul-le_self x n)

  pub takes : x - x * by.inverse / states * n ≡ taken n state
  unfolding taken
  takes = rw quotient_is (sym (mod-eq-sub-div-mul x n))

  pub takes_below : x - x * by.inverse / states * n < n
  unfolding taken
  takes_below = rw takes (mod-lt x d.some)

-- What a draw takes is a fact.
pub draw-below : (start n : ℕ) → 0 < n → (k : ℕ) → draw start n k < n
unfolding taken
draw-below start n some k = mod-lt _ some
