-- How many literals pass a test, and how many of a rule's body are still missing.
use Prim.Native.Nat.{ℕ, ◌+◌, ◌<◌, ◌≤◌}
use mathlib.Core.Path.{◌≡◌, ap, fun_ext}
use mathlib.Core.Bool.{Bool, true, false}
use Rattle.theory.specs.Rule.{mem, how_many, up_to, adjoin, Program, rule}
use Rattle.theory.proofs.Lists.{up_to-mem}
use Rattle.theory.proofs.Counted.{counted_none, none_counted, counted_below, counted_most, counted_more, listed-fewer, unlisted-same}
use Rattle.index.specs.Literal.{literals, body, literal_count, lacks, lacking}

pub count_same : (p q : ℕ → Bool) → ((l : ℕ) → p l ≡ q l) → literal_count p ≡ literal_count q
count_same p q e = ap literal_count (fun_ext e)

-- One literal more.
pub count-more : (p : ℕ → Bool) (l : ℕ) → l < literals → p l ≡ false → literal_count (adjoin p l) ≡ literal_count p + 1
unfolding literal_count
count-more p l h f = counted_more p literals l h f

pub count_most : (p : ℕ → Bool) → literal_count p ≤ literals
unfolding literal_count
count_most p = counted_most p literals

pub count_room : (p : ℕ → Bool) (l : ℕ) → l < literals → p l ≡ false → literal_count p < literals
unfolding literal_count
count_room p l h f = counted_below p literals l h f

-- Where none is missing, every literal of the body is true.
pub none_lacking : (P : Program) (yet : ℕ → Bool) (i : ℕ) → lacking P yet i ≡ 0 → (l : ℕ) → l < literals → lacks P yet i l ≡ false
unfolding literal_count
none_lacking P yet i e l h = go literals h e
  where
    go : (n : ℕ) → l < n → how_many (lacks P yet i) (up_to n) ≡ 0 → lacks P yet i l ≡ false
    go n k z = counted_none (lacks P yet i) (up_to n) z l (up_to-mem n l k)

pub lacking-none : (P : Program) (yet : ℕ → Bool) (i : ℕ) → ((l : ℕ) → lacks P yet i l ≡ false) → lacking P yet i ≡ 0
unfolding literal_count
lacking-none P yet i e = go literals
  where
    go : (n : ℕ) → how_many (lacks P yet i) (up_to n) ≡ 0
    go n = none_counted (lacks P yet i) (up_to n) (λ x m. e x)

-- A literal that was missing and is true now is one fewer where the body has it, and changes nothing elsewhere.
module _ (P : Program) (yet : ℕ → Bool) (l : ℕ) (f : yet l ≡ false) (i : ℕ) where
  pub asked-lacking : l < literals → mem l (body (rule P i)) ≡ true → lacking P yet i ≡ lacking P (adjoin yet l) i + 1
  unfolding literal_count
  asked-lacking h m = listed-fewer (body (rule P i)) yet l f literals h m

  pub unasked_lacking : mem l (body (rule P i)) ≡ false → lacking P yet i ≡ lacking P (adjoin yet l) i
  unasked_lacking m = count_same _ _ (unlisted-same (body (rule P i)) yet l f m)
