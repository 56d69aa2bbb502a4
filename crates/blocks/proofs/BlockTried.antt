-- The lanes of a block, once they are settled: the first that fits, if one does.
use Prim.Native.Nat.{ℕ, ◌*◌, ◌/◌, ◌%◌, ◌<◌}
use native.Mathlib.Omega.{arith}
use mathlib.Core.Path.{◌≡◌, sym, ap, subst, ◌∙◌}
use mathlib.Core.List.{List}
use lib.ListN.{length}
use Rattle.theory.specs.Rule.{all, Program, FactSet}
use Rattle.theory.specs.Guesses.{unlike}
use Rattle.items.specs.Item.{narrow, max_facts, has}
use Rattle.bits.specs.Flags.{word_bits}
use Rattle.lanes.specs.Lanes.{lane_words, lane_in}
use Rattle.lanes.specs.Fit.{agrees, FirstFit}
use Rattle.std.specs.Prelude.{Option, Some, None}
use Rattle.blocks.specs.Settling.{Settled}
use Rattle.blocks.specs.Find.{lane_fits, LaneFound, Tried}

module _ {P : Program} {row outs derived : List ℕ} (s : Settled P outs derived) {answer : Option ℕ} (f : FirstFit row derived outs answer) where
  fits-is : (w t : ℕ) → w < lane_words → t < word_bits → lane_fits P row outs w t ≡ agrees row derived outs w t
  fits-is w t h l = ap (λ (S : FactSet). all (λ k. unlike (S k) (lane_in outs w t k)) row) (sym (s.least w t h l))

  pub one_tried : {marks : List ℕ} → length marks ≡ max_facts narrow → (l : ℕ) → answer ≡ Some l → ((g : ℕ) → g < max_facts narrow → has marks g ≡ lane_in derived (l / word_bits) (l % word_bits) g) → Tried P row outs (Some marks)
  one_tried {marks} size l e m = record { one_fits = λ found q. let is : marks ≡ found = cc in subst (λ (x : List ℕ). (length x ≡ max_facts narrow) × LaneFound P row outs x) is (size, lane-found); none_fits = λ q. let z : ◌≡◌ {A = ℕ} 0 1 = cc in absurd (omega arith) }
    where
      inside : l < lane_words * word_bits
      inside = f.inside l e

      w : l / word_bits < lane_words
      w = omega (arith, inside)

      t : l % word_bits < word_bits
      t = omega arith

      lane-found : LaneFound P row outs marks
      lane-found =
          record {
            word = l / word_bits;
            lane = l % word_bits;
            word_inside = w;
            lane_inside = t;
            fits = fits-is (l / word_bits) (l % word_bits) w t ∙ f.fits l e;
            none_before = λ v u a b h. fits-is v u a b ∙ f.none_before l e v u a b (omega arith);
            derives = λ g h. m g h ∙ ap (λ (S : FactSet). S g) (s.least (l / word_bits) (l % word_bits) w t);
          }

  pub none_tried : answer ≡ None → Tried P row outs None
  none_tried e = record { one_fits = λ found q. let z : ◌≡◌ {A = ℕ} 0 1 = cc in absurd (omega arith); none_fits = λ q w t h l. fits-is w t h l ∙ f.none_fits e w t h l }
