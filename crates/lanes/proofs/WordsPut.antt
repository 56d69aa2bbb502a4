-- A fact is given its words one after the other.
use Prim.Native.Nat.{ℕ, ◌+◌, ◌*◌, ◌≤◌, ◌<◌}
use mathlib.Core.Path.{◌≡◌, refl, ◌∙◌}
use mathlib.Core.List.{List}
use mathlib.Core.Logic.{by_cases}
use native.Mathlib.Decide.{ℕ_discrete}
use native.Mathlib.Omega.{arith}
use lib.ListN.{length, get_or, set, length-set}
use lib.Seq.{get_or-set_same, get_or-set_other}
use Rattle.items.specs.Item.{narrow, max_facts}
use Rattle.lanes.specs.Lanes.{lane_words, lane_cells, word_of, Beside, Put}

-- The words below one are given.
pub record Putting (fact : ℕ) (own before after : List ℕ) (w : ℕ) : Type 0 where
  pub beside : Beside fact before after
  pub given : length before ≡ lane_cells → (v : ℕ) → v < w → word_of after fact v ≡ get_or own v 0

pub none_put : (fact : ℕ) (own words : List ℕ) → Putting fact own words words 0
none_put fact own words =
    record { beside = record { places = refl; others = λ f w l ne. refl }; given = λ e v l. absurd (omega arith) }

module _ {fact : ℕ} {own before after : List ℕ} {w : ℕ} (p : Putting fact own before after w) where
  abbrev at : ℕ
  at = fact * lane_words + w

  abbrev own-word : ℕ
  own-word = get_or own w 0

  pub one_put : fact < max_facts narrow → w < lane_words → Putting fact own before (set after at own-word) (w + 1)
  one_put small l =
      record {
        beside =
            record {
              places = length-set after at own-word ∙ p.beside.places;
              others = λ f v m ne. get_or-set_other after at (f * lane_words + v) own-word 0 (λ e. ne (omega arith)) ∙ p.beside.others f v m ne;
            };
        given = λ e v m.
            by_cases (ℕ_discrete v w)
            (λ is. rw is (get_or-set_same after at own-word 0 (omega (arith, p.beside.places))))
            (λ ne. get_or-set_other after at (fact * lane_words + v) own-word 0 (λ q. ne (omega arith)) ∙ p.given e v (omega arith));
      }

  pub all-put : lane_words ≤ w → Put fact own before after
  all-put h = record { beside = p.beside; given = λ e v l. p.given e v (omega arith) }
