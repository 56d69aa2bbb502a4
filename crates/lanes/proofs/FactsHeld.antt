-- Facts are held out lane by lane: at the base, and as the guesses of a block say.
use Prim.Native.Nat.{ℕ, suc, ◌+◌, ◌-◌, ◌≤◌, ◌<◌}
use native.Mathlib.Decide.{ℕ_discrete}
use native.Mathlib.Omega.{arith}
use mathlib.Core.Path.{◌≡◌, refl, sym, ap, subst, ◌∙◌}
use mathlib.Core.Bool.{Bool, true, false, not}
use mathlib.Core.List.{List}
use mathlib.Core.Logic.{by_cases}
use borrow.Author.Tests.{eq-eqb, ne_eqb}
use lib.Bits.{bit_xor}
use lib.Dec.{ltb}
use lib.ListN.{length, get_or, set, replicate, length-set, length-replicate, get_or-replicate}
use lib.Seq.{get_or-set_same, get_or-set_other}
use Rattle.theory.specs.Rule.{all, mem, NoRepeat}
use Rattle.theory.specs.Guesses.{bit, unlike, fact_at}
use Rattle.theory.proofs.Bools.{never}
use Rattle.theory.proofs.Lists.{element_below}
use Rattle.theory.proofs.NumberBits.{bit-xor, bit-zero}
use Rattle.theory.proofs.Guesses.{fact-in, fact-once}
use Rattle.items.specs.Item.{narrow, max_facts, has}
use Rattle.bits.specs.Flags.{word_bits}
use Rattle.index.specs.Literal.{outside}
use Rattle.lanes.specs.Lanes.{every_lane, lane_words, lane_cells, lane_in, lane_guess, Put}
use Rattle.lanes.specs.Held.{FactHeld, BlockHeld, BaseHeld}
use Rattle.lanes.proofs.LanePatterns.{every-lane}

-- The words of one fact, as long as they are made: the lanes whose guess lacks the bit of a place.
pub record Lacking (block place : ℕ) (own : List ℕ) (w : ℕ) : Type 0 where
  pub places : length own ≡ lane_words
  pub lanes : (v t : ℕ) → v < w → t < word_bits → bit (get_or own v 0) t ≡ not (bit (lane_guess block v t) place)

pub none_lacking : (block place : ℕ) → Lacking block place (replicate lane_words 0) 0
none_lacking block place = record { places = length-replicate {A = ℕ} lane_words 0; lanes = λ v t l m. absurd (omega arith) }

-- a set bit turns another over
turned : (a b : Bool) → b ≡ true → unlike a b ≡ not a
turned true b e = ap not e
turned false b e = e

module _ {block place : ℕ} {own : List ℕ} {w : ℕ} (p : Lacking block place own w) where
  pub one_lacking : (word : ℕ) → w < lane_words → ((t : ℕ) → t < word_bits → bit word t ≡ bit (lane_guess block w t) place) → Lacking block place (set own w (bit_xor word every_lane)) (w + 1)
  one_lacking word l h =
      record {
        places = length-set own w (bit_xor word every_lane) ∙ p.places;
        lanes = λ v t m u.
            by_cases (ℕ_discrete v w)
            (λ is. rw is (ap (λ (n : ℕ). bit n t) (get_or-set_same own w (bit_xor word every_lane) 0 (omega (arith, p.places))) ∙ turns t u))
            (λ ne. ap (λ (n : ℕ). bit n t) (get_or-set_other own w v (bit_xor word every_lane) 0 ne) ∙ p.lanes v t (omega arith) u);
      }
    where
      turns : (t : ℕ) → t < word_bits → bit (bit_xor word every_lane) t ≡ not (bit (lane_guess block w t) place)
      turns t u = bit-xor t word every_lane ∙ turned (bit word t) _ (every-lane t u) ∙ ap not (h t u)

  pub all-lacking : lane_words ≤ w → {fact : ℕ} {before after : List ℕ} → Put fact own before after → FactHeld fact block place before after
  all-lacking h q =
      record { beside = q.beside; held = λ e v t l u. ap (λ (n : ℕ). bit n t) (q.given e v l) ∙ p.lanes v t (omega arith) u }

-- The facts below one are held out in every lane where they are at the base, and in none otherwise.
pub record BaseBelow (base outs : List ℕ) (fact : ℕ) : Type 0 where
  pub places : length outs ≡ lane_cells
  pub held : (k w t : ℕ) → k < fact → w < lane_words → t < word_bits → lane_in outs w t k ≡ has base (outside k)

pub none_based : (base outs : List ℕ) → length outs ≡ lane_cells → BaseBelow base outs 0
none_based base outs e = record { places = e; held = λ k w t l m u. absurd (omega arith) }

module _ {base before after : List ℕ} {fact : ℕ} (p : BaseBelow base before fact) where
  one_based : (word : ℕ) → Put fact (replicate lane_words word) before after → ((t : ℕ) → t < word_bits → bit word t ≡ has base (outside fact)) → BaseBelow base after (fact + 1)
  one_based word q h =
      record {
        places = q.beside.places ∙ p.places;
        held = λ k w t l m u.
            by_cases (ℕ_discrete k fact)
            (λ is. rw is (ap (λ (n : ℕ). bit n t) (q.given p.places w m ∙ get_or-replicate lane_words w word 0 m) ∙ h t u))
            (λ ne. ap (λ (n : ℕ). bit n t) (q.beside.others k w m ne) ∙ p.held k w t (omega arith) m u);
      }

  pub every_based : Put fact (replicate lane_words every_lane) before after → get_or base (outside fact) 0 ≡ 1 → BaseBelow base after (fact + 1)
  unfolding has
  every_based q e = one_based every_lane q (λ t u. every-lane t u ∙ sym (eq-eqb _ _ e))

  pub none_in_base : Put fact (replicate lane_words 0) before after → (get_or base (outside fact) 0 ≡ 1 → ⊥) → BaseBelow base after (fact + 1)
  unfolding has
  none_in_base q e = one_based 0 q (λ t u. bit-zero t ∙ sym (ne_eqb _ _ e))

pub all-based : {base outs : List ℕ} {fact : ℕ} → BaseBelow base outs fact → max_facts narrow ≤ fact → BaseHeld base outs
all-based p h = record { places = p.places; held = λ k w t l m u. p.held k w t (omega arith) m u }

-- The fact of a place, as the code finds it, is one of those that a file may have.
pub fact_small : (row : List ℕ) (place : ℕ) → all (λ k. ltb k (max_facts narrow)) row ≡ true → place < length row → get_or row (length row - 1 - place) 0 < max_facts narrow
fact_small row place a l =
    element_below (max_facts narrow) row (length row - 1 - place) a (omega arith)

-- The facts of the places below one are held out as the guesses say.
pub record Holding (row : List ℕ) (block : ℕ) (before after : List ℕ) (place : ℕ) : Type 0 where
  pub places : length after ≡ length before
  pub held : length before ≡ lane_cells → (j w t : ℕ) → j < place → w < lane_words → t < word_bits → lane_in after w t (fact_at row j) ≡ not (bit (lane_guess block w t) j)
  pub others : (k w t : ℕ) → mem k row ≡ false → w < lane_words → t < word_bits → lane_in after w t k ≡ lane_in before w t k

pub none_held : (row : List ℕ) (block : ℕ) (outs : List ℕ) → Holding row block outs outs 0
none_held row block outs = record { places = refl; held = λ e j w t l m u. absurd (omega arith); others = λ k w t e l u. refl }

module _ {row : List ℕ} {block : ℕ} {before after : List ℕ} {place : ℕ} (p : Holding row block before after place) where
  pub one_held : {later : List ℕ} → NoRepeat row → place < length row → FactHeld (get_or row (length row - 1 - place) 0) block place after later → Holding row block before later (place + 1)
  one_held {later} once l g =
      record {
        places = h.beside.places ∙ p.places;
        held = λ e j w t i m u.
            by_cases (ℕ_discrete j place)
            (λ is. rw is (h.held (p.places ∙ e) w t m u))
            (λ ne. ap (λ (n : ℕ). bit n t) (h.beside.others (fact_at row j) w m (λ s. ne (fact-once row j place once (omega arith) l s))) ∙ p.held e j w t (omega arith) m u);
        others = λ k w t e m u.
            ap (λ (n : ℕ). bit n t) (h.beside.others k w m (λ s. never (fact-in row place l) (subst (λ (n : ℕ). mem n row ≡ false) s e)))
            ∙ p.others k w t e m u;
      }
    where
      h : FactHeld (fact_at row place) block place after later
      h = let is : length row - 1 - place ≡ length row - suc place = omega arith in subst (λ (n : ℕ). FactHeld (get_or row n 0) block place after later) is g

  pub all_held : length row ≤ place → BlockHeld row block before after
  all_held h = record { places = p.places; held = λ e j w t l m u. p.held e j w t (omega arith) m u; others = p.others }
