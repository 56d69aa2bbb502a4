-- Rules are indexed, place by place.
use Prim.Native.Nat.{ℕ, ◌+◌, ◌≤◌, ◌<◌}
use mathlib.Core.Path.{◌≡◌, refl, sym, ap, ap₂, subst, ◌∙◌, fun_ext}
use mathlib.Core.Bool.{Bool, true, false, ◌&&◌, ◌||◌, true≢false}
use mathlib.Core.List.{List}
use mathlib.Core.Logic.{⊎_elim}
use native.Mathlib.Omega.{arith}
use borrow.Author.Tests.{eqb-true, eqb-false, le-ltb}
use lib.ListN.{length, get_or, set, replicate, length-set}
use lib.Seq.{get_or-set_same, get_or-set_other}
use lib.Dec.{eqb, ltb}
use Rattle.theory.specs.Rule.{all, mem, up_to, nothing, adjoin, Program, rule}
use Rattle.theory.specs.Conditions.{Bounded}
use Rattle.theory.proofs.Bools.{either, false_of, and-true, or-none}
use Rattle.theory.proofs.Lists.{eqb-self, how_many-ext, below_more, here_not, here_now}
use Rattle.items.specs.Item.{narrow, max_facts, max_rules}
use Rattle.bits.specs.Flags.{row_words, Flags}
use Rattle.bits.specs.Matrix.{matrix_words, Matrix}
use Rattle.bits.proofs.EmptyRows.{empty-row, empty-matrix}
use Rattle.premises.specs.Premises.{Places, premises_at, asks_at, lacks, lacking, ripe}
use Rattle.premises.specs.Filling.{Blank, adjoin_each, Entered, first_places, Indexing}
use Rattle.premises.proofs.PremisesCounted.{lacks_none, none_lacks}

-- a test on the places below n that are taken, and on one place more
taken_more : (n k : ℕ) (a t : Bool) → eqb k n ≡ false → ltb k n && a && t ≡ ltb k (n + 1) && a && t
taken_more n k a t e = ap (λ (b : Bool). b && t) (below_more n k a e)

not_taken : (n : ℕ) (a t : Bool) → ltb n n && a && t ≡ false
not_taken n a t = ap (λ (b : Bool). b && t) (here_not n a)

now_taken : (n : ℕ) (a t : Bool) → ltb n (n + 1) && a && t ≡ a && t
now_taken n a t = ap (λ (b : Bool). b && t) (here_now n a)

pub none_indexed : (P : Program) (R : Places) {asks missing awake : List ℕ} → Blank asks missing awake → Indexing P R 0 asks missing awake
none_indexed P R {asks} {missing} {awake} b =
    record {
      asked = subst (λ (q : ℕ → ℕ → Bool). Matrix (max_facts narrow) q asks) (fun_ext (λ f. fun_ext (λ k. sym (none k (R.taken k) (mem f (premises_at P R k)))))) b.none_asked;
      places = b.rule_places;
      counts = λ k h. absurd (omega arith);
      woken = subst (λ (p : ℕ → Bool). Flags p awake) (fun_ext (λ k. sym (none k (R.taken k) (all nothing (premises_at P R k))))) b.none_awake;
    }
  where
    none : (k : ℕ) (a t : Bool) → ltb k 0 && a && t ≡ false
    none k a t = ap (λ (b : Bool). b && a && t) (le-ltb k 0 (omega arith))

-- Words that are all 0 are an empty index.
pub zeros_blank : (n : ℕ) → matrix_words ≤ n → (missing : List ℕ) → length missing ≡ max_rules → Blank (replicate n 0) missing (replicate row_words 0)
zeros_blank n h missing l =
    record { none_asked = empty-matrix (max_facts narrow) n h (λ f k. false) (λ f k. refl); rule_places = l; none_awake = empty-row nothing (λ k. refl) }

-- The premises marked are those of the rule that has the place.
pub at-holder : (P : Program) (R : Places) {n i keys bound : ℕ} {q : ℕ → ℕ → Bool} {asks : List ℕ} {distinct : ℕ} → R.holder n ≡ i → Entered keys bound q n (rule P i).premises asks distinct → Entered keys bound q n (premises_at P R n) asks distinct
at-holder P R {n} {i} {keys} {bound} {q} {asks} {distinct} e = subst (λ (j : ℕ). Entered keys bound q n (rule P j).premises asks distinct) (sym e)

module _ {P : Program} {R : Places} {asks missing awake : List ℕ} {n : ℕ} (w : Indexing P R n asks missing awake) where
  -- The place has no rule.
  pub place_passed : R.taken n ≡ false → Indexing P R (n + 1) asks missing awake
  place_passed free =
      record {
        asked = subst (λ (q : ℕ → ℕ → Bool). Matrix (max_facts narrow) q asks) (fun_ext (λ f. fun_ext (λ k. same k (λ j. mem f (premises_at P R j))))) w.asked;
        places = w.places;
        counts = λ k h t. ⊎_elim (λ e. let is : k ≡ n = eqb-true k n e in absurd (true≢false (sym t ∙ ap R.taken is ∙ free))) (λ e. let ne : k ≡ n → ⊥ = eqb-false k n e in w.counts k (omega arith) t) (either (eqb k n));
        woken = subst (λ (p : ℕ → Bool). Flags p awake) (fun_ext (λ k. same k (λ j. all nothing (premises_at P R j)))) w.woken;
      }
    where
      same : (k : ℕ) (t : ℕ → Bool) → ltb k n && R.taken k && t k ≡ ltb k (n + 1) && R.taken k && t k
      same k t = ⊎_elim (λ e. let is : k ≡ n = eqb-true k n e in rw is (not_taken n (R.taken n) (t n) ∙ sym (now_taken n (R.taken n) (t n) ∙ ap (λ (b : Bool). b && t n) free))) (λ e. taken_more n k (R.taken k) (t k) e) (either (eqb k n))

  module _ (b : Bounded P) (small : n < max_rules) (taken : R.taken n ≡ true) where
    here_taken : (t : Bool) → ltb n (n + 1) && R.taken n && t ≡ t
    here_taken t = now_taken n (R.taken n) t ∙ ap (λ (b : Bool). b && t) taken

    asks'_are : (f k : ℕ) → adjoin_each (asks_at P (first_places R n)) n (premises_at P R n) f k ≡ asks_at P (first_places R (n + 1)) f k
    asks'_are f k = ⊎_elim (λ e. let is : k ≡ n = eqb-true k n e in rw is here) (λ e. ap (λ (t : Bool). mem f (premises_at P R n) && t || asks_at P (first_places R n) f k) e ∙ no (mem f (premises_at P R n)) (asks_at P (first_places R n) f k) ∙ taken_more n k (R.taken k) (mem f (premises_at P R k)) e) (either (eqb k n))
      where
        no : (a c : Bool) → a && false || c ≡ c
        no true c = refl
        no false c = refl

        here : adjoin_each (asks_at P (first_places R n)) n (premises_at P R n) f n ≡ asks_at P (first_places R (n + 1)) f n
        here =
            ap₂ (λ (s t : Bool). mem f (premises_at P R n) && s || t) (eqb-self n) (not_taken n (R.taken n) (mem f (premises_at P R n)))
            ∙ or-none (mem f (premises_at P R n) && true) ∙ and-true (mem f (premises_at P R n)) ∙ sym (here_taken (mem f (premises_at P R n)))

    -- the place is free
    pub none_there : (f : ℕ) → asks_at P (first_places R n) f n ≡ false
    none_there f = not_taken n (R.taken n) (mem f (premises_at P R n))

    module _ {asks' : List ℕ} {distinct : ℕ} (entered : Entered (max_facts narrow) P.facts (asks_at P (first_places R n)) n (premises_at P R n) asks' distinct) where
      distinct_is : distinct ≡ lacking P R nothing n
      distinct_is = entered.counted ∙ how_many-ext (λ f. mem f (premises_at P R n)) (lacks P R nothing n) (up_to P.facts) (λ f _. sym (and-true (mem f (premises_at P R n))))

      counts' : (k : ℕ) → k < n + 1 → R.taken k ≡ true → get_or (set missing n distinct) k 0 ≡ lacking P R nothing k
      counts' k h t =
          ⊎_elim
          (λ e. let is : k ≡ n = eqb-true k n e in rw is (get_or-set_same missing n distinct 0 (omega (arith, w.places)) ∙ distinct_is))
          (λ e. let ne : k ≡ n → ⊥ = eqb-false k n e in get_or-set_other missing n k distinct 0 ne ∙ w.counts k (omega arith) t)
          (either (eqb k n))

      next : (awake' : List ℕ) → Flags (ripe P (first_places R (n + 1)) nothing) awake' → Indexing P R (n + 1) asks' (set missing n distinct) awake'
      next awake' f =
          record {
            asked = subst (λ (q : ℕ → ℕ → Bool). Matrix (max_facts narrow) q asks') (fun_ext (λ f. fun_ext (λ k. asks'_are f k))) entered.matrix;
            places = length-set missing n distinct ∙ w.places;
            counts = counts';
            woken = f;
          }

      -- It has no premise, and is awake.
      pub awake_indexed : distinct ≡ 0 → (awake' : List ℕ) → ((p : ℕ → Bool) → Flags p awake → Flags (adjoin p n) awake') → Indexing P R (n + 1) asks' (set missing n distinct) awake'
      awake_indexed z awake' marked = next awake' (subst (λ (p : ℕ → Bool). Flags p awake') (fun_ext same) (marked (ripe P (first_places R n) nothing) w.woken))
        where
          ready : all nothing (premises_at P R n) ≡ true
          ready = lacks_none b R nothing n (sym distinct_is ∙ z)

          same : (k : ℕ) → adjoin (ripe P (first_places R n) nothing) n k ≡ ripe P (first_places R (n + 1)) nothing k
          same k =
              ⊎_elim
              (λ e. let is : k ≡ n = eqb-true k n e in rw is (ap (λ (t : Bool). t || ripe P (first_places R n) nothing n) (eqb-self n) ∙ sym (here_taken (all nothing (premises_at P R n)) ∙ ready)))
              (λ e. ap (λ (t : Bool). t || ripe P (first_places R n) nothing k) e ∙ taken_more n k (R.taken k) (all nothing (premises_at P R k)) e)
              (either (eqb k n))

      pub asleep_indexed : (distinct ≡ 0 → ⊥) → Indexing P R (n + 1) asks' (set missing n distinct) awake
      asleep_indexed nz = next awake (subst (λ (p : ℕ → Bool). Flags p awake) (fun_ext same) w.woken)
        where
          waits : all nothing (premises_at P R n) ≡ false
          waits = false_of (all nothing (premises_at P R n)) (λ t. nz (distinct_is ∙ none_lacks P R nothing n t))

          same : (k : ℕ) → ripe P (first_places R n) nothing k ≡ ripe P (first_places R (n + 1)) nothing k
          same k =
              ⊎_elim
              (λ e. let is : k ≡ n = eqb-true k n e in rw is (not_taken n (R.taken n) (all nothing (premises_at P R n)) ∙ sym (here_taken (all nothing (premises_at P R n)) ∙ waits)))
              (λ e. taken_more n k (R.taken k) (all nothing (premises_at P R k)) e)
              (either (eqb k n))
