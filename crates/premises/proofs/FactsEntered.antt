-- Facts enter the set one after the other: the counts follow, and the rules that lack nothing more wake.
use Prim.Native.Nat.{ℕ, ◌+◌, ◌-◌, ◌≤◌, ◌<◌}
use mathlib.Core.Path.{◌≡◌, refl, sym, ap, ap₂, subst, ◌∙◌, fun_ext}
use mathlib.Core.Bool.{Bool, true, false, not, ◌&&◌, ◌||◌}
use mathlib.Core.List.{List, ◌∷◌}
use native.Mathlib.Omega.{arith}
use native.Mathlib.Numerals.{add-one}
use borrow.Author.Tests.{eq-eqb, eqb-true, ltb-true}
use lib.ListN.{length, get_or, drop}
use lib.Seq.{drop-cons}
use Rattle.std.proofs.lemmas.List.{drop_all}
use lib.Dec.{eqb, ltb}
use Rattle.theory.specs.Rule.{all, mem, Program, FactSet, Sub, adjoin, count, rule}
use Rattle.theory.specs.Conditions.{Bounded}
use Rattle.theory.specs.Walk.{after}
use Rattle.theory.specs.Derive.{conclude, Fresh}
use Rattle.theory.proofs.Bools.{never, and_left, and_right, false_of, or-none, both_ways}
use Rattle.theory.proofs.Lists.{all-elem, all-mono, all-ext}
use Rattle.theory.proofs.Derive.{adjoin-above}
use Rattle.items.specs.Item.{narrow, max_facts, max_rules}
use Rattle.bits.specs.Flags.{digit, Flags}
use Rattle.bits.specs.Matrix.{Matrix}
use Rattle.premises.specs.Premises.{Places, premises_at, asks_at, lacking, roused, Asked, Counted}
use Rattle.premises.specs.Waking.{less_at, woken_at, Lowered, RulesAlone}
use Rattle.premises.proofs.RowRoused.{roused-none}
use Rattle.premises.proofs.PremisesCounted.{lacks_none, none_lacks, asked-lacking, unasked_lacking}

-- One fact enters.
module _ {P : Program} (b : Bounded P) {R : Places} {S T : FactSet} (grows : Sub S T) (p : ℕ → Bool) {missing missing' awake' : List ℕ} (c : Counted P R T missing) (f : ℕ) (out : T f ≡ false) (w : Lowered (asks_at P R f) (roused P R S T p) missing missing' awake') where
  asks-is : (k : ℕ) → R.taken k ≡ true → asks_at P R f k ≡ mem f (premises_at P R k)
  asks-is k h = ap (λ (t : Bool). t && mem f (premises_at P R k)) h

  less-is : (k : ℕ) → R.taken k ≡ true → less_at (asks_at P R f) missing k ≡ lacking P R (adjoin T f) k
  less-is k h = ap₂ (λ (m : ℕ) (t : Bool). m - digit t) (c.counts k h) (asks-is k h) ∙ go (mem f (premises_at P R k)) refl
    where
      go : (t : Bool) → mem f (premises_at P R k) ≡ t → lacking P R T k - digit t ≡ lacking P R (adjoin T f) k
      go true m = omega (arith, asked-lacking b R T f k out m)
      go false m = omega (arith, unasked_lacking P R T f k out m)

  pub fact-counted : Counted P R (adjoin T f) missing'
  fact-counted = record { places = w.places; counts = λ k h. w.counts k ∙ less-is k h }

  -- a rule lacks nothing more exactly where all its premises are in the set
  zero_is : (k : ℕ) → R.taken k ≡ true → eqb (less_at (asks_at P R f) missing k) 0 ≡ all (adjoin T f) (premises_at P R k)
  zero_is k h =
      both_ways (eqb (less_at (asks_at P R f) missing k) 0) (all (adjoin T f) (premises_at P R k))
      (λ t. lacks_none b R (adjoin T f) k (sym (less-is k h) ∙ eqb-true (less_at (asks_at P R f) missing k) 0 t))
      (λ t. eq-eqb (less_at (asks_at P R f) missing k) 0 (less-is k h ∙ none_lacks P R (adjoin T f) k t))

  module _ (k : ℕ) where
    abbrev own : List ℕ
    own = premises_at P R k

    -- a rule that asks the fact had not all its premises
    asked-waits : mem f own ≡ true → (all T own ≡ false) × (all S own ≡ false)
    asked-waits m = (false_of (all T own) (λ t. never (all-elem T own t f m) out), false_of (all S own) (λ t. never (all-elem T own (all-mono S T own grows t) f m) out))

    unasked_stays : mem f own ≡ false → all (adjoin T f) own ≡ all T own
    unasked_stays m = all-ext (adjoin T f) T own (λ x k. ap (λ (t : Bool). t || T x) (other x k))
      where
        other : (x : ℕ) → mem x own ≡ true → eqb x f ≡ false
        other x k = false_of (eqb x f) (λ e. never (subst (λ (y : ℕ). mem y own ≡ true) (eqb-true x f e) k) m)

    woken_is : woken_at (asks_at P R f) (roused P R S T p) missing k ≡ roused P R S (adjoin T f) p k
    woken_is = go (R.taken k) refl
      where
        tests : (a m s t t' : Bool) → (m ≡ true → (t ≡ false) × (s ≡ false)) → (m ≡ false → t' ≡ t) → a || not s && t || m && t' ≡ a || not s && t'
        tests true m s t t' h g = refl
        tests false true s t t' h g = rw ((h refl).0, (h refl).1) refl
        tests false false s t t' h g = rw (g refl) (or-none (not s && t))

        go : (n : Bool) → R.taken k ≡ n → p k || n && (not (all S own) && all T own) || n && mem f own && eqb (less_at (asks_at P R f) missing k) 0 ≡ p k || n && (not (all S own) && all (adjoin T f) own)
        go false e = or-none (p k || false)
        go true e = ap (λ (t : Bool). p k || not (all S own) && all T own || mem f own && t) (zero_is k e) ∙ tests (p k) (mem f own) (all S own) (all T own) (all (adjoin T f) own) asked-waits unasked_stays

  pub fact-rouses : Flags (roused P R S (adjoin T f) p) awake'
  fact-rouses = subst (λ (q : ℕ → Bool). Flags q awake') (fun_ext woken_is) w.woken

-- What is promised of a fact that enters.
abbrev pub Enters : ℕ → List ℕ → List ℕ → List ℕ → List ℕ → List ℕ → Type 0
Enters f asks missing awake missing' awake' = (keys : ℕ) (q : ℕ → ℕ → Bool) (v : ℕ → Bool) → f < keys → Matrix keys q asks → Flags v awake → length missing ≡ max_rules → Lowered (q f) v missing missing' awake'

-- So a rule's count is that at the larger set, and those are roused whose last premise it was.
pub fact-entered : {P : Program} → Bounded P → {R : Places} {S : FactSet} {p : ℕ → Bool} {asks missing awake missing' awake' : List ℕ} {f : ℕ} → f < max_facts narrow → Enters f asks missing awake missing' awake' → Asked P R asks → Counted P R S missing → Flags p awake → S f ≡ false → Counted P R (adjoin S f) missing' × Flags (roused P R S (adjoin S f) p) awake'
fact-entered {P} b {R} {S} {p} {asks} {missing} {awake} {missing'} {awake'} {f} small enters a c g out = (fact-counted b (λ h t. t) p c f out lowered, fact-rouses b (λ h t. t) p c f out lowered)
  where
    lowered : Lowered (asks_at P R f) (roused P R S S p) missing missing' awake'
    lowered = enters (max_facts narrow) (asks_at P R) (roused P R S S p) small a.matrix (subst (λ (q : ℕ → Bool). Flags q awake) (fun_ext (λ k. sym (roused-none P R S p k))) g) c.places

-- Of the rules of a list some are still to come: their conclusions, entered from here, give what all give from the start.
pub record Standing (P : Program) (R : Places) (S : FactSet) (p : ℕ → Bool) (rules rest missing awake : List ℕ) : Type 0 where
  pub set : FactSet
  pub grows : Sub S set
  pub fresh : Fresh P set rest
  pub same : after (conclude P) set rest ≡ after (conclude P) S rules
  pub counted : Counted P R set missing
  pub woken : Flags (roused P R S set p) awake

-- The rules before `at` have entered.
pub record Waking (P : Program) (fired asks missing₀ awake₀ missing awake : List ℕ) (at : ℕ) : Type 0 where
  pub known : all (λ i. ltb i (count P)) (drop at fired) ≡ true
  pub any : (R : Places) (S : FactSet) (p : ℕ → Bool) → Asked P R asks → Counted P R S missing₀ → Flags p awake₀ → Fresh P S fired → Standing P R S p fired (drop at fired) missing awake

pub none_entered : {P : Program} {fired : List ℕ} → RulesAlone P fired → (asks missing awake : List ℕ) → Waking P fired asks missing awake missing awake 0
none_entered {P} s asks missing awake =
    record {
      known = s.known;
      any = λ R S p a c f r. record { set = S; grows = λ g t. t; fresh = r; same = refl; counted = c; woken = subst (λ (q : ℕ → Bool). Flags q awake) (fun_ext (λ k. sym (roused-none P R S p k))) f };
    }

module _ {P : Program} (b : Bounded P) {fired asks missing₀ awake₀ missing awake : List ℕ} {at : ℕ} (w : Waking P fired asks missing₀ awake₀ missing awake at) where
  module _ (h : at < length fired) where
    next-is : drop at fired ≡ get_or fired at 0 ∷ drop (at + 1) fired
    next-is = rw (add-one at) (drop-cons fired at 0 h)

    next_known : ltb (get_or fired at 0) (count P) && all (λ i. ltb i (count P)) (drop (at + 1) fired) ≡ true
    next_known = subst (λ (is : List ℕ). all (λ i. ltb i (count P)) is ≡ true) next-is w.known

    pub rule_known : get_or fired at 0 < count P
    rule_known = ltb-true (get_or fired at 0) (count P) (and_left (ltb (get_or fired at 0) (count P)) _ next_known)

    pub one_entered : (f : ℕ) → f ≡ (rule P (get_or fired at 0)).conclusion → {missing' awake' : List ℕ} → f < max_facts narrow → Enters f asks missing awake missing' awake' → Waking P fired asks missing₀ awake₀ missing' awake' (at + 1)
    one_entered f f-is {missing'} {awake'} small entered =
        record {
          known = and_right (ltb (get_or fired at 0) (count P)) _ next_known;
          any = λ R S p a c g r. step R S p a (w.any R S p a c g r);
        }
      where
        step : (R : Places) (S : FactSet) (p : ℕ → Bool) → Asked P R asks → Standing P R S p fired (drop at fired) missing awake → Standing P R S p fired (drop (at + 1) fired) missing' awake'
        step R S p a t =
            let fresh : Fresh P t.set (get_or fired at 0 ∷ drop (at + 1) fired) = subst (λ (is : List ℕ). Fresh P t.set is) next-is t.fresh in
            let out : t.set f ≡ false = ap t.set f-is ∙ fresh.1 in
            let lowered : Lowered (asks_at P R f) (roused P R S t.set p) missing missing' awake' = entered (max_facts narrow) (asks_at P R) (roused P R S t.set p) small a.matrix t.woken t.counted.places in
            let same_set : adjoin t.set f ≡ conclude P t.set (get_or fired at 0) = ap (adjoin t.set) f-is in
            record {
              set = conclude P t.set (get_or fired at 0);
              grows = λ g u. adjoin-above t.set (rule P (get_or fired at 0)).conclusion g (t.grows g u);
              fresh = fresh.2;
              same = sym (ap (after (conclude P) t.set) next-is) ∙ t.same;
              counted = subst (λ (T : FactSet). Counted P R T missing') same_set (fact-counted b t.grows p t.counted f out lowered);
              woken = subst (λ (T : FactSet). Flags (roused P R S T p) awake') same_set (fact-rouses b t.grows p t.counted f out lowered);
            }

  pub all-entered : length fired ≤ at → (R : Places) (S : FactSet) (p : ℕ → Bool) → Asked P R asks → Counted P R S missing₀ → Flags p awake₀ → Fresh P S fired → Counted P R (after (conclude P) S fired) missing × Flags (roused P R S (after (conclude P) S fired) p) awake
  all-entered h R S p a c g r = ended (w.any R S p a c g r)
    where
      ended : Standing P R S p fired (drop at fired) missing awake → Counted P R (after (conclude P) S fired) missing × Flags (roused P R S (after (conclude P) S fired) p) awake
      ended t =
          let last : t.set ≡ after (conclude P) S fired = sym (ap (after (conclude P) t.set) (drop_all at fired h)) ∙ t.same in
          (subst (λ (T : FactSet). Counted P R T missing) last t.counted, subst (λ (T : FactSet). Flags (roused P R S T p) awake) last t.woken)
