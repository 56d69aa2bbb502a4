-- Laws of `derive`, for any program, any mask and any set: it is the least closed set above, and its steps.
use Prim.Native.Nat.{ℕ, zero, suc, ◌+◌, ◌≤◌, ◌<◌}
use native.Mathlib.Omega.{arith}
use mathlib.Core.Path.{◌≡◌, refl, ◌∙◌}
use mathlib.Core.Bool.{Bool, true, false, not, ◌||◌}
use mathlib.Core.List.{List, [], ◌∷◌, map}
use mathlib.Core.Logic.{⊎_elim}
use mathlib.Core.Option.{Option, none, some}
use borrow.Author.Tests.{eqb-true}
use lib.ListN.{length, get_or, take}
use lib.Dec.{eqb}
use Rattle.theory.specs.Rule.{all, mem, up_to, how_many, Program, Mask, FactSet, Sub, Same, adjoin, count, rule, Closed, Least}
use Rattle.theory.specs.Walk.{picks, after}
use Rattle.theory.specs.Derive.{ready, lowest, conclude, Fresh, fired, derive}
use Rattle.theory.specs.Chaining.{ReadyOn, LowestReady}
use Rattle.theory.proofs.Bools.{never, and_left, and_right, and_both, or_left, or_right, or_cases, not_of_false, false_of_not, false_of, either, both_ways}
use Rattle.theory.proofs.Lists.{eqb-self, mem-cases, Found, seek-some, seek-none, seek-lowest, all-mono, up_to-mem, mem-up_to, length-range, how_many-le, how_many-less}
use Rattle.theory.proofs.Walk as walk

-- the rules are taken one after the other from S
abbrev pub Trail : Program → Mask → FactSet → List ℕ → Type 0
Trail P on S [] = Unit {0}
Trail P on S (i ∷ is) = ReadyOn P on S i × Trail P on (conclude P S i) is

-- each is the lowest-numbered that is ready on S with the conclusions of those before it
abbrev pub EachLowest : Program → Mask → FactSet → List ℕ → Type 0
EachLowest P on S is = (k : ℕ) → k < length is → LowestReady P on (after (conclude P) S (take k is)) (get_or is k 0)

pub adjoin-above : (S : FactSet) (f : ℕ) → Sub S (adjoin S f)
adjoin-above S f g t = or_right (eqb g f) _ t

pub adjoin-has : (S : FactSet) (f : ℕ) → adjoin S f f ≡ true
adjoin-has S f = or_left _ _ (eqb-self f)

pub adjoin-sub : (S N : FactSet) (f : ℕ) → Sub S N → N f ≡ true → Sub (adjoin S f) N
adjoin-sub S N f s t g h = ⊎_elim (λ e. rw (eqb-true g f e) t) (λ e. s g e) (or_cases (eqb g f) _ h)

-- what a larger set lacks, a smaller one lacks
pub out_below : (S T : FactSet) (f : ℕ) → Sub S T → not (T f) ≡ true → not (S f) ≡ true
out_below S T f s h = not_of_false {a = S f} (false_of (S f) (λ t. never (s f t) (false_of_not (T f) h)))

-- how many rules have their conclusion outside S
abbrev pub open_rules : Program → FactSet → ℕ
open_rules P S = how_many (λ i. not (S (rule P i).conclusion)) (up_to (count P))

pub open_most : (P : Program) (S : FactSet) → open_rules P S ≤ count P
open_most P S =
    bound (how_many-le (λ i. not (S (rule P i).conclusion)) (up_to (count P))) (length-range 0 (count P))
  where
    bound : {a b c : ℕ} → a ≤ b → b ≡ c → a ≤ c
    bound p q = rw (← q) p

-- a larger set that holds one more conclusion leaves fewer
pub open_less : (P : Program) (S T : FactSet) (i : ℕ) → Sub S T → i < count P → S (rule P i).conclusion ≡ false → T (rule P i).conclusion ≡ true → open_rules P T < open_rules P S
open_less P S T i s k out has =
    how_many-less (λ j. not (S (rule P j).conclusion)) (λ j. not (T (rule P j).conclusion)) (up_to (count P))
    (λ j h. out_below S T (rule P j).conclusion s h)
    i (up_to-mem (count P) i k) (not_of_false out) (rw has refl)

module _ (P : Program) (on : Mask) where
  ready-true : (S : FactSet) (i : ℕ) → ReadyOn P on S i → ready P on S i ≡ true
  ready-true S i t = and_both t.is_on (and_both t.premises-in (not_of_false t.conclusion_out))

  -- no rule below the one that is taken is ready, ..
  none_lower : (S : FactSet) (i : ℕ) → lowest P on S ≡ some i → (d : ℕ) → d < i → ReadyOn P on S d → ⊥
  none_lower S i e d l t = never (ready-true S d t) (seek-lowest (ready P on S) (count P) i e d l)

  -- .. it is ready itself, ..
  pub fires : (S : FactSet) (i : ℕ) → lowest P on S ≡ some i → ReadyOn P on S i
  fires S i e =
      let t : Found (ready P on S) (up_to (count P)) i = seek-some _ _ i e in
      record {
        known = mem-up_to (count P) i t.element;
        is_on = and_left (on i) _ t.passes;
        premises-in = and_left _ _ (and_right (on i) _ t.passes);
        conclusion_out = false_of_not _ (and_right (all S (rule P i).premises) _ (and_right (on i) _ t.passes));
      }

  pub lowest-ready : (S : FactSet) (i : ℕ) → lowest P on S ≡ some i → LowestReady P on S i
  lowest-ready S i e = record { ready = fires S i e; none_below = none_lower S i e }

  -- .. and where none is taken, none is ready
  pub none_ready : (S : FactSet) → ◌≡◌ {A = Option ℕ} (lowest P on S) none → (i : ℕ) → ReadyOn P on S i → ⊥
  none_ready S e i t = never (ready-true S i t) (seek-none (ready P on S) (up_to (count P)) e i (up_to-mem (count P) i t.known))

  lowers : (S : FactSet) (i : ℕ) → lowest P on S ≡ some i → open_rules P (conclude P S i) < open_rules P S
  lowers S i e =
      let t : ReadyOn P on S i = fires S i e in
      open_less P S (conclude P S i) i (adjoin-above S (rule P i).conclusion) t.known t.conclusion_out (adjoin-has S (rule P i).conclusion)

  pub derive-end : (S : FactSet) → ◌≡◌ {A = Option ℕ} (lowest P on (derive P on S)) none
  unfolding derive fired
  derive-end S =
      walk.ends (lowest P on) (conclude P) (λ _. Unit {0}) (open_rules P) (λ T i _ e. (tt, lowers T i e)) (count P) S tt (open_most P S)

  pub derive-keeps : (Inv : FactSet → Type 0) → ((S : FactSet) (i : ℕ) → Inv S → ReadyOn P on S i → Inv (conclude P S i)) → (S : FactSet) → Inv S → Inv (derive P on S)
  unfolding derive fired
  derive-keeps Inv h S v = walk.kept (lowest P on) (conclude P) Inv (λ T i w e. h T i w (fires T i e)) (count P) S v

  pub derive-above : (S : FactSet) → Sub S (derive P on S)
  derive-above S = derive-keeps (Sub S) (λ T i s _ f t. adjoin-above T _ f (s f t)) S (λ f t. t)

  pub derive-closed : (S : FactSet) → Closed P on (derive P on S)
  derive-closed S i l o p =
      ⊎_elim (λ e. e)
      (λ e. absurd (none_ready (derive P on S) (derive-end S) i (record { known = l; is_on = o; premises-in = p; conclusion_out = e })))
      (either (derive P on S (rule P i).conclusion))

  pub derive-below : (S N : FactSet) → Sub S N → Closed P on N → Sub (derive P on S) N
  derive-below S N s c =
      derive-keeps (λ T. Sub T N)
      (λ T i w t. adjoin-sub T N _ w (c i t.known t.is_on (all-mono T N (rule P i).premises w t.premises-in))) S s

  -- `derive` is the least closed set above S
  pub derive-least : (S : FactSet) → Least P on S (derive P on S)
  derive-least S = record { above = derive-above S; closed = derive-closed S; below = derive-below S }

  -- the first rule taken, and then those taken from there
  pub fired-some : (S : FactSet) (i : ℕ) → lowest P on S ≡ some i → fired P on S ≡ i ∷ fired P on (conclude P S i)
  unfolding fired
  fired-some S i e =
      walk.picks_first (lowest P on) (conclude P) (λ _. Unit {0}) (open_rules P) (λ T j _ h. (tt, lowers T j h)) (count P) S i tt (open_most P S) e

  pub fired-none : (S : FactSet) → ◌≡◌ {A = Option ℕ} (lowest P on S) none → ◌≡◌ {A = List ℕ} (fired P on S) []
  unfolding fired
  fired-none S e = walk.picks-none (lowest P on) (conclude P) (count P) S e

  picks-trail : (n : ℕ) (S : FactSet) → Trail P on S (picks (lowest P on) (conclude P) n S)
  picks-trail zero S = tt
  picks-trail (suc n) S = go (lowest P on S) refl (picks-trail n)
    where
      go : (o : Option ℕ) → lowest P on S ≡ o → ((T : FactSet) → Trail P on T (picks (lowest P on) (conclude P) n T)) → Trail P on S (picks (lowest P on) (conclude P) (suc n) S)
      go none e r = rw (walk.picks-none (lowest P on) (conclude P) (suc n) S e) tt
      go (some i) e r = rw (walk.picks-some (lowest P on) (conclude P) n S i e) (fires S i e, r (conclude P S i))

  -- each step's rule is on, has its premises in S or among the facts of earlier steps, and concludes a fact that is neither
  pub fired-trail : (S : FactSet) → Trail P on S (fired P on S)
  unfolding fired
  fired-trail S = picks-trail (count P) S

  picks-lowest : (n : ℕ) (S : FactSet) → EachLowest P on S (picks (lowest P on) (conclude P) n S)
  picks-lowest zero S k l = absurd (omega arith)
  picks-lowest (suc n) S k l = go (lowest P on S) refl (picks-lowest n) k l
    where
      go : (o : Option ℕ) → lowest P on S ≡ o → ((T : FactSet) → EachLowest P on T (picks (lowest P on) (conclude P) n T)) → EachLowest P on S (picks (lowest P on) (conclude P) (suc n) S)
      go none e r = rw (walk.picks-none (lowest P on) (conclude P) (suc n) S e) (λ j l. absurd (omega arith))
      go (some i) e r = rw (walk.picks-some (lowest P on) (conclude P) n S i e) (first i e r)
        where
          first : (i : ℕ) → lowest P on S ≡ some i → ((T : FactSet) → EachLowest P on T (picks (lowest P on) (conclude P) n T)) → EachLowest P on S (i ∷ picks (lowest P on) (conclude P) n (conclude P S i))
          first i e r zero l = lowest-ready S i e
          first i e r (suc j) l = r (conclude P S i) j (omega arith)

  -- Each rule fires as the lowest-numbered one that is ready by then.
  pub fired-lowest : (S : FactSet) → EachLowest P on S (fired P on S)
  unfolding fired
  fired-lowest S = picks-lowest (count P) S

  trail_fresh : (is : List ℕ) (S : FactSet) → Trail P on S is → Fresh P S is
  trail_fresh [] S t = tt
  trail_fresh (i ∷ is) S t = (t.0.known, t.0.conclusion_out, trail_fresh is (conclude P S i) t.1)

  pub fired-fresh : (S : FactSet) → Fresh P S (fired P on S)
  fired-fresh S = trail_fresh (fired P on S) S (fired-trail S)

  fresh-known : (is : List ℕ) (S : FactSet) → Fresh P S is → (i : ℕ) → mem i is ≡ true → i < count P
  fresh-known [] S t i m = never m refl
  fresh-known (j ∷ is) S t i m = ⊎_elim (λ e. rw e t.0) (fresh-known is (conclude P S j) t.2 i) (mem-cases i j is m)

  pub fired-known : (S : FactSet) (i : ℕ) → mem i (fired P on S) ≡ true → i < count P
  fired-known S = fresh-known (fired P on S) S (fired-fresh S)

  trail_on : (is : List ℕ) (S : FactSet) → Trail P on S is → (i : ℕ) → mem i is ≡ true → on i ≡ true
  trail_on [] S t i m = never m refl
  trail_on (j ∷ is) S t i m = ⊎_elim (λ e. rw e t.0.is_on) (trail_on is (conclude P S j) t.1 i) (mem-cases i j is m)

  pub fired-on : (S : FactSet) (i : ℕ) → mem i (fired P on S) ≡ true → on i ≡ true
  fired-on S = trail_on (fired P on S) S (fired-trail S)

-- larger sets and larger masks have larger least sets
pub least_mono : (P : Program) (on on' : Mask) (S S' M M' : FactSet) → ((i : ℕ) → i < count P → on i ≡ true → on' i ≡ true) → Sub S S' → Least P on S M → Least P on' S' M' → Sub M M'
least_mono P on on' S S' M M' o s l l' =
    l.below M' (λ f t. l'.above f (s f t)) (λ i k t p. l'.closed i k (o i k t) p)

pub least_same : (P : Program) (on : Mask) (S M N : FactSet) → Least P on S M → Least P on S N → Same M N
least_same P on S M N l m f =
    both_ways _ _ (l.below N m.above m.closed f) (m.below M l.above l.closed f)

pub derive-mono : (P : Program) (on on' : Mask) (S S' : FactSet) → ((i : ℕ) → i < count P → on i ≡ true → on' i ≡ true) → Sub S S' → Sub (derive P on S) (derive P on' S')
derive-mono P on on' S S' o s =
    least_mono P on on' S S' _ _ o s (derive-least P on S) (derive-least P on' S')

abbrev pub union : FactSet → FactSet → FactSet
union S T f = S f || T f

-- deriving again from what was derived, with more facts, gives what is derived from the beginning with those facts
pub derive-again : (P : Program) (on : Mask) (S X : FactSet) → Same (derive P on (union (derive P on S) X)) (derive P on (union S X))
derive-again P on S X f =
    both_ways _ _
    (derive-below P on _ (derive P on (union S X)) joined (derive-closed P on (union S X)) f)
    (derive-mono P on on _ _ (λ i k t. t) (λ g t. ⊎_elim (λ e. or_left _ _ (derive-above P on S g e)) (λ e. or_right (derive P on S g) _ e) (or_cases (S g) _ t)) f)
  where
    joined : Sub (union (derive P on S) X) (derive P on (union S X))
    joined g t =
        ⊎_elim
        (λ e. derive-mono P on on S (union S X) (λ i k u. u) (λ h u. or_left _ _ u) g e)
        (λ e. derive-above P on (union S X) g (or_right (S g) _ e))
        (or_cases (derive P on S g) _ t)

-- the set after the steps is S with their facts
pub after-facts : (P : Program) (is : List ℕ) (S : FactSet) (f : ℕ) → after (conclude P) S is f ≡ S f || mem f (map (λ i. (rule P i).conclusion) is)
after-facts P [] S f = none_more (S f)
  where
    none_more : (b : Bool) → b ≡ b || false
    none_more true = refl
    none_more false = refl
after-facts P (i ∷ is) S f = after-facts P is (conclude P S i) f ∙ swap (eqb f (rule P i).conclusion) (S f) _
  where
    swap : (a b c : Bool) → a || b || c ≡ b || (a || c)
    swap true true c = refl
    swap true false c = refl
    swap false true c = refl
    swap false false c = refl

pub derive-facts : (P : Program) (on : Mask) (S : FactSet) (f : ℕ) → derive P on S f ≡ S f || mem f (map (λ i. (rule P i).conclusion) (fired P on S))
unfolding derive
derive-facts P on S f = after-facts P (fired P on S) S f

-- the facts below n that are not in S
abbrev pub missing : ℕ → FactSet → ℕ
missing n S = how_many (λ f. not (S f)) (up_to n)

-- a fact that was not in S is missing no more once it is
pub missing-less : (P : Program) (n : ℕ) (S : FactSet) (i : ℕ) → (rule P i).conclusion < n → S (rule P i).conclusion ≡ false → missing n (conclude P S i) < missing n S
missing-less P n S i c out =
    how_many-less (λ f. not (S f)) (λ f. not (conclude P S i f)) (up_to n)
    (λ f h. out_below S (conclude P S i) f (adjoin-above S (rule P i).conclusion) h)
    (rule P i).conclusion (up_to-mem n _ c) (not_of_false out) (rw (adjoin-has S (rule P i).conclusion) refl)

-- as many facts are missing less as rules were taken
pub trail_length : (P : Program) (on : Mask) (n : ℕ) → ((i : ℕ) → i < count P → (rule P i).conclusion < n) → (is : List ℕ) (S : FactSet) → Trail P on S is → length is + missing n (after (conclude P) S is) ≤ missing n S
trail_length P on n b [] S t = omega arith
trail_length P on n b (i ∷ is) S t =
    let r : length is + missing n (after (conclude P) (conclude P S i) is) ≤ missing n (conclude P S i) = trail_length P on n b is (conclude P S i) t.1 in
    let l : missing n (conclude P S i) < missing n S = missing-less P n S i (b i t.0.known) t.0.conclusion_out in
    omega arith

-- for the rules that fire
pub fired-missing : (P : Program) (on : Mask) (S : FactSet) → ((i : ℕ) → i < count P → (rule P i).conclusion < P.facts) → length (fired P on S) + missing P.facts (derive P on S) ≤ missing P.facts S
unfolding derive
fired-missing P on S b = trail_length P on P.facts b (fired P on S) S (fired-trail P on S)
