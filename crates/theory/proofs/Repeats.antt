-- Repeats within a rule change nothing, and neither does what a withheld rule says: programs that are alike have the same counts, runs, marks, stable sets,
-- proofs, searches and ranks, each by one equation. The counts of facts and of rules are equal by `Alike` itself.
use Prim.Native.Nat.{ℕ, zero, suc, ◌*◌, ◌≤◌, ◌<◌}
use native.Mathlib.Omega.{arith}
use native.Mathlib.Decide.{dec_lt}
use mathlib.Core.Path.{◌≡◌, refl, sym, ◌∙◌, ap, subst}
use mathlib.Core.Bool.{Bool, true, false, not, cond, ◌&&◌, ◌||◌, beq}
use mathlib.Core.List.{List, [], ◌∷◌, ◌++◌, map}
use mathlib.Core.Logic.{◌⊎◌, inl, inr, ⊎_elim, ◌↔◌}
use mathlib.Core.Option.{Option, none, some}
use borrow.Author.Tests.{eqb-true}
use lib.ListN.{length, take, length-map, get_or-map, get_or-eq_default}
use lib.Dec.{eqb, ltb}
use Rattle.theory.specs.Rule.{all, any, clear, mem, keep, up_to, how_many, Rule, Program, Mask, FactSet, nothing, count, rule, blank, null, plain, exception, constraint_fact, Step, Closed, Least, plain_rules, withheld, in_force, Alike, by_key, first_case}
use Rattle.theory.specs.Conditions.{every_rule}
use Rattle.theory.specs.Lists.{seek, down_from}
use Rattle.theory.specs.Walk.{picks, after}
use Rattle.theory.specs.Derive.{lowest, conclude, fired, derive, step_by, steps, closure}
use Rattle.theory.specs.Run.{Stand, rejected, spares, trial, eligible, stage, start, first_eligible, run, set_aside, fact_mark, rule_mark, marks_of_facts, marks_of_rules}
use Rattle.theory.specs.Check.{least_of, is_stable, is_proof}
use Rattle.theory.specs.Stable.{reduct, Stable, step_at, facts_of, Proof, Admits, Earlier, Earliest, upheld, order_groups, order_for}
use Rattle.theory.specs.Keeping.{select, wanted, kept_steps, grounds_of}
use Rattle.theory.specs.Search.{guessed, fits, hunt, search}
use Rattle.theory.specs.Layers.{higher, highest, asks, lacking, raise, all_zero, lowest_lacking, ranks_of, is_layered, rank_key, layered_order}
use Rattle.theory.specs.Better.{aside_count}
use Rattle.theory.specs.Repeats.{once, without_repeats, struck, without_withheld}
use Rattle.theory.proofs.Bools.{either, never, and_left, and_right, and_both, and-false, false_of_not, false_of, both_ways}
use Rattle.theory.proofs.Lists.{all-elem, all_of, all-ext, all_append, any-witness, any_of, seek-some, seek-ext, mem-cases, mem-here, mem-there, mem-keep, how_many-none}
use Rattle.theory.proofs.Walk.{picks-same, ends_same}
use Rattle.theory.proofs.Derive.{fires, fired-on}
use Rattle.theory.proofs.Run.{eligible-parts, exception-known, run_sound}
use Rattle.theory.proofs.Rows.{run-steps_on}
use Rattle.theory.proofs.Withheld.{withheld_exception, read_on, on_read, withheld-any}
use Rattle.theory.proofs.Check.{test_of_proof}
use Rattle.theory.proofs.Ranks.{highest-above, highest-below}

-- lists with the same elements pass the same tests
pub all-elements : (p : ℕ → Bool) (xs ys : List ℕ) → ((x : ℕ) → mem x xs ≡ mem x ys) → all p xs ≡ all p ys
all-elements p xs ys e =
    both_ways _ _
    (λ a. all_of p ys (λ x m. all-elem p xs a x (e x ∙ m)))
    (λ a. all_of p xs (λ x m. all-elem p ys a x (sym (e x) ∙ m)))

any-elements : (p : ℕ → Bool) (xs ys : List ℕ) → ((x : ℕ) → mem x xs ≡ mem x ys) → any p xs ≡ any p ys
any-elements p xs ys e =
    both_ways _ _
    (λ a. let (x, m, t) = any-witness p xs a in any_of p ys x (sym (e x) ∙ m) t)
    (λ a. let (x, m, t) = any-witness p ys a in any_of p xs x (e x ∙ m) t)

highest-elements : (value : ℕ → ℕ) (xs ys : List ℕ) → ((x : ℕ) → mem x xs ≡ mem x ys) → highest value xs ≡ highest value ys
highest-elements value xs ys e =
    let below = highest-below value xs (highest value ys) (λ x m. highest-above value ys x (sym (e x) ∙ m)) in
    let above = highest-below value ys (highest value xs) (λ x m. highest-above value xs x (e x ∙ m)) in
    omega (arith, below, above)

null-elements : (xs ys : List ℕ) → ((x : ℕ) → mem x xs ≡ mem x ys) → null xs ≡ null ys
null-elements [] [] e = refl
null-elements [] (y ∷ ys) e = never (e y ∙ mem-here y ys) refl
null-elements (x ∷ xs) [] e = never (sym (e x) ∙ mem-here x xs) refl
null-elements (x ∷ xs) (y ∷ ys) e = refl

-- tests that agree on the elements of a list find one that passes alike
any-ext : (p q : ℕ → Bool) (xs : List ℕ) → ((x : ℕ) → mem x xs ≡ true → p x ≡ q x) → any p xs ≡ any q xs
any-ext p q xs e =
    both_ways _ _
    (λ a. let (x, m, t) = any-witness p xs a in any_of q xs x m (sym (e x m) ∙ t))
    (λ a. let (x, m, t) = any-witness q xs a in any_of p xs x m (e x m ∙ t))

-- what asks whether a rule is in force is the same where the rest is the same for rules in force
under : {A : Type 0} (b : Bool) (f g : Bool → A) → f false ≡ g false → (b ≡ true → f true ≡ g true) → f b ≡ g b
under true f g n h = h refl
under false f g n h = n

and-under : (b : Bool) {x y : Bool} → (b ≡ true → x ≡ y) → b && x ≡ b && y
and-under b {x} {y} h = under b (λ c. c && x) (λ c. c && y) refl h

-- Every rule of the mask is in force.
abbrev pub OnlyInForce : Program → Mask → Type 0
OnlyInForce P on = (i : ℕ) → on i ≡ true → in_force P i ≡ true

-- Every step of the row is by a rule of the mask.
abbrev StepsOn : Mask → List Step → Type 0
StepsOn on row = (k : ℕ) → k < length row → on (step_at row k).by ≡ true

-- Each equation below is the definition itself, with the parts of the rules on their way from P to Q.
module _ {P Q : Program} (a : Alike P Q) where
  -- what is read past the last rule is the blank rule in both
  past_same : {A : Type 0} (part : Rule → A) (i : ℕ) → (i < count P → part (rule P i) ≡ part (rule Q i)) → part (rule P i) ≡ part (rule Q i)
  past_same part i h = go (dec_lt i (count P))
    where
      go : Dec (i < count P) → part (rule P i) ≡ part (rule Q i)
      go (yes l) = h l
      go (no n) =
          let past : count P ≤ i = omega arith in
          ap part (get_or-eq_default P.rules blank past ∙ sym (get_or-eq_default Q.rules blank (rw a.same_count at past)))

  -- The same rules are withheld, so the same are in force.
  withheld-alike : (i : ℕ) → withheld P i ≡ withheld Q i
  withheld-alike i = go (dec_lt i (count P))
    where
      past : (R : Program) → (i < count R → ⊥) → withheld R i ≡ false
      past R n = false_of (withheld R i) (λ w. n (exception-known R every_rule i (withheld_exception R i w)))

      go : Dec (i < count P) → withheld P i ≡ withheld Q i
      go (yes l) = a.same_withheld i l
      go (no n) = past P n ∙ sym (past Q (rw a.same_count at n))

  pub alike_in_force : in_force P ≡ in_force Q
  unfolding in_force
  alike_in_force t i = not (withheld-alike i t)

  -- What is the same under every mask of rules in force is the same under each program's own.
  in-force : {A : Type 0} (op : Program → Mask → A) → ((on : Mask) → OnlyInForce P on → op P on ≡ op Q on) → op P (in_force P) ≡ op Q (in_force Q)
  in-force op law = law (in_force P) (λ i o. o) ∙ ap (op Q) alike_in_force

  conclusion_same : (i : ℕ) → in_force P i ≡ true → (rule P i).conclusion ≡ (rule Q i).conclusion
  conclusion_same i o = past_same (λ r. r.conclusion) i (λ l. a.same_conclusion i l o)

  premises_same : (i : ℕ) → in_force P i ≡ true → (f : ℕ) → mem f (rule P i).premises ≡ mem f (rule Q i).premises
  premises_same i o f = past_same (λ r. mem f r.premises) i (λ l. a.same_premises i l o f)

  constraints-same : (i : ℕ) → in_force P i ≡ true → (f : ℕ) → mem f (rule P i).constraints ≡ mem f (rule Q i).constraints
  constraints-same i o f = past_same (λ r. mem f r.constraints) i (λ l. a.same_constraints i l o f)

  -- The same rules are plain, the same are exception rules, and as many: a withheld rule has a constraint in both.
  null-same : (i : ℕ) → null (rule P i).constraints ≡ null (rule Q i).constraints
  unfolding exception
  null-same i =
      ⊎_elim (λ w. some_constraint P w ∙ sym (some_constraint Q (sym (withheld-alike i) ∙ w)))
      (λ r. null-elements (rule P i).constraints (rule Q i).constraints (constraints-same i (read_on P i r)))
      (either (withheld P i))
    where
      some_constraint : (R : Program) → withheld R i ≡ true → null (rule R i).constraints ≡ false
      some_constraint R w = false_of_not _ (and_right (ltb i (count R)) (not (null (rule R i).constraints)) (withheld_exception R i w))

  pub alike_plain : plain P ≡ plain Q
  unfolding plain
  alike_plain t i = ltb i (a.same_count t) && null-same i t

  pub alike_exception : exception P ≡ exception Q
  unfolding exception
  alike_exception t i = ltb i (a.same_count t) && not (null-same i t)

  pub alike_exception_count : how_many (exception P) (up_to (count P)) ≡ how_many (exception Q) (up_to (count Q))
  alike_exception_count t = how_many (alike_exception t) (up_to (a.same_count t))

pub alike_sym : {P Q : Program} → Alike P Q → Alike Q P
alike_sym {P} {Q} a =
    record {
      same_facts = sym a.same_facts;
      same_count = sym a.same_count;
      same_withheld = λ i l. sym (withheld-alike a i);
      same_conclusion = λ i l o. sym (conclusion_same a i (back i o));
      same_premises = λ i l o f. sym (premises_same a i (back i o) f);
      same_constraints = λ i l o f. sym (constraints-same a i (back i o) f);
    }
  where
    back : OnlyInForce P (in_force Q)
    back i o = ap (λ m. m i) (alike_in_force a) ∙ o

-- Rules that are in force in one are in force in the other.
also_inside : {P Q : Program} → Alike P Q → (on : Mask) → OnlyInForce P on → OnlyInForce Q on
also_inside a on inside i o = sym (ap (λ m. m i) (alike_in_force a)) ∙ inside i o

-- Under a mask of rules in force.
module _ {P Q : Program} (a : Alike P Q) (on : Mask) (inside : OnlyInForce P on) where
  conclusion_on : (i : ℕ) → on i ≡ true → (rule P i).conclusion ≡ (rule Q i).conclusion
  conclusion_on i o = conclusion_same a i (inside i o)

  -- the same sets hold the premises of a rule, and are clear of its constraints
  premises_on : (S : FactSet) (i : ℕ) → on i ≡ true → all S (rule P i).premises ≡ all S (rule Q i).premises
  premises_on S i o = all-elements S (rule P i).premises (rule Q i).premises (premises_same a i (inside i o))

  constraints-on : (S : FactSet) (i : ℕ) → on i ≡ true → clear S (rule P i).constraints ≡ clear S (rule Q i).constraints
  constraints-on S i o = all-elements (λ f. not (S f)) (rule P i).constraints (rule Q i).constraints (constraints-same a i (inside i o))

  constraint_alike : constraint_fact P on ≡ constraint_fact Q on
  unfolding constraint_fact
  constraint_alike t k = any (λ i. and-under (on i) (λ o. constraints-same a i (inside i o) k) t) (up_to (a.same_count t))

  -- What is derived, and its steps.
  conclude-alike : (S : FactSet) (i : ℕ) → on i ≡ true → conclude P S i ≡ conclude Q S i
  conclude-alike S i o t f = eqb f (conclusion_on i o t) || S f

  lowest-alike : (S : FactSet) → lowest P on S ≡ lowest Q on S
  lowest-alike S t =
      seek (λ i. and-under (on i) {y = all S (rule Q i).premises && not (S (rule Q i).conclusion)} (λ o u. premises_on S i o u && not (S (conclusion_on i o u))) t) (up_to (a.same_count t))

  fire_alike : (S : FactSet) (i : ℕ) → Unit {0} → lowest P on S ≡ some i → (conclude P S i ≡ conclude Q S i) × Unit {0}
  fire_alike S i _ e = (conclude-alike S i (fires P on S i e).is_on, tt)

  fired-alike : (S : FactSet) → fired P on S ≡ fired Q on S
  unfolding fired
  fired-alike S =
      picks-same (lowest P on) (lowest Q on) (conclude P) (conclude Q) (λ _. Unit {0}) (λ T _. lowest-alike T) fire_alike (count P) S tt
      ∙ ap (λ n. picks (lowest Q on) (conclude Q) n S) a.same_count

  derive-alike : (S : FactSet) → derive P on S ≡ derive Q on S
  unfolding derive fired
  derive-alike S =
      ends_same (lowest P on) (lowest Q on) (conclude P) (conclude Q) (λ _. Unit {0}) (λ T _. lowest-alike T) fire_alike (count P) S tt
      ∙ ap (λ n. after (conclude Q) S (picks (lowest Q on) (conclude Q) n S)) a.same_count

  step-alike : (i : ℕ) → on i ≡ true → step_by P i ≡ step_by Q i
  step-alike i o t = record { fact = conclusion_on i o t; by = i }

  each_step : (is : List ℕ) → ((i : ℕ) → mem i is ≡ true → on i ≡ true) → map (step_by P) is ≡ map (step_by Q) is
  each_step [] o = refl
  each_step (i ∷ is) o = λ t. step-alike i (o i (mem-here i is)) t ∷ each_step is (λ j m. o j (mem-there j i is m)) t

  steps_alike : (S : FactSet) → steps P on S ≡ steps Q on S
  unfolding steps
  steps_alike S = each_step (fired P on S) (fired-on P on S) ∙ ap (map (step_by Q)) (fired-alike S)

  closed-alike : (N : FactSet) → Closed P on N → Closed Q on N
  closed-alike N c i l o p = sym (ap N (conclusion_on i o)) ∙ c i (rw a.same_count l) o (premises_on N i o ∙ p)

module _ {P Q : Program} (a : Alike P Q) (on : Mask) (inside : OnlyInForce P on) where
  plain-inside : OnlyInForce P (plain_rules P on)
  unfolding plain_rules
  plain-inside i e = inside i (and_left (on i) (plain P i) e)

  plain_rules-alike : plain_rules P on ≡ plain_rules Q on
  unfolding plain_rules
  plain_rules-alike t i = on i && alike_plain a t i

  closure-alike : (S : FactSet) → closure P on S ≡ closure Q on S
  closure-alike S = derive-alike a (plain_rules P on) plain-inside S ∙ ap (λ m. derive Q m S) plain_rules-alike

  plain-steps : (S : FactSet) → steps P (plain_rules P on) S ≡ steps Q (plain_rules Q on) S
  plain-steps S = steps_alike a (plain_rules P on) plain-inside S ∙ ap (λ m. steps Q m S) plain_rules-alike

  trial-alike : (D : FactSet) (i : ℕ) → on i ≡ true → trial P on D i ≡ trial Q on D i
  trial-alike D i o t = closure-alike (conclude-alike a on inside D i o t) t

  -- the stages of a run, each by a rule of the mask
  spares-alike : (T : FactSet) (is : List ℕ) → all on is ≡ true → spares P T is ≡ spares Q T is
  unfolding spares
  spares-alike T is o = all-ext _ _ is (λ i m. constraints-on a on inside T i (all-elem on is o i m))

  eligible-alike : (s : Stand) → all on s.applied ≡ true → (i : ℕ) → eligible P on s i ≡ eligible Q on s i
  unfolding eligible
  eligible-alike s v i =
      under (on i) (λ b. test P b) (λ b. test Q b) (rw (and-false (exception P i), and-false (exception Q i)) refl)
      (λ o t.
      alike_exception a t i && true
      && not (s.derived (conclusion_on a on inside i o t))
      && premises_on a on inside s.derived i o t
      && constraints-on a on inside (trial-alike s.derived i o t) i o t
      && spares-alike (trial-alike s.derived i o t) s.applied v t)
    where
      test : Program → Bool → Bool
      test R b =
          exception R i && b
          && not (s.derived (rule R i).conclusion)
          && all s.derived (rule R i).premises
          && clear (trial R on s.derived i) (rule R i).constraints
          && spares R (trial R on s.derived i) s.applied

  stage-alike : (s : Stand) (i : ℕ) → on i ≡ true → stage P on s i ≡ stage Q on s i
  stage-alike s i o t =
      record {
        derived = trial-alike s.derived i o t;
        trace = s.trace ++ (step-alike a on inside i o t ∷ plain-steps (conclude-alike a on inside s.derived i o t) t);
        applied = s.applied ++ (i ∷ []);
      }

  start-alike : start P on ≡ start Q on
  start-alike t = record { derived = closure-alike nothing t; trace = plain-steps nothing t; applied = [] }

  -- The whole run is the same, for every order.
  run-alike : (order : List ℕ) → run P on order ≡ run Q on order
  unfolding run
  run-alike order =
      ends_same (first_eligible P on order) (first_eligible Q on order) (stage P on) (stage Q on) (λ s. all on s.applied ≡ true)
      (λ s v. seek-ext _ _ order (λ i _. eligible-alike s v i)) next (count P) (start P on) refl
      ∙ (λ t. after (stage Q on) (start-alike t) (picks (first_eligible Q on order) (stage Q on) (a.same_count t) (start-alike t)))
    where
      next : (s : Stand) (i : ℕ) → all on s.applied ≡ true → first_eligible P on order s ≡ some i → (stage P on s i ≡ stage Q on s i) × (all on (stage P on s i).applied ≡ true)
      next s i v e =
          let o : on i ≡ true = (eligible-parts P on s i (seek-some (eligible P on s) order i e).passes).in-force in
          (stage-alike s i o, rw (all_append on s.applied (i ∷ [])) (and_both v (and_both o refl)))

  aside_alike : set_aside P on ≡ set_aside Q on
  unfolding set_aside
  aside_alike t D i =
      under (on i) (λ b. test P D i b) (λ b. test Q D i b) (rw (and-false (ltb i (count P)), and-false (ltb i (count Q))) refl)
      (λ o u.
      ltb i (a.same_count u) && true
      && premises_on a on inside D i o u
      && constraints-on a on inside D i o u
      && not (D (conclusion_on a on inside i o u)))
      t
    where
      test : Program → FactSet → ℕ → Bool → Bool
      test R D i b =
          ltb i (count R) && b
          && all D (rule R i).premises
          && clear D (rule R i).constraints
          && not (D (rule R i).conclusion)

  -- So are the marks that it writes.
  rule_mark-alike : rule_mark P on ≡ rule_mark Q on
  unfolding rule_mark
  rule_mark-alike t s i =
      first_case ((alike_plain a t i, 0) ∷ (mem i s.applied, 1) ∷ (aside_alike t s.derived i, 2) ∷ (on i, 3) ∷ []) 4

  fact_mark-alike : (s : Stand) → ((i : ℕ) → mem i s.applied ≡ true → on i ≡ true) → fact_mark P s ≡ fact_mark Q s
  unfolding fact_mark rejected
  fact_mark-alike s v t f =
      cond (s.derived f) 1 (cond (any-ext _ _ s.applied (λ i m. constraints-same a i (inside i (v i m)) f) t) 2 0)

  run-fact_mark : (order : List ℕ) → fact_mark P (run P on order) ≡ fact_mark Q (run Q on order)
  run-fact_mark order = fact_mark-alike (run P on order) (run_sound P on order).in-force ∙ ap (fact_mark Q) (run-alike order)

  -- The test of stability and the search answer the same, and the search's order is the same.
  reduct-alike : (M : FactSet) → reduct P on M ≡ reduct Q on M
  unfolding reduct
  reduct-alike M t i = and-under (on i) (constraints-on a on inside M i) t

  reduct-inside : (M : FactSet) → OnlyInForce P (reduct P on M)
  unfolding reduct
  reduct-inside M i e = inside i (and_left (on i) _ e)

  least_of-alike : (G : FactSet) → least_of P on G ≡ least_of Q on G
  unfolding least_of
  least_of-alike G = derive-alike a (reduct P on G) (reduct-inside G) nothing ∙ ap (λ m. derive Q m nothing) (reduct-alike G)

  is_stable-alike : (M : FactSet) → is_stable P on M ≡ is_stable Q on M
  unfolding is_stable
  is_stable-alike M t = all (λ f. beq (least_of-alike M t f) (M f)) (up_to (a.same_facts t))

  guessed-alike : guessed P on ≡ guessed Q on
  unfolding guessed
  guessed-alike t = keep (constraint_alike a on inside t) (down_from (a.same_facts t))

  fits-alike : (G : FactSet) → fits P on G ≡ fits Q on G
  unfolding fits
  fits-alike G t = all (λ k. beq (least_of-alike G t k) (G k)) (guessed-alike t)

  search-alike : search P on ≡ search Q on
  unfolding search
  search-alike t =
      elim (hunt (λ G. fits-alike G t) (guessed-alike t) nothing) as (λ _. Option FactSet) [ none ↦ none | some G ↦ some (least_of-alike G t) ]

  order_for-alike : order_for P on ≡ order_for Q on
  unfolding order_for
  order_for-alike t M =
      by_key (alike_exception a t) (λ i. first_case ((upheld-alike M i t, 0) ∷ (on i, 1) ∷ []) 2) (a.same_count t) 0 order_groups
    where
      upheld-alike : (M : FactSet) (i : ℕ) → upheld P on M i ≡ upheld Q on M i
      upheld-alike M i =
          and-under (on i) {y = all M (rule Q i).premises && clear M (rule Q i).constraints}
          (λ o t. premises_on a on inside M i o t && constraints-on a on inside M i o t)

  -- Each rule asks the same rank, so the ranks are the same, and so is the order by rank.
  asks-alike : (rank : ℕ → ℕ) (i : ℕ) → on i ≡ true → asks P rank i ≡ asks Q rank i
  unfolding asks
  asks-alike rank i o t =
      higher (highest-elements rank (rule P i).premises (rule Q i).premises (premises_same a i (inside i o)) t)
      (highest-elements (λ k. suc (rank k)) (rule P i).constraints (rule Q i).constraints (constraints-same a i (inside i o)) t)

  lacking-alike : (rank : ℕ → ℕ) (i : ℕ) → lacking P on rank i ≡ lacking Q on rank i
  unfolding lacking
  lacking-alike rank i = and-under (on i) (λ o t. ltb (rank (conclusion_on a on inside i o t)) (asks-alike rank i o t))

  ranks_of-alike : ranks_of P on ≡ ranks_of Q on
  unfolding ranks_of lacking
  ranks_of-alike =
      ends_same (lowest_lacking P on) (lowest_lacking Q on) (raise P) (raise Q) (λ _. Unit {0})
      (λ rank _ t. seek (λ i. lacking-alike rank i t) (up_to (a.same_count t)))
      (λ rank i _ e. (raise-alike rank i (lacks-on rank i e), tt)) (suc P.facts * suc P.facts) all_zero tt
      ∙ (λ t. after (raise Q) all_zero (picks (lowest_lacking Q on) (raise Q) (suc (a.same_facts t) * suc (a.same_facts t)) all_zero))
    where
      raise-alike : (rank : ℕ → ℕ) (i : ℕ) → on i ≡ true → raise P rank i ≡ raise Q rank i
      raise-alike rank i o t f = cond (eqb f (conclusion_on a on inside i o t)) (asks-alike rank i o t) (rank f)

      lacks-on : (rank : ℕ → ℕ) (i : ℕ) → lowest_lacking P on rank ≡ some i → on i ≡ true
      lacks-on rank i e = and_left (on i) _ (seek-some (lacking P on rank) (up_to (count P)) i e).passes

  is_layered-alike : is_layered P on ≡ is_layered Q on
  unfolding is_layered
  is_layered-alike t = not (any (λ i. lacking-alike (ranks_of-alike t) i t) (up_to (a.same_count t)))

  layered_order-alike : layered_order P on ≡ layered_order Q on
  unfolding layered_order
  layered_order-alike t = by_key (alike_exception a t) (λ i. key_alike i t) (a.same_count t) 0 (suc (a.same_facts t))
    where
      key_alike : (i : ℕ) → rank_key P on (ranks_of P on) i ≡ rank_key Q on (ranks_of Q on) i
      key_alike i =
          under (on i) (λ b. cond b (ranks_of P on (rule P i).conclusion) P.facts) (λ b. cond b (ranks_of Q on (rule Q i).conclusion) Q.facts) a.same_facts
          (λ o t. ranks_of-alike t (conclusion_on a on inside i o t))

  -- The same steps are kept of a row by rules in force.
  wanted-alike : (f : ℕ) (row : List Step) → StepsOn on row → (g : ℕ) → wanted P f row g ≡ wanted Q f row g
  wanted-alike f [] o g = refl
  wanted-alike f (s ∷ row) o g =
      λ t. wanted-alike f row (λ k l. o (suc k) (omega arith)) g t
      || (wanted-alike f row (λ k l. o (suc k) (omega arith)) s.fact t && premises_same a s.by (inside s.by (o 0 (omega arith))) g t)

  kept-alike : (f : ℕ) (row : List Step) → StepsOn on row → (k : ℕ) → kept_steps P f row k ≡ kept_steps Q f row k
  kept-alike f [] o k = refl
  kept-alike f (s ∷ row) o zero = wanted-alike f row (λ k l. o (suc k) (omega arith)) s.fact
  kept-alike f (s ∷ row) o (suc k) = kept-alike f row (λ j l. o (suc j) (omega arith)) k

  run-grounds : (order : List ℕ) (f : ℕ) → grounds_of P f (run P on order).trace ≡ grounds_of Q f (run Q on order).trace
  unfolding grounds_of
  run-grounds order f =
      (λ t. select (λ k. kept-alike f (run P on order).trace (λ j l. (run-steps_on P on order j l).1) k t) (run P on order).trace)
      ∙ ap (λ s. select (kept_steps Q f s.trace) s.trace) (run-alike order)

  -- The same sets are stable, the same rows are proofs, and the same sets admit them.
  stable_alike : (M : FactSet) → Stable P on M → Stable Q on M
  stable_alike M s =
      subst (λ r. Least Q r nothing M) (reduct-alike M)
      (record {
        above = s.above;
        closed = closed-alike a (reduct P on M) (reduct-inside M) M s.closed;
        below = λ N u c. s.below N u (closed-alike (alike_sym a) (reduct P on M) (also_inside a (reduct P on M) (reduct-inside M)) N c);
      })

  proof_alike : (row : List Step) (f : ℕ) → Proof P on row f → Proof Q on row f
  proof_alike row f p =
      record {
        not_empty = p.not_empty;
        last = p.last;
        known = λ k l. rw (← a.same_count) (p.known k l);
        in-force = p.in-force;
        concludes = λ k l. sym (conclusion_on a on inside (step_at row k).by (p.in-force k l)) ∙ p.concludes k l;
        founded = λ k l. sym (premises_on a on inside (facts_of (take k row)) (step_at row k).by (p.in-force k l)) ∙ p.founded k l;
        consistent = λ k l. sym (constraints-on a on inside (facts_of row) (step_at row k).by (p.in-force k l)) ∙ p.consistent k l;
      }

  admits_alike : (M : FactSet) (row : List Step) → StepsOn on row → Admits P M row → Admits Q M row
  admits_alike M row o d k l = sym (constraints-on a on inside M (step_at row k).by (o k l)) ∙ d k l

  earlier_alike : (M N : FactSet) → Earlier P on M N → Earlier Q on M N
  earlier_alike M N e =
      record {
        highest = e.highest;
        is_constraint = same e.highest ∙ e.is_constraint;
        lacks = e.lacks;
        has = e.has;
        agree_above = λ k l c. e.agree_above k l (sym (same k) ∙ c);
      }
    where
      same : (k : ℕ) → constraint_fact Q on k ≡ constraint_fact P on k
      same k = ap (λ p. p k) (sym (constraint_alike a on inside))

module _ {P Q : Program} (a : Alike P Q) (on : Mask) (inside : OnlyInForce P on) where
  proof_admitted : (M : FactSet) (row : List Step) (f : ℕ) → Proof P on row f × Admits P M row → Proof Q on row f × Admits Q M row
  proof_admitted M row f t = (proof_alike a on inside row f t.0, admits_alike a on inside M row t.0.in-force t.1)

  earliest_alike : (ok : FactSet → Bool) (M : FactSet) → Earliest P on ok M → Earliest Q on ok M
  earliest_alike ok M e =
      record {
        stable = stable_alike a on inside M e.stable;
        passes = e.passes;
        before_others = λ N s t. ⊎_elim (λ q. inl q) (λ q. inr (earlier_alike a on inside M N q)) (e.before_others N (stable_alike (alike_sym a) on (also_inside a on inside) N s) t);
      }

module _ {P Q : Program} (a : Alike P Q) where
  -- The same sets are stable, and the same one is the earliest.
  pub alike_stable : (on : Mask) → OnlyInForce P on → (M : FactSet) → Stable P on M ↔ Stable Q on M
  alike_stable on inside M = (stable_alike a on inside M, stable_alike (alike_sym a) on (also_inside a on inside) M)

  pub alike_earliest : (on : Mask) → OnlyInForce P on → (ok : FactSet → Bool) (M : FactSet) → Earliest P on ok M ↔ Earliest Q on ok M
  alike_earliest on inside ok M = (earliest_alike a on inside ok M, earliest_alike (alike_sym a) on (also_inside a on inside) ok M)

  -- The same rows are proofs that a set admits.
  pub alike_proof : (on : Mask) → OnlyInForce P on → (M : FactSet) (row : List Step) (f : ℕ) → (Proof P on row f × Admits P M row) ↔ (Proof Q on row f × Admits Q M row)
  alike_proof on inside M row f = (proof_admitted a on inside M row f, proof_admitted (alike_sym a) on (also_inside a on inside) M row f)

  -- What is computed, by all rules in force: constraint facts, ..
  pub alike_constraint_count : how_many (constraint_fact P (in_force P)) (up_to P.facts) ≡ how_many (constraint_fact Q (in_force Q)) (up_to Q.facts)
  alike_constraint_count t = how_many (in-force a constraint_fact (constraint_alike a) t) (up_to (a.same_facts t))

  -- .. the run with its marks, what it sets aside and the steps kept of it, ..
  pub alike_run : (order : List ℕ) → run P (in_force P) order ≡ run Q (in_force Q) order
  alike_run order = in-force a (λ R on. run R on order) (λ on o. run-alike a on o order)

  pub alike_aside : set_aside P (in_force P) ≡ set_aside Q (in_force Q)
  alike_aside = in-force a set_aside (aside_alike a)

  pub alike_aside_count : (order : List ℕ) → aside_count P (in_force P) order ≡ aside_count Q (in_force Q) order
  unfolding aside_count
  alike_aside_count order t = how_many (alike_aside t (alike_run order t).derived) (up_to (a.same_count t))

  pub alike_fact_mark : (order : List ℕ) → fact_mark P (run P (in_force P) order) ≡ fact_mark Q (run Q (in_force Q) order)
  alike_fact_mark order = in-force a (λ R on. fact_mark R (run R on order)) (λ on o. run-fact_mark a on o order)

  pub alike_fact_marks : (order : List ℕ) → marks_of_facts P (run P (in_force P) order) ≡ marks_of_facts Q (run Q (in_force Q) order)
  alike_fact_marks order t = map (alike_fact_mark order t) (up_to (a.same_facts t))

  pub alike_rule_marks : (order : List ℕ) → marks_of_rules P (in_force P) (run P (in_force P) order) ≡ marks_of_rules Q (in_force Q) (run Q (in_force Q) order)
  alike_rule_marks order t = map (in-force a rule_mark (rule_mark-alike a) t (alike_run order t)) (up_to (a.same_count t))

  pub alike_grounds : (order : List ℕ) (f : ℕ) → grounds_of P f (run P (in_force P) order).trace ≡ grounds_of Q f (run Q (in_force Q) order).trace
  alike_grounds order f = in-force a (λ R on. grounds_of R f (run R on order).trace) (λ on o. run-grounds a on o order f)

  -- .. the test of stability, by the rules in force that are not listed, the proof check, ..
  pub alike_is_stable : (list : List ℕ) (M : FactSet) → is_stable P (λ i. in_force P i && not (mem i list)) M ≡ is_stable Q (λ i. in_force Q i && not (mem i list)) M
  alike_is_stable list M =
      in-force a (λ R on. is_stable R (λ i. on i && not (mem i list)) M)
      (λ on o. is_stable-alike a (λ i. on i && not (mem i list)) (λ i e. o i (and_left (on i) _ e)) M)

  pub alike_is_proof : (M : FactSet) (row : List Step) (f : ℕ) → is_proof P (in_force P) M row f ≡ is_proof Q (in_force Q) M row f
  alike_is_proof M row f = in-force a (λ R on. is_proof R on M row f) same
    where
      same : (on : Mask) → OnlyInForce P on → is_proof P on M row f ≡ is_proof Q on M row f
      same on o =
          both_ways _ _
          (λ e. (test_of_proof Q on M row f).1 ((alike_proof on o M row f).0 ((test_of_proof P on M row f).0 e)))
          (λ e. (test_of_proof P on M row f).1 ((alike_proof on o M row f).1 ((test_of_proof Q on M row f).0 e)))

  -- .. the search and its order, and the order by rank.
  pub alike_search : search P (in_force P) ≡ search Q (in_force Q)
  alike_search = in-force a search (search-alike a)

  pub alike_order_for : order_for P (in_force P) ≡ order_for Q (in_force Q)
  alike_order_for = in-force a order_for (order_for-alike a)

  pub alike_is_layered : is_layered P (in_force P) ≡ is_layered Q (in_force Q)
  alike_is_layered = in-force a is_layered (is_layered-alike a)

  pub alike_layered_order : layered_order P (in_force P) ≡ layered_order Q (in_force Q)
  alike_layered_order = in-force a layered_order (layered_order-alike a)

-- the list without repeats has the same elements, each once
mem-once : (x : ℕ) (xs : List ℕ) → mem x (once xs) ≡ mem x xs
mem-once x [] = refl
mem-once x (y ∷ ys) = go (mem y ys) refl (mem-once x ys)
  where
    go : (b : Bool) → mem y ys ≡ b → mem x (once ys) ≡ mem x ys → mem x (cond b (once ys) (y ∷ once ys)) ≡ mem x (y ∷ ys)
    go true e r =
        r ∙ both_ways (mem x ys) (mem x (y ∷ ys)) (mem-there x y ys) (λ h. ⊎_elim (λ q. rw q e) (λ q. q) (mem-cases x y ys h))
    go false e r = ap (λ c. eqb x y || c) r

pub once-each : (x : ℕ) (xs : List ℕ) → mem x xs ≡ true → how_many (eqb x) (once xs) ≡ 1
once-each x [] m = never m refl
once-each x (y ∷ ys) m = go (mem y ys) refl (once-each x ys) (either (eqb x y))
  where
    go : (b : Bool) → mem y ys ≡ b → (mem x ys ≡ true → how_many (eqb x) (once ys) ≡ 1) → (eqb x y ≡ true) ⊎ (eqb x y ≡ false) → how_many (eqb x) (cond b (once ys) (y ∷ once ys)) ≡ 1
    go true e r c = r (⊎_elim (λ q. rw q e) (λ q. q) (mem-cases x y ys m))
    go false e r (inl q) =
        let z : mem x (once ys) ≡ false = mem-once x ys ∙ rw (eqb-true x y q) e in
        rw q (ap suc (how_many-none (eqb x) (once ys) z))
    go false e r (inr q) = rw q (r (rw q at m))

-- A program without repeats within its rules is alike to it: repeats within a rule change nothing.
pub once-alike : (P : Program) → Alike (without_repeats P) P
once-alike P =
    record {
      same_facts = refl;
      same_count = same_length;
      same_withheld = λ i l. withheld-any (without_repeats P) i l ∙ (any-elements P.unread (rule (without_repeats P) i).constraints (rule P i).constraints (constraints i) ∙ sym (withheld-any P i (rw (← same_length) l)));
      same_conclusion = λ i _ _. ap (λ r. r.conclusion) (at i);
      same_premises = λ i _ _ f. ap (λ r. mem f r.premises) (at i) ∙ mem-once f (rule P i).premises;
      same_constraints = λ i _ _. constraints i;
    }
  where
    bare : Rule → Rule
    bare r = record { conclusion = r.conclusion; premises = once r.premises; constraints = once r.constraints }

    same_length : count (without_repeats P) ≡ count P
    same_length = length-map P.rules bare

    at : (i : ℕ) → rule (without_repeats P) i ≡ bare (rule P i)
    at i = get_or-map bare P.rules i blank

    constraints : (i f : ℕ) → mem f (rule (without_repeats P) i).constraints ≡ mem f (rule P i).constraints
    constraints i f = ap (λ r. mem f r.constraints) (at i) ∙ mem-once f (rule P i).constraints

-- A program whose withheld rules are struck is alike to it: what a withheld rule says changes nothing.
pub struck-alike : (P : Program) → Alike (without_withheld P) P
struck-alike P =
    record {
      same_facts = refl;
      same_count = same_length;
      same_withheld = λ i l. withheld-any (without_withheld P) i l ∙ (same_any i ∙ sym (withheld-any P i (rw (← same_length) l)));
      same_conclusion = λ i l o. ap (λ r. r.conclusion) (unstruck i l o);
      same_premises = λ i l o f. ap (λ r. mem f r.premises) (unstruck i l o);
      same_constraints = λ i l o f. ap (λ r. mem f r.constraints) (unstruck i l o);
    }
  where
    unread : List ℕ → Bool
    unread ks = any P.unread ks

    same_length : count (without_withheld P) ≡ count P
    same_length = length-map P.rules (struck P)

    at : (i : ℕ) → rule (without_withheld P) i ≡ struck P (rule P i)
    at i = get_or-map (struck P) P.rules i blank

    any-kept : (ks : List ℕ) → unread (keep P.unread ks) ≡ unread ks
    any-kept ks =
        both_ways _ _
        (λ t. let (k, m, u) = any-witness P.unread (keep P.unread ks) t in any_of P.unread ks k (and_left (mem k ks) _ (rw (mem-keep P.unread ks k) at m)) u)
        (λ t. let (k, m, u) = any-witness P.unread ks t in any_of P.unread (keep P.unread ks) k (rw (mem-keep P.unread ks k) (and_both m u)) u)

    same_any : (i : ℕ) → unread (rule (without_withheld P) i).constraints ≡ unread (rule P i).constraints
    same_any i = ap (λ r. unread r.constraints) (at i) ∙ go (rule P i) (unread (rule P i).constraints) refl
      where
        go : (r : Rule) (b : Bool) → unread r.constraints ≡ b → unread (cond b (record { conclusion = 0; premises = []; constraints = keep P.unread r.constraints }) r).constraints ≡ unread r.constraints
        go r true e = any-kept r.constraints
        go r false e = refl

    unstruck : (i : ℕ) → i < count (without_withheld P) → in_force (without_withheld P) i ≡ true → rule (without_withheld P) i ≡ rule P i
    unstruck i l o =
        let r : unread (rule P i).constraints ≡ false = sym (same_any i) ∙ (sym (withheld-any (without_withheld P) i l) ∙ on_read (without_withheld P) i o) in
        at i ∙ ap (λ b. cond b (record { conclusion = 0; premises = []; constraints = keep P.unread (rule P i).constraints }) (rule P i)) r
