-- The search: the set that it takes is the earliest stable set, where it takes none there is none, and its order names each exception rule once.
use Prim.Native.Nat.{ℕ, zero, suc, ◌<◌}
use native.Mathlib.Omega.{arith}
use mathlib.Core.Path.{◌≡◌, refl, sym, ◌∙◌, ap, fun_ext, subst}
use mathlib.Core.Bool.{Bool, true, false, ◌&&◌, beq}
use mathlib.Core.List.{List, [], ◌∷◌}
use mathlib.Core.Logic.{◌⊎◌, inl, inr, ⊎_elim, ◌↔◌}
use mathlib.Core.Option.{Option, none, some}
use borrow.Author.Tests.{eqb-true}
use lib.ListN.{length}
use lib.Dec.{eqb}
use Rattle.theory.specs.Rule.{mem, up_to, how_many, Program, Mask, FactSet, Same, nothing, adjoin, count, exception, constraint_fact}
use Rattle.theory.specs.Conditions.{Bounded, Names}
use Rattle.theory.specs.Lists.{down_from}
use Rattle.theory.specs.Check.{least_of}
use Rattle.theory.specs.Stable.{reduct, Stable, Earlier, Earliest, any_set, upheld, group_for, order_groups, order_for}
use Rattle.theory.specs.Search.{guessed, fits, hunt, search}
use Rattle.theory.proofs.Bools.{either, never, and_left, and_right, and_both, and-true, or_left, or-false, or-false_left, or-false_right, false_of, beq-true, beq-refl}
use Rattle.theory.proofs.Lists.{all-elem, all_of, mem-cases, mem-here, mem-there, mem-keep, mem-down_from, down_from-mem}
use Rattle.theory.proofs.ByKey.{Rising, rising_keep, case_below, key_once, key_only, key_length, key_names}
use Rattle.theory.proofs.Derive.{adjoin-has}
use Rattle.theory.proofs.Run.{exception-known}
use Rattle.theory.proofs.Stable.{Agree, constraint_below, least_mask, reduct-agrees, least_of-least, least_of-same, least_of-agrees, stable_agree}

-- each number of the list is below those before it
abbrev pub Descending : List ℕ → Type 0
Descending = Rising (λ k j. j < k)

-- K differs from G at numbers of the list only
abbrev pub Extends : List ℕ → FactSet → FactSet → Type 0
Extends ks G K = (j : ℕ) → mem j ks ≡ false → K j ≡ G j

-- no number of the list is in G
abbrev Open : List ℕ → FactSet → Type 0
Open ks G = (j : ℕ) → mem j ks ≡ true → G j ≡ false

-- H lacks the highest number of the list on which they differ
record EarlierOver (ks : List ℕ) (H K : FactSet) : Type 0 where
  highest : ℕ
  element : mem highest ks ≡ true
  lacks : H highest ≡ false
  has : K highest ≡ true
  agree_above : (j : ℕ) → highest < j → mem j ks ≡ true → H j ≡ K j

-- they differ on the first number of a descending list, or not there
differ_first : (k : ℕ) (ks : List ℕ) (H K : FactSet) → Descending (k ∷ ks) → H k ≡ false → K k ≡ true → EarlierOver (k ∷ ks) H K
differ_first k ks H K d o i =
    record { highest = k; element = mem-here k ks; lacks = o; has = i; agree_above = above }
  where
    above : (j : ℕ) → k < j → mem j (k ∷ ks) ≡ true → H j ≡ K j
    above j l m =
        ⊎_elim (λ w. absurd (omega arith)) (λ w. let u : j < k = d.0 j w in absurd (omega arith)) (mem-cases j k ks m)

differ_rest : (k : ℕ) (ks : List ℕ) (H K : FactSet) → H k ≡ K k → EarlierOver ks H K → EarlierOver (k ∷ ks) H K
differ_rest k ks H K e q =
    record {
      highest = q.highest;
      element = mem-there q.highest k ks q.element;
      lacks = q.lacks;
      has = q.has;
      agree_above = λ j l m. ⊎_elim (λ w. rw w e) (λ w. q.agree_above j l w) (mem-cases j k ks m);
    }

-- two sets agree on the list, or one of them is earlier
compare_over : (ks : List ℕ) (H K : FactSet) → Descending ks → ((j : ℕ) → mem j ks ≡ true → H j ≡ K j) ⊎ (EarlierOver ks H K ⊎ EarlierOver ks K H)
compare_over [] H K d = inl (λ j m. never m refl)
compare_over (k ∷ ks) H K d = go (H k) (K k) refl refl (compare_over ks H K d.1)
  where
    Compared : List ℕ → Type 0
    Compared js = ((j : ℕ) → mem j js ≡ true → H j ≡ K j) ⊎ (EarlierOver js H K ⊎ EarlierOver js K H)

    same : H k ≡ K k → Compared ks → Compared (k ∷ ks)
    same e (inl q) = inl (λ j m. ⊎_elim (λ w. rw w e) (λ w. q j w) (mem-cases j k ks m))
    same e (inr (inl q)) = inr (inl (differ_rest k ks H K e q))
    same e (inr (inr q)) = inr (inr (differ_rest k ks K H (sym e) q))

    go : (x y : Bool) → H k ≡ x → K k ≡ y → Compared ks → Compared (k ∷ ks)
    go true true u v r = same (u ∙ sym v) r
    go true false u v r = inr (inr (differ_first k ks K H d v u))
    go false true u v r = inr (inl (differ_first k ks H K d u v))
    go false false u v r = same (u ∙ sym v) r

-- they are the same, or H is earlier
abbrev NotLater : List ℕ → FactSet → FactSet → Type 0
NotLater ks H K = (H ≡ K) ⊎ EarlierOver ks H K

widen : (k : ℕ) (ks : List ℕ) (H K : FactSet) → H k ≡ K k → NotLater ks H K → NotLater (k ∷ ks) H K
widen k ks H K e (inl q) = inl q
widen k ks H K e (inr q) = inr (differ_rest k ks H K e q)

module _ (ok : FactSet → Bool) where
  hunt-some : (k : ℕ) (ks : List ℕ) (G H : FactSet) → hunt ok ks G ≡ some H → hunt ok (k ∷ ks) G ≡ some H
  hunt-some k ks G H e = rw (e, hunt)

  hunt-else : (k : ℕ) (ks : List ℕ) (G : FactSet) → ◌≡◌ {A = Option FactSet} (hunt ok ks G) none → hunt ok (k ∷ ks) G ≡ hunt ok ks (adjoin G k)
  hunt-else k ks G e = rw (e, hunt)

  -- what is found passes the test and extends G
  hunt-sound : (ks : List ℕ) (G H : FactSet) → hunt ok ks G ≡ some H → (ok H ≡ true) × Extends ks G H
  hunt-sound [] G H e = go (ok G) refl
    where
      go : (b : Bool) → ok G ≡ b → (ok H ≡ true) × Extends [] G H
      go true q =
          let s : some G ≡ some H = rw q at e in
          let h : G ≡ H = cc in
          (rw (← h) q, λ j m. ap (λ X. X j) (sym h))
      go false q =
          let s : ◌≡◌ {A = Option FactSet} none (some H) = rw q at e in
          let z : ◌≡◌ {A = ℕ} 0 1 = cc in
          absurd (omega arith)
  hunt-sound (k ∷ ks) G H e = go (hunt ok ks G) refl (hunt-sound ks)
    where
      go : (found : Option FactSet) → hunt ok ks G ≡ found → ((G' H' : FactSet) → hunt ok ks G' ≡ some H' → (ok H' ≡ true) × Extends ks G' H') → (ok H ≡ true) × Extends (k ∷ ks) G H
      go (some H') q r =
          let t : (ok H ≡ true) × Extends ks G H = r G H (q ∙ sym (hunt-some k ks G H' q) ∙ e) in
          (t.0, λ j m. t.1 j (or-false_right (eqb j k) _ m))
      go none q r =
          let t : (ok H ≡ true) × Extends ks (adjoin G k) H = r (adjoin G k) H (sym (hunt-else k ks G q) ∙ e) in
          (t.0, λ j m. t.1 j (or-false_right (eqb j k) _ m) ∙ rw (or-false_left (eqb j k) _ m) refl)

  -- if some extension of G passes the test, then one is found, and it is not later
  hunt-finds : (ks : List ℕ) (G K : FactSet) → Descending ks → Open ks G → Extends ks G K → ok K ≡ true → (H : FactSet) × (hunt ok ks G ≡ some H) × NotLater ks H K
  hunt-finds [] G K d o x t =
      let e : G ≡ K = fun_ext (λ j. sym (x j refl)) in
      (K, rw (e, t) refl, inl refl)
  hunt-finds (k ∷ ks) G K d o x t = go (K k) refl (hunt-finds ks)
    where
      Finds : Type 0
      Finds = (G K : FactSet) → Descending ks → Open ks G → Extends ks G K → ok K ≡ true → (H : FactSet) × (hunt ok ks G ≡ some H) × NotLater ks H K

      not-again : mem k ks ≡ false
      not-again = false_of (mem k ks) (λ m. let l : k < k = d.0 k m in absurd (omega arith))

      out : G k ≡ false
      out = o k (mem-here k ks)

      -- the extensions without k, and those with k
      without : K k ≡ false → Extends ks G K
      without e j m = ⊎_elim (λ q. rw (eqb-true j k q) (e ∙ sym out)) (λ q. x j (or-false (eqb j k) _ q m)) (either (eqb j k))

      with_it : K k ≡ true → Extends ks (adjoin G k) K
      with_it e j m =
          ⊎_elim
          (λ q. ap K (eqb-true j k q) ∙ e ∙ sym (or_left (eqb j k) (G j) q))
          (λ q. x j (or-false (eqb j k) _ q m) ∙ rw q refl)
          (either (eqb j k))

      later : K k ≡ true → Finds → (found : Option FactSet) → hunt ok ks G ≡ found → (H : FactSet) × (hunt ok (k ∷ ks) G ≡ some H) × NotLater (k ∷ ks) H K
      later e r (some H) q =
          (H, hunt-some k ks G H q, inr (differ_first k ks H K d ((hunt-sound ks G H q).1 k not-again ∙ out) e))
      later e r none q =
          let (H, h, n) = r (adjoin G k) K d.1 open_still (with_it e) t in
          (H, hunt-else k ks G q ∙ h, widen k ks H K ((hunt-sound ks (adjoin G k) H h).1 k not-again ∙ adjoin-has G k ∙ sym e) n)
        where
          open_still : Open ks (adjoin G k)
          open_still j m =
              or-false (eqb j k) (G j)
              (false_of (eqb j k) (λ w. let u : j < k = d.0 j m in let z : j ≡ k = eqb-true j k w in absurd (omega arith)))
              (o j (mem-there j k ks m))

      go : (b : Bool) → K k ≡ b → Finds → (H : FactSet) × (hunt ok (k ∷ ks) G ≡ some H) × NotLater (k ∷ ks) H K
      go false e r =
          let (H, q, n) = r G K d.1 (λ j m. o j (mem-there j k ks m)) (without e) t in
          (H, hunt-some k ks G H q, widen k ks H K ((hunt-sound ks G H q).1 k not-again ∙ out ∙ sym e) n)
      go true e r = later e r (hunt ok ks G) refl

down_from-descending : (n : ℕ) → Descending (down_from n)
down_from-descending zero = tt
down_from-descending (suc n) = (mem-down_from n, down_from-descending n)

module _ (P : Program) (on : Mask) where
  -- The guessed facts stand from the highest-numbered down, ..
  guessed-descending : Descending (guessed P on)
  unfolding guessed
  guessed-descending = rising_keep (λ k j. j < k) (λ k j. j < k) (constraint_fact P on) (λ k j t u l. l) (down_from P.facts) (down_from-descending P.facts)

  -- .. and are the constraint facts.
  pub guessed-constraint : (k : ℕ) → mem k (guessed P on) ≡ true → constraint_fact P on k ≡ true
  unfolding guessed
  guessed-constraint k m = and_right (mem k (down_from P.facts)) _ (sym (mem-keep (constraint_fact P on) (down_from P.facts) k) ∙ m)

  pub constraint_guessed : Bounded P → (k : ℕ) → constraint_fact P on k ≡ true → mem k (guessed P on) ≡ true
  unfolding guessed
  constraint_guessed b k h =
      mem-keep (constraint_fact P on) (down_from P.facts) k ∙ and_both (down_from-mem P.facts k (constraint_below P on b k h)) h

  -- what a guess says of the guessed facts, its least set says too
  fits-agree : Bounded P → (G : FactSet) → fits P on G ≡ true → Agree P on (least_of P on G) G
  unfolding fits
  fits-agree b G f k h =
      beq-true (least_of P on G k) (G k) (all-elem (λ j. beq (least_of P on G j) (G j)) (guessed P on) f k (constraint_guessed b k h))

  -- The least set of a guess that fits is stable.
  pub fits-stable : Bounded P → (G : FactSet) → fits P on G ≡ true → Stable P on (least_of P on G)
  fits-stable b G f =
      least_mask P (reduct P on G) (reduct P on (least_of P on G)) nothing (least_of P on G)
      (λ i l. sym (reduct-agrees P on (least_of P on G) G (fits-agree b G f) i l)) (least_of-least P on G)

  -- the guessed facts of N
  abbrev guess_of : FactSet → FactSet
  guess_of N k = mem k (guessed P on) && N k

  guess_agrees : Bounded P → (N : FactSet) → Agree P on (guess_of N) N
  guess_agrees b N k h = rw (constraint_guessed b k h) refl

  guess_least : Bounded P → (N : FactSet) → Stable P on N → least_of P on (guess_of N) ≡ N
  guess_least b N s = least_of-agrees P on (guess_of N) N (guess_agrees b N) ∙ least_of-same P on N N s

  -- No stable set is lost: its guessed facts fit.
  pub guess_fits : Bounded P → (N : FactSet) → Stable P on N → fits P on (guess_of N) ≡ true
  unfolding fits
  guess_fits b N s =
      all_of (λ j. beq (least_of P on (guess_of N) j) (guess_of N j)) (guessed P on)
      (λ k m. beq-refl _ _ (ap (λ X. X k) (guess_least b N s) ∙ sym (guess_agrees b N k (guessed-constraint k m))))

  -- the guess fits, and its least set passes a test
  abbrev fits_and : (FactSet → Bool) → FactSet → Bool
  fits_and ok G = fits P on G && ok (least_of P on G)

  fits-any : fits_and any_set ≡ fits P on
  fits-any = fun_ext (λ G. and-true (fits P on G))

  -- some guess is found for every stable set that passes, and it is not later
  found : Bounded P → (ok : FactSet → Bool) (N : FactSet) → Stable P on N → ok N ≡ true → (G : FactSet) × (hunt (fits_and ok) (guessed P on) nothing ≡ some G) × NotLater (guessed P on) G (guess_of N)
  found b ok N s t =
      hunt-finds (fits_and ok) (guessed P on) nothing (guess_of N) guessed-descending (λ j m. refl) (λ j m. rw m refl)
      (and_both (guess_fits b N s) (ap ok (guess_least b N s) ∙ t))

  -- the search takes the least set of the first guess that fits
  search-of : (G : FactSet) → hunt (fits P on) (guessed P on) nothing ≡ some G → search P on ≡ some (least_of P on G)
  unfolding search
  search-of G e = rw (e, search) refl

  search-from : (M : FactSet) → search P on ≡ some M → (G : FactSet) × (hunt (fits P on) (guessed P on) nothing ≡ some G) × (least_of P on G ≡ M)
  unfolding search
  search-from M e = go (hunt (fits P on) (guessed P on) nothing) refl
    where
      go : (o : Option FactSet) → hunt (fits P on) (guessed P on) nothing ≡ o → (G : FactSet) × (hunt (fits P on) (guessed P on) nothing ≡ some G) × (least_of P on G ≡ M)
      go (some G) q = let s : search P on ≡ some (least_of P on G) = search-of G q in (G, q, (cc))
      go none q =
          let s : ◌≡◌ {A = Option FactSet} none (some M) = rw (q, search) at e in
          let z : ◌≡◌ {A = ℕ} 0 1 = cc in
          absurd (omega arith)

  -- earlier over the guessed facts is earlier
  earlier_from : Bounded P → (M H K N : FactSet) → Agree P on M H → Agree P on K N → EarlierOver (guessed P on) H K → Earlier P on M N
  earlier_from b M H K N u v q =
      let c : constraint_fact P on q.highest ≡ true = guessed-constraint q.highest q.element in
      record {
        highest = q.highest;
        is_constraint = c;
        lacks = u q.highest c ∙ q.lacks;
        has = sym (v q.highest c) ∙ q.has;
        agree_above = λ k l h. u k h ∙ q.agree_above k l (constraint_guessed b k h) ∙ v k h;
      }

  -- Of two different stable sets one is earlier.
  pub earlier_total : Bounded P → (M N : FactSet) → Stable P on M → Stable P on N → Same M N ⊎ (Earlier P on M N ⊎ Earlier P on N M)
  earlier_total b M N s t = go (compare_over (guessed P on) M N guessed-descending)
    where
      go : ((k : ℕ) → mem k (guessed P on) ≡ true → M k ≡ N k) ⊎ (EarlierOver (guessed P on) M N ⊎ EarlierOver (guessed P on) N M) → Same M N ⊎ (Earlier P on M N ⊎ Earlier P on N M)
      go (inl q) = inl (stable_agree P on M N s t (λ k h. q k (constraint_guessed b k h)))
      go (inr (inl q)) = inr (inl (earlier_from b M M N N (λ k h. refl) (λ k h. refl) q))
      go (inr (inr q)) = inr (inr (earlier_from b N N M M (λ k h. refl) (λ k h. refl) q))

  -- the first guess that fits and passes gives the earliest stable set that passes
  first-earliest : Bounded P → (ok : FactSet → Bool) (G : FactSet) → hunt (fits_and ok) (guessed P on) nothing ≡ some G → Earliest P on ok (least_of P on G)
  first-earliest b ok G e = record { stable = fits-stable b G fit; passes = and_right (fits P on G) _ taken; before_others = others }
    where
      taken : fits_and ok G ≡ true
      taken = (hunt-sound (fits_and ok) (guessed P on) nothing G e).0

      fit : fits P on G ≡ true
      fit = and_left (fits P on G) _ taken

      meets : Agree P on (least_of P on G) G
      meets = fits-agree b G fit

      join : (N : FactSet) → Stable P on N → NotLater (guessed P on) G (guess_of N) → Same (least_of P on G) N ⊎ Earlier P on (least_of P on G) N
      join N s (inl q) = inl (λ f. ap (λ X. X f) (ap (least_of P on) q ∙ guess_least b N s))
      join N s (inr q) = inr (earlier_from b (least_of P on G) G (guess_of N) N meets (guess_agrees b N) q)

      others : (N : FactSet) → Stable P on N → ok N ≡ true → Same (least_of P on G) N ⊎ Earlier P on (least_of P on G) N
      others N s t =
          let (H, h, n) = found b ok N s t in
          let g : H ≡ G = cc in
          join N s (rw g at n)

  -- The set that the search takes is the earliest stable set.
  pub search-earliest : Bounded P → (M : FactSet) → search P on ≡ some M → Earliest P on any_set M
  search-earliest b M e =
      let (G, h, q) = search-from M e in
      subst (Earliest P on any_set) q (first-earliest b any_set G (rw fits-any h))

  -- Where it takes none, no set is stable.
  pub search-none : Bounded P → ◌≡◌ {A = Option FactSet} (search P on) none → (M : FactSet) → Stable P on M → ⊥
  search-none b e M s =
      let (G, h, n) = found b any_set M s refl in
      let q : search P on ≡ some (least_of P on G) = search-of G (rw fits-any at h) in
      let z : ◌≡◌ {A = ℕ} 0 1 = cc in
      omega arith

  -- Of two sets at most one is earlier.
  pub earlier_once : (M N : FactSet) → Earlier P on M N → Earlier P on N M → ⊥
  earlier_once M N u v =
      let a : ¬ (u.highest < v.highest) = not-above M N u v in
      let b : ¬ (v.highest < u.highest) = not-above N M v u in
      let e : u.highest ≡ v.highest = omega arith in
      never (ap M e ∙ v.has) u.lacks
    where
      not-above : (M N : FactSet) (u : Earlier P on M N) (v : Earlier P on N M) → ¬ (u.highest < v.highest)
      not-above M N u v l = never v.has (u.agree_above v.highest l v.is_constraint ∙ v.lacks)

  -- Of the stable sets that pass a test at most one is the earliest, ..
  pub earliest_unique : (ok : FactSet → Bool) (M N : FactSet) → Earliest P on ok M → Earliest P on ok N → Same M N
  earliest_unique ok M N u v =
      ⊎_elim (λ e. e)
      (λ e. ⊎_elim (λ g f. sym (g f)) (λ g. absurd (earlier_once M N e g)) (v.before_others M u.stable u.passes))
      (u.before_others N v.stable v.passes)

  -- .. and there is one exactly when some stable set passes.
  pub earliest_exists : Bounded P → (ok : FactSet → Bool) → ((M : FactSet) × Stable P on M × (ok M ≡ true)) ↔ ((M : FactSet) × Earliest P on ok M)
  earliest_exists b ok = (into, λ t. (t.0, t.1.stable, t.1.passes))
    where
      into : (M : FactSet) × Stable P on M × (ok M ≡ true) → (M : FactSet) × Earliest P on ok M
      into t = let (G, h, n) = found b ok t.0 t.1 t.2 in (least_of P on G, first-earliest b ok G h)

  -- The search takes exactly the earliest stable set.
  pub search-exactly : Bounded P → (M : FactSet) → (search P on ≡ some M) ↔ Earliest P on any_set M
  search-exactly b M = (search-earliest b M, λ e. go e (search P on) refl)
    where
      go : Earliest P on any_set M → (o : Option FactSet) → search P on ≡ o → search P on ≡ some M
      go e (some N) q = let n : N ≡ M = fun_ext (earliest_unique any_set N M (search-earliest b N q) e) in rw n at q
      go e none q = absurd (search-none b q M e.stable)

  -- every rule is of one of the groups of the order
  group_below : (M : FactSet) (i : ℕ) → group_for P on M i < order_groups
  group_below M i = case_below order_groups ((upheld P on M i, 0) ∷ (on i, 1) ∷ []) 2 refl (omega arith)

  -- It names each exception rule once, and no other.
  pub order-once : (M : FactSet) (r : ℕ) → exception P r ≡ true → how_many (eqb r) (order_for P on M) ≡ 1
  unfolding order_for
  order-once M r e = key_once (exception P) (group_for P on M) (count P) order_groups (group_below M) r (exception-known P on r e) e

  pub order-only : (M : FactSet) (r : ℕ) → exception P r ≡ false → how_many (eqb r) (order_for P on M) ≡ 0
  unfolding order_for
  order-only M r e = key_only (exception P) (group_for P on M) (count P) order_groups (group_below M) r e

  -- It is as long as there are exception rules.
  pub order-length : (M : FactSet) → length (order_for P on M) ≡ how_many (exception P) (up_to (count P))
  unfolding order_for
  order-length M = key_length (exception P) (group_for P on M) (count P) order_groups (group_below M)

  -- It names every exception rule in force.
  pub order-names : (M : FactSet) → Names P on (order_for P on M)
  unfolding order_for
  order-names M r e o = key_names (exception P) (group_for P on M) (count P) order_groups (group_below M) r (exception-known P on r e) e
