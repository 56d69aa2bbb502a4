-- Chains of dependencies: no rank rises along them, and over a constraint it falls, so where there are ranks no cycle goes through a constraint;
-- and where there is no such cycle there are ranks, none above the number of constraint facts.
use Prim.Native.Nat.{ℕ, ◌≤◌, ◌<◌}
use native.Mathlib.Omega.{arith}
use mathlib.Core.Path.{◌≡◌, refl, sym, ap, ◌∙◌}
use mathlib.Core.Bool.{Bool, true, false, cond, not, ◌&&◌, ◌||◌}
use mathlib.Core.List.{List, [], ◌∷◌, ◌++◌}
use mathlib.Core.Logic.{◌⊎◌, inl, inr, ⊎_elim}
use mathlib.Core.Option.{Option, none, some}
use borrow.Author.Tests.{eqb-true, ltb-true}
use lib.Dec.{eqb, ltb}
use Rattle.theory.specs.Rule.{all, any, mem, up_to, how_many, Program, Mask, FactSet, Sub, nothing, adjoin, count, rule, constraint_fact}
use Rattle.theory.specs.Conditions.{Bounded}
use Rattle.theory.specs.Lists.{seek}
use Rattle.theory.specs.Walk.{picks, after}
use Rattle.theory.specs.Layers.{Ranks, Link, Depends, Chain, barred, Cycle}
use Rattle.theory.proofs.Bools.{either, never, and_left, and_right, and_both, or_left, or_right, or_cases, or_assoc, not_of_false, false_of}
use Rattle.theory.proofs.Lists.{Found, seek-some, seek-none, all-elem, any-witness, any_of, up_to-mem, mem-up_to, how_many-mono, how_many-less}
use Rattle.theory.proofs.Counted.{counted_most, counted_below}
use Rattle.theory.proofs.Derive.{missing, adjoin-above, adjoin-has, out_below}
use Rattle.theory.proofs.Stable.{constraint_of}
use Rattle.theory.proofs.Walk as walk

-- where none of the numbers below n passes a test, each fails it
pub none_below : (p : ℕ → Bool) (n : ℕ) → any p (up_to n) ≡ false → (k : ℕ) → k < n → p k ≡ false
none_below p n e k l = false_of (p k) (λ t. never (any_of p (up_to n) k (up_to-mem n k l) t) e)

abbrev link : ℕ → ℕ → Bool → Link
link i f b = record { by = i; to = f; barring = b }

pub barred-join : (ls ms : List Link) → barred (ls ++ ms) ≡ barred ls || barred ms
barred-join [] ms = refl
barred-join (l ∷ ls) ms = rw (barred-join ls ms) (or_assoc l.barring (barred ls) (barred ms))

module _ (P : Program) (on : Mask) where
  pub chain_join : (f g h : ℕ) (ls ms : List Link) → Chain P on f ls g → Chain P on g ms h → Chain P on f (ls ++ ms) h
  chain_join f g h [] ms c d = rw c d
  chain_join f g h (l ∷ ls) ms c d = (c.0, chain_join l.to g h ls ms c.1 d)

  -- what a rule in force names its conclusion depends on
  named : (i g : ℕ) (b : Bool) → i < count P → on i ≡ true → mem g (cond b (rule P i).constraints (rule P i).premises) ≡ true → Depends P on (rule P i).conclusion (link i g b)
  named i g b l o m = record { known = l; in-force = o; concludes = refl; names = m }

  -- a chain with that dependency at its end
  chain_next : (f : ℕ) (ls : List Link) (i g : ℕ) (b : Bool) → Chain P on f ls (rule P i).conclusion → Depends P on (rule P i).conclusion (link i g b) → Chain P on f (ls ++ (link i g b ∷ [])) g
  chain_next f ls i g b c d = chain_join f (rule P i).conclusion g ls (link i g b ∷ []) c (d, refl)

  -- No rank rises along a dependency, and over a constraint it falls.
  module _ (rank : ℕ → ℕ) (r : Ranks P on rank) where
    link-rank : (f : ℕ) (l : Link) → Depends P on f l → (rank l.to ≤ rank f) × (l.barring ≡ true → rank l.to < rank f)
    link-rank f l d = go l.barring d.names
      where
        go : (b : Bool) → mem l.to (cond b (rule P l.by).constraints (rule P l.by).premises) ≡ true → (rank l.to ≤ rank f) × (b ≡ true → rank l.to < rank f)
        go true m =
            let falls : rank l.to < rank f = rw (← d.concludes) (r.above l.by d.known d.in-force l.to m) in
            (omega arith, λ _. falls)
        go false m = (rw (← d.concludes) (r.not_below l.by d.known d.in-force l.to m), λ e. never e refl)

    pub chain_rank : (f : ℕ) (ls : List Link) (g : ℕ) → Chain P on f ls g → rank g ≤ rank f
    chain_rank f [] g c = rw c (omega arith)
    chain_rank f (l ∷ ls) g c =
        let rest : rank g ≤ rank l.to = chain_rank l.to ls g c.1 in
        let here : rank l.to ≤ rank f = (link-rank f l c.0).0 in
        omega arith

    pub barred-rank : (f : ℕ) (ls : List Link) (g : ℕ) → Chain P on f ls g → barred ls ≡ true → rank g < rank f
    barred-rank f [] g c t = never t refl
    barred-rank f (l ∷ ls) g c t =
        let rest : rank g ≤ rank l.to = chain_rank l.to ls g c.1 in
        let here : rank l.to ≤ rank f = (link-rank f l c.0).0 in
        ⊎_elim
        (λ e. let falls : rank l.to < rank f = (link-rank f l c.0).1 e in omega arith)
        (λ e. let falls : rank g < rank l.to = barred-rank l.to ls g c.1 e in omega arith)
        (or_cases l.barring _ t)

    pub no-cycle : Cycle P on → ⊥
    no-cycle c =
        let falls : rank c.at < rank c.at = barred-rank c.at c.links c.at c.chain c.through in
        omega arith

  -- Reachability: the facts that f depends on through any number of dependencies, f among them. The next one is a fact outside the set that a
  -- rule in force with its conclusion in the set names.
  abbrev mentions : ℕ → ℕ → Bool
  mentions i g = mem g (rule P i).premises || mem g (rule P i).constraints

  abbrev leads : FactSet → ℕ → ℕ → Bool
  leads S g i = on i && (S (rule P i).conclusion && mentions i g)

  abbrev next : FactSet → ℕ → Bool
  next S g = not (S g) && any (leads S g) (up_to (count P))

  abbrev lowest_next : FactSet → Option ℕ
  lowest_next S = seek (next S) (up_to P.facts)

  unfoldable reach : ℕ → FactSet
  reach f = after adjoin (adjoin nothing f) (picks lowest_next adjoin P.facts (adjoin nothing f))

  -- each fact reached is at the end of a chain
  abbrev Reached : ℕ → FactSet → Type 0
  Reached f S = (g : ℕ) → S g ≡ true → (ls : List Link) × Chain P on f ls g

  reach-more : (f : ℕ) (S : FactSet) (g : ℕ) → Reached f S → lowest_next S ≡ some g → Reached f (adjoin S g)
  reach-more f S g r e h t = ⊎_elim (λ q. rw (eqb-true h g q) to_next) (r h) (or_cases (eqb h g) _ t)
    where
      through : (i : ℕ) (b : Bool) → S (rule P i).conclusion ≡ true → Depends P on (rule P i).conclusion (link i g b) → (ls : List Link) × Chain P on f ls g
      through i b q d = let (ls, c) = r (rule P i).conclusion q in (ls ++ (link i g b ∷ []), chain_next f ls i g b c d)

      to_next : (ls : List Link) × Chain P on f ls g
      to_next =
          let found : Found (next S) (up_to P.facts) g = seek-some _ _ g e in
          let (i, m, q) = any-witness (leads S g) (up_to (count P)) (and_right (not (S g)) _ found.passes) in
          let known : i < count P = mem-up_to (count P) i m in
          let inside : S (rule P i).conclusion && mentions i g ≡ true = and_right (on i) _ q in
          ⊎_elim
          (λ n. through i false (and_left _ _ inside) (named i g false known (and_left _ _ q) n))
          (λ n. through i true (and_left _ _ inside) (named i g true known (and_left _ _ q) n))
          (or_cases (mem g (rule P i).premises) _ (and_right (S (rule P i).conclusion) _ inside))

  reach-chain : (f g : ℕ) → reach f g ≡ true → (ls : List Link) × Chain P on f ls g
  unfolding reach
  reach-chain f = walk.kept lowest_next adjoin (Reached f) (reach-more f) P.facts (adjoin nothing f) start
    where
      start : Reached f (adjoin nothing f)
      start g t = ⊎_elim (λ e. ([], sym (eqb-true g f e))) (λ e. never e refl) (or_cases (eqb g f) _ t)

  reach-self : (f : ℕ) → reach f f ≡ true
  unfolding reach
  reach-self f = walk.kept lowest_next adjoin (λ S. S f ≡ true) (λ S g t _. adjoin-above S g f t) P.facts (adjoin nothing f) (adjoin-has nothing f)

  -- nothing is next at the end
  reach-end : (f : ℕ) → ◌≡◌ {A = Option ℕ} (lowest_next (reach f)) none
  unfolding reach
  reach-end f =
      walk.ends lowest_next adjoin (λ _. Unit {0}) (missing P.facts) (λ S g _ e. (tt, fewer S g (seek-some _ _ g e))) P.facts (adjoin nothing f) tt
      (counted_most (λ g. not (adjoin nothing f g)) P.facts)
    where
      fewer : (S : FactSet) (g : ℕ) → Found (next S) (up_to P.facts) g → missing P.facts (adjoin S g) < missing P.facts S
      fewer S g found =
          how_many-less (λ h. not (S h)) (λ h. not (adjoin S g h)) (up_to P.facts)
          (λ h t. out_below S (adjoin S g) h (adjoin-above S g) t)
          g found.element (and_left _ _ found.passes) (rw (adjoin-has S g) refl)

  -- The constraints that bar f: those of the rules in force whose conclusions f reaches.
  abbrev bars_by : ℕ → ℕ → ℕ → Bool
  bars_by f k i = on i && (reach f (rule P i).conclusion && mem k (rule P i).constraints)

  unfoldable bars : ℕ → ℕ → Bool
  bars f k = any (bars_by f k) (up_to (count P))

  bars-of : (f k i : ℕ) → i < count P → on i ≡ true → reach f (rule P i).conclusion ≡ true → mem k (rule P i).constraints ≡ true → bars f k ≡ true
  unfolding bars
  bars-of f k i l o r m = any_of (bars_by f k) (up_to (count P)) i (up_to-mem (count P) i l) (and_both o (and_both r m))

  bars-from : (f k : ℕ) → bars f k ≡ true → (i : ℕ) × (i < count P) × (on i ≡ true) × (reach f (rule P i).conclusion ≡ true) × (mem k (rule P i).constraints ≡ true)
  unfolding bars
  bars-from f k t =
      let (i, m, q) = any-witness (bars_by f k) (up_to (count P)) t in
      let q' : reach f (rule P i).conclusion && mem k (rule P i).constraints ≡ true = and_right (on i) _ q in
      (i, mem-up_to (count P) i m, and_left _ _ q, and_left _ _ q', and_right (reach f (rule P i).conclusion) _ q')

  -- A fact that bars itself closes a cycle: from it to the conclusion of the rule, and over the constraint back.
  bars-cycle : (k : ℕ) → bars k k ≡ true → Cycle P on
  bars-cycle k t =
      let (i, l, o, r, m) = bars-from k k t in
      let (ls, c) = reach-chain k (rule P i).conclusion r in
      record {
        at = k;
        links = ls ++ (link i k true ∷ []);
        chain = chain_next k ls i k true c (named i k true l o m);
        through = barred-join ls (link i k true ∷ []) ∙ or_right (barred ls) _ refl;
      }

  -- Where no fact bars itself, the number of facts that bar a fact is its rank.
  abbrev bar_count : ℕ → ℕ
  bar_count f = how_many (bars f) (up_to P.facts)

  module _ (b : Bounded P) where
    -- a dependency is on a fact of the program that its rule mentions
    link-mentions : (f : ℕ) (l : Link) → Depends P on f l → (mentions l.by l.to ≡ true) × (l.to < P.facts)
    link-mentions f l d = go l.barring d.names
      where
        below : (fs : List ℕ) → all (λ g. ltb g P.facts) fs ≡ true → mem l.to fs ≡ true → l.to < P.facts
        below fs a m = ltb-true _ _ (all-elem (λ g. ltb g P.facts) fs a l.to m)

        go : (c : Bool) → mem l.to (cond c (rule P l.by).constraints (rule P l.by).premises) ≡ true → (mentions l.by l.to ≡ true) × (l.to < P.facts)
        go true m = (or_right (mem l.to (rule P l.by).premises) _ m, below (rule P l.by).constraints (b.constraints_below l.by d.known) m)
        go false m = (or_left _ _ m, below (rule P l.by).premises (b.premises_below l.by d.known) m)

    -- what f reaches is closed under dependencies
    reach-link : (f g : ℕ) (l : Link) → reach f g ≡ true → Depends P on g l → reach f l.to ≡ true
    reach-link f g l r d = ⊎_elim (λ e. e) (λ e. never (and_both (not_of_false e) led) last) (either (reach f l.to))
      where
        led : any (leads (reach f) l.to) (up_to (count P)) ≡ true
        led =
            any_of (leads (reach f) l.to) (up_to (count P)) l.by (up_to-mem (count P) l.by d.known)
            (and_both d.in-force (and_both (ap (reach f) d.concludes ∙ r) (link-mentions g l d).0))

        last : next (reach f) l.to ≡ false
        last = seek-none (next (reach f)) (up_to P.facts) (reach-end f) l.to (up_to-mem P.facts l.to (link-mentions g l d).1)

    reach-along : (f g : ℕ) (ls : List Link) (h : ℕ) → reach f g ≡ true → Chain P on g ls h → reach f h ≡ true
    reach-along f g [] h r c = rw (← c) r
    reach-along f g (l ∷ ls) h r c = reach-along f l.to ls h (reach-link f g l r c.0) c.1

    -- what bars a fact bars whatever depends on it
    bars-link : (f : ℕ) (l : Link) → Depends P on f l → Sub (bars l.to) (bars f)
    bars-link f l d k t =
        let (i, u, o, r, m) = bars-from l.to k t in
        let (ls, c) = reach-chain l.to (rule P i).conclusion r in
        bars-of f k i u o (reach-along f f (l ∷ ls) (rule P i).conclusion (reach-self f) (d, c)) m

    bar_ranks : ((k : ℕ) → k < P.facts → bars k k ≡ false) → Ranks P on bar_count
    bar_ranks free = record { not_below = over-premise; above = over-constraint }
      where
        over-premise : (i : ℕ) → i < count P → on i ≡ true → (f : ℕ) → mem f (rule P i).premises ≡ true → bar_count f ≤ bar_count (rule P i).conclusion
        over-premise i u o f m = how_many-mono _ _ (up_to P.facts) (bars-link (rule P i).conclusion (link i f false) (named i f false u o m))

        over-constraint : (i : ℕ) → i < count P → on i ≡ true → (f : ℕ) → mem f (rule P i).constraints ≡ true → bar_count f < bar_count (rule P i).conclusion
        over-constraint i u o f m =
            let d : Depends P on (rule P i).conclusion (link i f true) = named i f true u o m in
            let low : f < P.facts = (link-mentions (rule P i).conclusion (link i f true) d).1 in
            let barred-by : bars (rule P i).conclusion f ≡ true = bars-of (rule P i).conclusion f i u o (reach-self (rule P i).conclusion) m in
            how_many-less _ _ (up_to P.facts) (bars-link (rule P i).conclusion (link i f true) d) f (up_to-mem P.facts f low) barred-by (free f low)

    pub cycle_or_ranks : Cycle P on ⊎ ((rank : ℕ → ℕ) × Ranks P on rank × ((f : ℕ) → rank f ≤ how_many (constraint_fact P on) (up_to P.facts)) × ((f : ℕ) → f < P.facts → rank f < P.facts))
    cycle_or_ranks =
        ⊎_elim
        (λ e. let (k, _, t) = any-witness (λ k. bars k k) (up_to P.facts) e in inl (bars-cycle k t))
        (λ e. let free = none_below (λ k. bars k k) P.facts e in inr (bar_count, bar_ranks free, few, λ f l. counted_below (bars f) P.facts f l (free f l)))
        (either (any (λ k. bars k k) (up_to P.facts)))
      where
        few : (f : ℕ) → bar_count f ≤ how_many (constraint_fact P on) (up_to P.facts)
        few f = how_many-mono (constraint_fact P on) (bars f) (up_to P.facts) (λ k t. let (i, u, o, _, m) = bars-from f k t in constraint_of P on i k u o m)
