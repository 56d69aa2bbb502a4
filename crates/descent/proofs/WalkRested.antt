-- Between two walks no fact is open: how the first walk begins, how a walk from a fact begins, and how it ends.
use Prim.Native.Nat.{ℕ, ◌≤◌, ◌<◌}
use native.Mathlib.Omega.{arith}
use mathlib.Core.Path.{◌≡◌, refl, subst}
use mathlib.Core.List.{List}
use mathlib.Core.Logic.{inl, ⊎_elim}
use lib.ListN.{length, get_or, replicate, length-replicate, get_or-replicate}
use lib.Dec.{eqb}
use Rattle.theory.specs.Rule.{Program, in_force, count, rule}
use Rattle.theory.specs.Conditions.{Bounded}
use Rattle.theory.specs.Layers.{Ranks, Cycle}
use Rattle.theory.specs.Places.{rank_in}
use Rattle.theory.proofs.Lists.{zeros}
use Rattle.theory.proofs.Ranks.{cycle_unlayered, ranks_layered}
use Rattle.theory.proofs.Counted.{counted_most}
use Rattle.items.specs.Item.{narrow, max_facts, max_rules}
use Rattle.tables.specs.Ranking.{RanksSoFar}
use Rattle.threads.specs.Threads.{Threaded}
use Rattle.components.specs.Open.{unmet, closed, seen_of, Walking}
use Rattle.std.specs.Prelude.{Ok, Err}
use Rattle.components.specs.declared.look.Cyclic.{Cyclic}
use Rattle.descent.specs.Standing.{rule_key, WasLooked, Rests, RanksFound}
use Rattle.descent.proofs.ThreadsBegun.{threads_begin, none_before}

-- Nothing was met at first.
none_met : (P : Program) (seen stack roots : List ℕ) → P.facts < max_facts narrow → seen ≡ replicate (max_facts narrow) unmet → length stack ≡ max_facts narrow → length roots ≡ max_facts narrow → Walking P seen stack roots 0 0
none_met P seen stack roots few all-unmet stack_places root_places =
    record {
      seen_places = rw all-unmet (length-replicate (max_facts narrow) unmet);
      stack_places = stack_places;
      root_places = root_places;
      room = omega (arith, counted_most (λ f. eqb (seen_of seen f) unmet) P.facts);
      few = few;
      fact_there = λ a l. absurd (omega arith);
      place_there = λ f low is_open. absurd (omega (arith, not-met f low));
      opener_earlier = λ a h l. absurd (omega arith);
      opener_rooted = λ a t h l. absurd (omega arith);
      first_root = λ l. absurd (omega arith);
      root_inside = λ t l. absurd (omega arith);
      ascending = λ t u l h. absurd (omega arith);
      reaches = λ a b l. absurd (omega arith);
      barred_root = λ t l. absurd (omega arith);
    }
  where
    not-met : (f : ℕ) → f < P.facts → seen_of seen f ≡ unmet
    not-met f low = rw all-unmet (get_or-replicate (max_facts narrow) f unmet 0 (omega arith))

-- Rank 0 is not too high for any fact.
none_ranked : (P : Program) (ranks : List ℕ) → ranks ≡ replicate (max_facts narrow) 0 → RanksSoFar P ranks
none_ranked P ranks e =
    rw e
    (record {
      places = length-replicate {A = ℕ} (max_facts narrow) 0;
      low = λ f. omega (arith, zeros (max_facts narrow) f);
      under = λ rank r f. omega (arith, zeros (max_facts narrow) f);
    })

pub rests-first :
    (P : Program) {keys todo next seen stack roots ranks : List ℕ} {n : ℕ} → Bounded P → P.facts < max_facts narrow → count P ≤ max_rules → ((i : ℕ) → i < count P → get_or keys i 0 ≡ rule_key P i) → n ≡ count P → Threaded keys n todo next
    → seen ≡ replicate (max_facts narrow) unmet → length stack ≡ max_facts narrow → length roots ≡ max_facts narrow → ranks ≡ replicate (max_facts narrow) 0 → Rests P seen stack roots todo next ranks
rests-first P {keys} {todo} {next} {seen} {stack} {roots} {ranks} b few few_rules told all-rules threaded all-unmet stack_places root_places no-ranks =
    record {
      walking = walking;
      threads = threads_begin P keys todo next b few told strung;
      so_far = none_ranked P ranks no-ranks;
      looked =
          record {
            bounds = b;
            few_rules = few_rules;
            known = λ f l. inl (not-met f l);
            premises = λ i h on d. absurd (none_looked i h d);
            constraints = λ i h on d. absurd (none_looked i h d);
            none_yet = λ i h on e. none_before P keys todo next b few told strung (rule P i).conclusion i (record { known = h; in-force = on; concludes = refl });
            none_behind = λ f l is_open. absurd (omega (arith, not-met f l));
            none_between = λ c f l. absurd (omega arith);
            few_ranks = λ f. omega (arith, rank_zero f, walking.room);
            closed_fewer = λ f l e. absurd (omega (arith, not-met f l));
          };
    }
  where
    walking : Walking P seen stack roots 0 0
    walking = none_met P _ _ _ few all-unmet stack_places root_places

    strung : Threaded keys (count P) todo next
    strung = subst (λ m. Threaded keys m todo next) all-rules threaded

    not-met : (f : ℕ) → f < P.facts → seen_of seen f ≡ unmet
    not-met f low = rw all-unmet (get_or-replicate (max_facts narrow) f unmet 0 (omega arith))

    rank_zero : (f : ℕ) → rank_in ranks f ≡ 0
    rank_zero f = rw no-ranks (zeros (max_facts narrow) f)

    none_looked : (i : ℕ) → i < count P → WasLooked P seen todo i → ⊥
    none_looked i h d = let u = not-met (rule P i).conclusion (b.conclusion_below i h) in ⊎_elim (λ e. omega (arith, u)) (λ e. omega (arith, u, e.0)) d

-- Every fact was met and none is open: all are closed, so every rule in force was looked at, and the ranks are right. They are the least ones, as none is too high.
module _ {P : Program} {seen stack roots todo next ranks : List ℕ} (w : Rests P seen stack roots todo next ranks) (met : (f : ℕ) → f < P.facts → seen_of seen f ≡ unmet → ⊥) where
  all_closed : (f : ℕ) → f < P.facts → seen_of seen f ≡ closed
  all_closed f l = ⊎_elim (λ e. absurd (met f l e)) (⊎_elim (λ e. e) (λ e. absurd (omega (arith, (w.walking.place_there f l e).0)))) (w.looked.known f l)

  conclusion_closed : (i : ℕ) → i < count P → seen_of seen (rule P i).conclusion ≡ closed
  conclusion_closed i h = all_closed (rule P i).conclusion (w.looked.bounds.conclusion_below i h)

  right_ranks : Ranks P (in_force P) (rank_in ranks)
  right_ranks =
      record {
        not_below = λ i h on g m. ⊎_elim (λ e. e.1) (λ e. absurd (omega (arith, e.0, conclusion_closed i h))) (w.looked.premises i h on (inl (conclusion_closed i h)) g m);
        above = λ i h on g m. (w.looked.constraints i h on (inl (conclusion_closed i h)) g m).1;
      }

  pub all-walked : RanksFound P (Ok ranks)
  all-walked = (ranks_layered P (in_force P) w.looked.bounds (rank_in ranks) right_ranks, record { ranks = right_ranks; least = w.so_far.under })

-- A cycle: there are no ranks.
pub cycle_met : (P : Program) (e : Cyclic) → Cycle P (in_force P) → RanksFound P (Err e)
cycle_met P e c = cycle_unlayered P (in_force P) c
