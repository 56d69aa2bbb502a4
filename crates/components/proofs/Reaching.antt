-- Facts that depend on others, directly or not, and what makes a cycle of them.
use Prim.Native.Nat.{ℕ, ◌<◌}
use mathlib.Core.Path.{◌≡◌, refl, ◌∙◌}
use mathlib.Core.Bool.{Bool, true}
use mathlib.Core.List.{[], ◌∷◌, ◌++◌}
use Rattle.theory.specs.Rule.{mem, Program, in_force, count, rule}
use Rattle.theory.specs.Layers.{Link, Depends, barred, Cycle}
use Rattle.theory.proofs.Bools.{or_left, or_right}
use Rattle.theory.proofs.Cycles.{barred-join, chain_join}
use Rattle.components.specs.Open.{Reaches, ReachesBarred}
use Rattle.components.specs.Look.{body_part}

module _ (P : Program) where
  -- A fact depends on what a rule in force that concludes it names; where that is a constraint, by a constraint.
  abbrev link_by : ℕ → ℕ → Bool → Link
  link_by i g barring = record { by = i; to = g; barring = barring }

  depends : (i g : ℕ) (barring : Bool) → i < count P → in_force P i ≡ true → mem g (body_part P i barring) ≡ true → Depends P (in_force P) (rule P i).conclusion (link_by i g barring)
  depends i g barring known on named = record { known = known; in-force = on; concludes = refl; names = named }

  pub one_link : (i g : ℕ) (barring : Bool) → i < count P → in_force P i ≡ true → mem g (body_part P i barring) ≡ true → Reaches P (rule P i).conclusion g
  one_link i g barring known on named = (link_by i g barring ∷ [], (depends i g barring known on named, refl))

  pub barring_link : (i g : ℕ) → i < count P → in_force P i ≡ true → mem g (rule P i).constraints ≡ true → ReachesBarred P (rule P i).conclusion g
  barring_link i g known on named = (link_by i g true ∷ [], ((depends i g true known on named, refl), refl))

  -- What depends on a fact depends on whatever that one depends on; by a constraint on the way, where one of the two ways has one.
  pub reaches_join : (f g h : ℕ) → Reaches P f g → Reaches P g h → Reaches P f h
  reaches_join f g h r s = (r.0 ++ s.0, chain_join P (in_force P) f g h r.0 s.0 r.1 s.1)

  pub then_barred : (f g h : ℕ) → Reaches P f g → ReachesBarred P g h → ReachesBarred P f h
  then_barred f g h r s =
      (r.0 ++ s.0, (chain_join P (in_force P) f g h r.0 s.0 r.1 s.1.0, barred-join r.0 s.0 ∙ or_right (barred r.0) _ s.1.1))

  pub barred-then : (f g h : ℕ) → ReachesBarred P f g → Reaches P g h → ReachesBarred P f h
  barred-then f g h r s =
      (r.0 ++ s.0, (chain_join P (in_force P) f g h r.0 s.0 r.1.0 s.1, barred-join r.0 s.0 ∙ or_left (barred r.0) _ r.1.1))

  -- A fact that depends on another by a constraint, and this one on it again, are on a cycle.
  pub round : (f g : ℕ) → ReachesBarred P f g → Reaches P g f → Cycle P (in_force P)
  round f g r s = let t = barred-then f g f r s in record { at = f; links = t.0; chain = t.1.0; through = t.1.1 }
