-- `same_facts`: what is to come decides.
use Prim.Native.Nat.{◌-◌}
use mathlib.Core.Bool.{beq}
use Rattle.theory.specs.Rule.{range}
use Rattle.items.specs.Item.{has}
use Rattle.theory.proofs.ListWalks.{Decides}
use Rattle.judge.proofs.stable.same_facts.Given as goal

abbrev pub invariant-loop-f : goal.invariant-loop-f
invariant-loop-f l = Decides (λ g. beq (has l.a g) (has l.b g)) (range 0 l.facts) (range l.f (l.facts - l.f))
