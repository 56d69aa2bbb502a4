-- `fill_plain`: the plain rules before a number are indexed.
use mathlib.Core.Path.{◌≡◌, refl, sym, ◌∙◌}
use native.Mathlib.Omega.{arith}
use Rattle.tables.specs.Held.{held}
use Rattle.theory.specs.Rule.{count}
use Rattle.tables.proofs.ProgramHeld.{rules-below}
use Rattle.bits.proofs.MatrixMarked.{behind_then}
use Rattle.premises.proofs.PlainRows.{plain-there, none_plain, plain-asked, plain-counted, plain-ripe, rows_are}
use Rattle.premises.proofs.NextIndexed.{place_passed}
use Rattle.premises.proofs.plain.fill_plain.Goals as goal
use Rattle.premises.proofs.plain.fill_plain.Goals.{then-not-exception, else-not-exception}

pub overflow_cast-rule : goal.overflow_cast-rule
overflow_cast-rule c = omega (arith, c.rules-rules.ensures, rules-below c.args.tables.now.well_formed)

pub index_next-requires : goal.index_next-requires
index_next-requires c = (omega (arith, c.rules-rules.ensures, c.loop-i-test.true), omega (arith, c.rules-rules.ensures, rules-below c.args.tables.now.well_formed, c.loop-i-test.true), omega arith)

pub loop-i-preserved : goal.loop-i-preserved
loop-i-preserved c = elim c.if-not-exception.branch [
  | then-not-exception w ↦ rw (w.index-is, w.missing-is, w.ready-is) (behind_then c.loop-i.invariant.0 w.index_next.ensures.same_from, w.index_next.ensures.indexing _ (plain-there _ _ (omega (arith, c.rules-rules.ensures, c.loop-i-test.true)) (sym c.is_exception-exception.ensures ∙ w.if-not-exception.true)) refl c.loop-i.invariant.1)
  | else-not-exception w ↦ rw (w.index-is, w.missing-is, w.ready-is) (c.loop-i.invariant.0, place_passed c.loop-i.invariant.1 (none_plain _ _ (sym c.is_exception-exception.ensures ∙ w.if-not-exception.false)))
]

pub returns : goal.returns
returns c = let e : c.loop-i.i ≡ count (held c.args.tables.now) = omega (arith, c.rules-rules.ensures) in let few = rules-below c.args.tables.now.well_formed in let w = c.loop-i.invariant.1 in
    record {
      rows_are = rows_are few w e;
      asked = plain-asked few w e;
      counted = plain-counted few w e;
      flags = plain-ripe few w e;
      same_from = c.loop-i.invariant.0;
    }
