-- `ask_name`: each way through the tests is a law of `NamesAsked`.
use Prim.Native.Nat.{◌<◌}
use mathlib.Core.Path.{◌≡◌, sym, ap, ◌∙◌}
use mathlib.Core.Bool.{false}
use native.Mathlib.Omega.{arith}
use borrow.Author.Tests.{eq-eqb, ne_eqb}
use lib.ListN.{length-set}
use Rattle.tables.specs.Held.{held}
use Rattle.theory.specs.Rule.{exception}
use Rattle.items.specs.Item.{max_rules, has}
use Rattle.tables.proofs.ProgramHeld.{in_table}
use Rattle.marking.proofs.MarksPainted.{has-set}
use Rattle.questions.specs.Answer.{answer_of}
use Rattle.questions.proofs.NamesAsked.{past-rules, not_known, named_before, first-named}
use Rattle.naming.proofs.names.ask_name.Goals as goal
use Rattle.naming.proofs.names.ask_name.Goals.{then-rules-number-via-then-rules-number, then-rules-number-via-else-rules-number+then-not-is_exception}

pub returns-then-rules-number : goal.returns-then-rules-number
returns-then-rules-number c =
    let unknown : exception (held c.args.tables.now) c.args.rule.0 ≡ false = elim c.then-rules-number.branch [
      | then-rules-number-via-then-rules-number w ↦ past-rules _ _ (omega (arith, c.rules.ensures, w.if-rules-number.true))
      | then-rules-number-via-else-rules-number+then-not-is_exception w ↦ sym w.is_exception.ensures ∙ w.if-not-is_exception.true
    ] in
    record {
      value = sym (ap answer_of (not_known (exception (held c.args.tables.now)) (has c.args.named.now) c.args.rule.0 unknown));
      named = tt;
      named_len = c.requires;
    }

pub bounds-named-number : goal.bounds-named-number
bounds-named-number c = in_table c.args.tables.now.well_formed (omega (arith, c.rules.ensures, c.if-rules-number.false))

pub returns-then-named-number-eq1 : goal.returns-then-named-number-eq1
unfolding has
returns-then-named-number-eq1 c = record {
  value = sym (ap answer_of (named_before (exception (held c.args.tables.now)) (has c.args.named.now) c.args.rule.0 (sym c.is_exception.ensures ∙ c.if-not-is_exception.false) (eq-eqb _ _ c.if-named-number-eq1.true)));
  named = tt;
  named_len = c.requires;
}

pub bounds-named-number-2 : goal.bounds-named-number-2
bounds-named-number-2 c = in_table c.args.tables.now.well_formed (omega (arith, c.rules.ensures, c.if-rules-number.false))

pub returns : goal.returns
unfolding has
returns c =
    let inside : c.args.rule.0 < max_rules = in_table c.args.tables.now.well_formed (omega (arith, c.rules.ensures, c.if-rules-number.false)) in
    record {
      value = sym (ap answer_of (first-named (exception (held c.args.tables.now)) (has c.args.named.now) c.args.rule.0 (sym c.is_exception.ensures ∙ c.if-not-is_exception.false) (ne_eqb _ _ c.if-named-number-eq1.false)));
      named = has-set c.args.named.now c.args.rule.0 (omega (arith, c.requires));
      named_len = length-set c.args.named.now _ 1 ∙ c.requires;
    }
