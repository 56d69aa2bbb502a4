-- `load`: a no changes no byte; else the items are written one after another.
use Rattle.std.proofs.Common.{◌≡◌, ◌+◌, ◌*◌, ◌<◌, ◌≤◌, length, sym, arith}
use Rattle.generator.specs.Outcome.{load_length}
use Rattle.generator.proofs.LoadAnswers.{no-facts, too_many_facts, too_many_rules, too_short, written, promised}
use Rattle.generator.proofs.load.Goals as goal

pub returns-then-facts-eq0 : goal.returns-then-facts-eq0
returns-then-facts-eq0 c =
    let e = sym (no-facts c.args.start c.args.facts c.args.rules c.args.out.now c.if-facts-eq0.true) in
    record { fact = e; load_means = (promised _ _ _ _ _ e).1 }

pub returns-then-facts-gt-MOST_FACTS : goal.returns-then-facts-gt-MOST_FACTS
returns-then-facts-gt-MOST_FACTS c =
    let e = sym (too_many_facts c.args.start c.args.facts c.args.rules c.args.out.now c.if-facts-gt-MOST_FACTS.true) in
    record { fact = e; load_means = (promised _ _ _ _ _ e).1 }

pub returns-then-rules-gt-MOST_RULES : goal.returns-then-rules-gt-MOST_RULES
returns-then-rules-gt-MOST_RULES c =
    let some : 0 < c.args.facts = omega arith in
    let e = sym (too_many_rules c.args.start c.args.facts c.args.rules c.args.out.now some c.if-facts-gt-MOST_FACTS.false c.if-rules-gt-MOST_RULES.true) in
    record { fact = e; load_means = (promised _ _ _ _ _ e).1 }

pub returns-then-out-length : goal.returns-then-out-length
returns-then-out-length c =
    let some : 0 < c.args.facts = omega arith in
    let short : length c.args.out.now < load_length c.args.rules = omega arith in
    let e = sym (too_short c.args.start c.args.facts c.args.rules c.args.out.now some c.if-facts-gt-MOST_FACTS.false c.if-rules-gt-MOST_RULES.false short) in
    record { fact = e; load_means = (promised _ _ _ _ _ e).1 }

pub returns : goal.returns
returns c =
    let some : 0 < c.args.facts = omega arith in
    let fits : load_length c.args.rules ≤ length c.args.out.now = omega arith in
    let long : 2 + 6 * c.args.rules + 3 ≡ load_length c.args.rules = omega arith in
    let e = written c.args.start c.args.facts c.args.rules c.args.out.now some c.if-facts-gt-MOST_FACTS.false c.if-rules-gt-MOST_RULES.false fits _ _ _ _ _ (rw c.byte.ensures at c.write_fact_body.ensures) c.modulus_of.ensures.0 c.write_rules.ensures (rw c.byte-2.ensures at c.write_rule_body.ensures) long in
    record { fact = e; load_means = (promised _ _ _ _ _ e).1 }
