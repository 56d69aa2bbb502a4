-- The questions before a search, and what a yes to all of them tells.
use Prim.Native.Nat.{ℕ, ◌*◌, ◌≤◌, ◌<◌}
use mathlib.Core.Path.{◌≡◌, sym, ap, ◌∙◌}
use mathlib.Core.Bool.{true, false, ◌&&◌}
use mathlib.Core.List.{List, ◌++◌}
use mathlib.Core.Option.{Option, none, some}
use native.Mathlib.Omega.{arith}
use borrow.Author.Tests.{le-leb, lt-leb, leb-true, ltb-true, ltb-false, le-ltb}
use lib.Dec.{leb, ltb}
use Rattle.std.specs.Prelude.{Ok, Err}
use Rattle.theory.specs.Rule.{mem, up_to, Program, count, rule, constraint_fact, in_force}
use Rattle.theory.specs.Conditions.{every_rule}
use Rattle.theory.proofs.Bools.{and_left, and_right, and_both, not_of_false}
use Rattle.theory.proofs.Lists.{how_many-mono, any-witness, any_of, clear-elem, mem-up_to}
use Rattle.theory.proofs.Withheld.{in_force_read}
use Rattle.items.specs.declared.refusal.Refusal.{Refusal}
use Rattle.items.specs.declared.refusal.Refusal.TheVariants.{OrderShort, TooManyConstraints}
use Rattle.items.specs.Item.{narrow, name_width, max_guessed}
use Rattle.items.specs.Question.{first_no}
use Rattle.items.proofs.FirstNo.{first-no, first-yes, both_yes}
use Rattle.tables.specs.Layout.{program_in}
use Rattle.reader.specs.declared.answer.FileCounts.{FileCounts}
use Rattle.reader.specs.Questions.{program_of, file_questions, file_no, exceptions, constraint_facts}
use Rattle.reader.specs.Asked.{constrained_facts, counts_of, file_asked}
use Rattle.reader.proofs.Accepted.{all_asked}
use Rattle.questions.specs.Answer.{answer_of}
use Rattle.questions.specs.Questions.{buffer_questions, buffers_no, limit_questions, early_questions}
use Rattle.questions.specs.Parts.{limits_no, early_no}
use Rattle.questions.proofs.NamesAsked.{said_yes, said_no}
use Rattle.questions.proofs.OperationAsked.{file_refused, file_accepted}

-- A constraint fact is read and a constraint of some rule.
few_constrained : (P : Program) → constraint_facts P ≤ constrained_facts P
unfolding constraint_facts constrained_facts constraint_fact
few_constrained P =
    how_many-mono _ (constraint_fact P (in_force P)) (up_to P.facts) (λ k t.
    let (i, m, q) = any-witness (λ i. in_force P i && mem k (rule P i).constraints) (up_to (count P)) t in
    let named : mem k (rule P i).constraints ≡ true = and_right (in_force P i) _ q in
    and_both
    (not_of_false (clear-elem P.unread (rule P i).constraints (in_force_read P i (mem-up_to (count P) i m) (and_left _ _ q)) k named))
    (any_of (λ i. every_rule i && mem k (rule P i).constraints) (up_to (count P)) i m named))

-- So where these are few enough there are not too many constraint facts.
pub few_enough : (P : Program) (constrained : ℕ) → constrained ≡ constrained_facts P → constrained ≤ max_guessed → false ≡ ltb max_guessed (constraint_facts P)
few_enough P constrained e h = sym (le-ltb max_guessed (constraint_facts P) (omega (arith, few_constrained P)))

-- The ways of the questions on the order's length and on the constraint facts, by the counts of the file.
module _ (P : Program) (counts : FileCounts) (order : ℕ) (e : counts ≡ counts_of P) where
  named : counts.exceptions ≡ exceptions P
  named = ap (λ (c : FileCounts). c.exceptions) e

  pub order-short : order < name_width * counts.exceptions → Err OrderShort ≡ answer_of (limits_no P order)
  unfolding limit_questions
  order-short h = rw (lt-leb (name_width * exceptions P) order (omega (arith, named)))

  module _ (l : name_width * counts.exceptions ≤ order) where
    pub too_many : ltb max_guessed (constraint_facts P) ≡ true → Err TooManyConstraints ≡ answer_of (limits_no P order)
    unfolding limit_questions
    too_many h = rw (le-leb (name_width * exceptions P) order (omega (arith, named)), lt-leb (constraint_facts P) max_guessed (ltb-true _ _ h))

    pub within_limits : ltb max_guessed (constraint_facts P) ≡ false → Ok tt ≡ answer_of (limits_no P order)
    unfolding limit_questions
    within_limits h = rw (le-leb (name_width * exceptions P) order (omega (arith, named)), le-leb (constraint_facts P) max_guessed (ltb-false _ _ h))

-- The questions of the buffers, then of the limits.
module _ (P : Program) (facts rules steps order : ℕ) where
  abbrev pub later_no : Option Refusal
  later_no = first_no (buffer_questions narrow P facts rules steps ++ limit_questions P order)

  pub buffers_refuse : (r : Refusal) → Err r ≡ answer_of (buffers_no narrow P facts rules steps) → Err r ≡ answer_of later_no
  buffers_refuse r e = sym (ap answer_of (first-no (buffer_questions narrow P facts rules steps) (limit_questions P order) r (said_no _ r e)))

  pub limits_decide : Ok tt ≡ answer_of (buffers_no narrow P facts rules steps) → answer_of (limits_no P order) ≡ answer_of later_no
  limits_decide e = sym (ap answer_of (first-yes (buffer_questions narrow P facts rules steps) (limit_questions P order) (said_yes _ e)))

-- What a search may rely on where all questions but the last got yes.
pub record AllYesses (file : List ℕ) (facts rules steps order : ℕ) : Type 0 where
  pub accepted : ◌≡◌ {A = Option Refusal} (file_no file) none
  pub buffers_fit : ◌≡◌ {A = Option Refusal} (buffers_no narrow (program_of file) facts rules steps) none
  pub order_fits : name_width * exceptions (program_of file) ≤ order
  pub few_guesses : constraint_facts (program_of file) ≤ max_guessed

-- The ways of the questions before a search.
module _ (file : List ℕ) (facts rules steps order : ℕ) where
  pub search-file_no : (r : Refusal) → file_asked file ≡ Err r → early_no file facts rules steps order ≡ some r
  unfolding early_questions
  search-file_no r e = file_refused file _ r e

  -- of an accepted file, as its tables answer them
  module _ (yes_all : ◌≡◌ {A = Option Refusal} (file_no file) none) (T : List ℕ) (p : program_in T ≡ program_of file) where
    early_later : ◌≡◌ {A = Option Refusal} (early_no file facts rules steps order) (later_no (program_in T) facts rules steps order)
    unfolding early_questions
    early_later = rw p (file_accepted file _ yes_all)

    pub search-refused : (r : Refusal) → Err r ≡ answer_of (later_no (program_in T) facts rules steps order) → early_no file facts rules steps order ≡ some r
    search-refused r e = early_later ∙ said_no _ r e

    pub search-asked : Ok tt ≡ answer_of (later_no (program_in T) facts rules steps order) → ◌≡◌ {A = Option Refusal} (early_no file facts rules steps order) none
    search-asked e = early_later ∙ said_yes _ e

  pub all_yes : ◌≡◌ {A = Option Refusal} (early_no file facts rules steps order) none → AllYesses file facts rules steps order
  unfolding early_questions limit_questions
  all_yes e =
      let P = program_of file in
      let t = both_yes (file_questions file) _ e in
      let b = both_yes (buffer_questions narrow P facts rules steps) _ t.1 in
      let o = all_asked _ (leb (name_width * exceptions P) order) _ b.1 in
      let k = all_asked _ (leb (constraint_facts P) max_guessed) _ o.1 in
      record {
        accepted = t.0;
        buffers_fit = b.0;
        order_fits = leb-true _ _ o.0;
        few_guesses = leb-true _ _ k.0;
      }
