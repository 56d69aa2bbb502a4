-- The outcome of asking for the order by rank, by what its questions came to.
use Prim.Native.Nat.{ℕ, ◌*◌, ◌≤◌, ◌<◌}
use native.Mathlib.Omega.{arith}
use mathlib.Core.Path.{◌≡◌, sym, ap, ◌∙◌, fun_ext}
use mathlib.Core.Bool.{true, false}
use mathlib.Core.List.{List}
use mathlib.Core.Option.{Option, none, some}
use borrow.Author.Tests.{le-leb, lt-leb, leb-true}
use lib.ListN.{length}
use lib.Dec.{leb}
use Rattle.std.specs.Prelude.{Ok, Err}
use Rattle.theory.specs.Rule.{Program, in_force, constraint_fact}
use Rattle.theory.specs.Conditions.{Bounded}
use Rattle.theory.specs.Layers.{LeastRanks, is_layered, layered_order, ranks_of}
use Rattle.theory.proofs.Counted.{counted_most}
use Rattle.theory.proofs.Ranks.{layered_least, least_few, least_ranks_same}
use Rattle.theory.proofs.Layered.{order_by_rank, rank_length}
use Rattle.items.specs.declared.refusal.Refusal.{Refusal}
use Rattle.items.specs.declared.refusal.Refusal.TheVariants.{OrderShort, NotLayered}
use Rattle.items.specs.Item.{name_width}
use Rattle.items.specs.Write.{over}
use Rattle.tables.specs.Layout.{program_in}
use Rattle.reader.specs.declared.answer.FileCounts.{FileCounts}
use Rattle.reader.specs.Questions.{program_of, file_questions, file_no, exceptions}
use Rattle.reader.specs.Asked.{counts_of, file_asked}
use Rattle.reader.proofs.Accepted.{all_asked}
use Rattle.items.proofs.FirstNo.{both_yes}
use Rattle.questions.specs.Questions.{naming, layered_questions, layered_no}
use Rattle.questions.proofs.OperationAsked.{Passed, file_refused, file_accepted}
use Rattle.layers.specs.Outcome.{LayeredOutcome, ordered_by, refused_with, layered_outcome}
use Rattle.layers.specs.Tabled.{layered_of}

module _ (file order : List ℕ) where
  pub layered_refused : (r : Refusal) → layered_no file (length order) ≡ some r → refused_with r order ≡ layered_outcome file order
  unfolding layered_outcome
  layered_refused r e = sym (rw (e, layered_outcome))

  pub layered_ordered : ◌≡◌ {A = Option Refusal} (layered_no file (length order)) none → ordered_by (layered_order (program_of file) (in_force (program_of file))) order ≡ layered_outcome file order
  unfolding layered_outcome
  layered_ordered e = sym (rw (e, layered_outcome))

  pub file-no : (r : Refusal) → file_asked file ≡ Err r → refused_with r order ≡ layered_outcome file order
  unfolding layered_questions
  file-no r e = layered_refused r (file_refused file _ r e)

  -- Of an accepted file the program in the tables decides.
  pub program-layered : (T : List ℕ) → Passed file T → layered_of (program_in T) order ≡ layered_outcome file order
  unfolding layered_outcome layered_of layered_questions
  program-layered T p =
      ap (λ (P : Program). layered_of P order) p.tabled.program
      ∙ ap (λ (o : Option Refusal). elim o [ none ↦ ordered_by (layered_order (program_of file) (in_force (program_of file))) order | some r ↦ refused_with r order ]) (sym (file_accepted file _ p.accepted))

  -- What a yes to all questions tells.
  pub record AllYesses : Type 0 where
    pub accepted : ◌≡◌ {A = Option Refusal} (file_no file) none
    pub order_fits : name_width * exceptions (program_of file) ≤ length order
    pub layered : is_layered (program_of file) (in_force (program_of file)) ≡ true

  pub all_yes : ◌≡◌ {A = Option Refusal} (layered_no file (length order)) none → AllYesses
  unfolding layered_questions
  all_yes e =
      let P = program_of file in
      let t = both_yes (file_questions file) _ e in
      let o = all_asked _ (leb (name_width * exceptions P) (length order)) _ t.1 in
      let l = all_asked _ (is_layered P (in_force P)) _ o.1 in
      record {
        accepted = t.0;
        order_fits = leb-true _ _ o.0;
        layered = l.0;
      }

-- The ways for a program, by the counts of the file.
module _ (P : Program) (order : List ℕ) (counts : FileCounts) (e : counts ≡ counts_of P) where
  named : counts.exceptions ≡ exceptions P
  named = ap (λ (c : FileCounts). c.exceptions) e

  pub order-short : length order < name_width * counts.exceptions → refused_with OrderShort order ≡ layered_of P order
  unfolding layered_of
  order-short h = sym (rw (lt-leb (name_width * exceptions P) (length order) (omega (arith, named)), layered_of))

  module _ (l : name_width * counts.exceptions ≤ length order) where
    pub fits : name_width * exceptions P ≤ length order
    fits = omega (arith, named)

    pub not-layered : is_layered P (in_force P) ≡ false → refused_with NotLayered order ≡ layered_of P order
    unfolding layered_of
    not-layered n = sym (rw (le-leb (name_width * exceptions P) (length order) fits, n, layered_of))

    -- the ranks that were found are the least, so the order that was written is that of the definition
    module _ (b : Bounded P) (yes-layered : is_layered P (in_force P) ≡ true) (rank : ℕ → ℕ) (least : LeastRanks P (in_force P) rank) where
      pub few_ranks : (f : ℕ) → rank f ≤ P.facts
      few_ranks f = let k = least_few P (in_force P) b rank least f in let m = counted_most (constraint_fact P (in_force P)) P.facts in omega (arith, k, m)

      same_order : order_by_rank P (in_force P) rank ≡ layered_order P (in_force P)
      unfolding layered_order
      same_order =
          ap (order_by_rank P (in_force P))
          (fun_ext (least_ranks_same P (in_force P) rank (ranks_of P (in_force P)) least (layered_least P (in_force P) yes-layered)))

      counted : counts.exceptions ≡ length (layered_order P (in_force P))
      unfolding exceptions
      counted = named ∙ (sym (rank_length P (in_force P) rank few_ranks) ∙ ap length same_order)

      pub ordered : (after : List ℕ) → after ≡ over (naming (order_by_rank P (in_force P) rank)) order → ◌≡◌ {A = LayeredOutcome} (record { answer = Ok counts.exceptions; order = after }) (layered_of P order)
      unfolding layered_of ordered_by
      ordered after w =
          ap (λ (n : ℕ). record { answer = Ok n; order = after }) counted
          ∙ (ap (λ (bytes : List ℕ). record { answer = Ok (length (layered_order P (in_force P))); order = bytes }) (w ∙ ap (λ (row : List ℕ). over (naming row) order) same_order)
          ∙ sym (rw (le-leb (name_width * exceptions P) (length order) fits, yes-layered, layered_of)))
