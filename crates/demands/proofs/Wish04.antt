-- Wish 4.
use Prim.Native.Nat.{ℕ, ◌*◌, ◌≤◌}
use native.Mathlib.Omega.{arith}
use mathlib.Core.Path.{◌≡◌, sym, ap, ◌∙◌, fun_ext}
use mathlib.Core.Bool.{true}
use mathlib.Core.List.{List}
use mathlib.Core.Logic.{⊎_elim}
use mathlib.Core.Option.{Option, none}
use borrow.Author.Tests.{le-leb, lt-leb, leb-true}
use lib.ListN.{length, drop}
use Rattle.theory.specs.Rule.{Program, FactSet, in_force, constraint_fact}
use Rattle.theory.specs.Conditions.{Bounded}
use Rattle.theory.specs.Stable.{Stable}
use Rattle.theory.specs.Layers.{LeastRanks, Cycle, ranks_of, is_layered, layered_order}
use Rattle.theory.proofs.Bools.{either}
use Rattle.theory.proofs.Counted.{counted_most}
use Rattle.theory.proofs.Cycles.{no-cycle}
use Rattle.theory.proofs.Ranks.{layered_least, unlayered_cycle, cycle_unlayered, least_few, least_ranks_same}
use Rattle.theory.proofs.Layered.{rank_once, rank_only, rank_length, stable_one, stable_some, rank_reaches}
use Rattle.items.specs.declared.refusal.Refusal.{Refusal}
use Rattle.items.specs.Item.{narrow, name_width}
use Rattle.reader.specs.Questions.{program_of, file_no, exceptions}
use Rattle.reader.proofs.Accepted.{accepted_file, bounded}
use Rattle.questions.specs.Questions.{buffers_no, naming, layered_no}
use Rattle.questions.proofs.Orders.{naming-length}
use Rattle.run.specs.Outcome.{run_outcome}
use Rattle.run.proofs.ReadMarks.{over-kept}
use Rattle.layers.specs.Outcome.{LayeredOutcome, ordered_by, layered_outcome, layered_count}
use Rattle.layers.proofs.LayeredAnswers.{AllYesses, all_yes}
use Rattle.layers.proofs.LayersMeaning.{no-refusal, fifty_two, last-fifty_two, last-room, passed_all, o_is, named_are, least, sorted, ordered_front}
use Rattle.demands.specs.Results.{LeadsTo}
use Rattle.demands.specs.Wish04.{handed_over, OneReading, LayeredIs, Wish04}
use Rattle.demands.proofs.OrderLeads.{NamesOnce, order-leads}

module _ (file order : List ℕ) where
  abbrev P : Program
  P = program_of file

  abbrev o : LayeredOutcome
  o = layered_outcome file order

  module _ (passed : ◌≡◌ {A = Option Refusal} (layered_no file (length order)) none) where
    abbrev row : List ℕ
    row = layered_order P (in_force P)

    yeses : AllYesses file order
    yeses = all_yes file order passed

    in_bounds : Bounded P
    in_bounds = bounded (accepted_file file yeses.accepted)

    found : LeastRanks P (in_force P) (ranks_of P (in_force P))
    found = least file order passed

    few : (f : ℕ) → ranks_of P (in_force P) f ≤ P.facts
    few f = omega (arith, least_few P (in_force P) in_bounds (ranks_of P (in_force P)) found f, counted_most (constraint_fact P (in_force P)) P.facts)

    names : NamesOnce P row
    unfolding layered_order exceptions
    names =
        record {
          once = rank_once P (in_force P) (ranks_of P (in_force P)) few;
          only = rank_only P (in_force P) (ranks_of P (in_force P)) few;
          long = rank_length P (in_force P) (ranks_of P (in_force P)) few;
        }

    -- what is handed out are the bytes of that order
    bytes_are : handed_over o ≡ naming row
    bytes_are = ap handed_over (o_is file order passed) ∙ ordered_front row order

    leading : (M : FactSet) → Stable P (in_force P) M → LeadsTo file (naming row) M
    unfolding layered_order
    leading M m = order-leads file yeses.accepted M m row names (rank_reaches P (in_force P) (ranks_of P (in_force P)) found.ranks few M m)

    counts : layered_count o.answer ≡ length row
    unfolding ordered_by
    counts = ap (λ (x : LayeredOutcome). layered_count x.answer) (o_is file order passed)

    one : (facts rules steps : List ℕ) → ◌≡◌ {A = Option Refusal} (buffers_no narrow P (length facts) (length rules) (length steps)) none → OneReading file (run_outcome file (handed_over o) facts rules steps)
    one facts rules steps fit =
        let s = stable_some P (in_force P) (ranks_of P (in_force P)) found.ranks in
        let e = (leading s.0 s.1).run_ends facts rules steps fit in
        rw bytes_are
        (record {
          result = e.number;
          none_aside = e.none_aside;
          stable = rw e.ends_there s.1;
          only = λ M m. rw e.ends_there (stable_one P (in_force P) (ranks_of P (in_force P)) found.ranks M s.0 m s.1);
        })

    layered_is : LayeredIs file order o
    unfolding ordered_by
    layered_is =
        record {
          ranked = (ranks_of P (in_force P), found);
          by_rank = λ rank l. rw (fun_ext (least_ranks_same P (in_force P) rank (ranks_of P (in_force P)) l found)) (sorted file order passed);
          counted = ap length (named_are file order passed) ∙ sym counts;
          every_exception = counts ∙ names.long;
          leads = λ M m. rw bytes_are (leading M m);
          one_reading = one;
          order_kept = kept;
        }
      where
        kept : drop (name_width * layered_count o.answer) o.order ≡ drop (name_width * layered_count o.answer) order
        kept = rw (o_is file order passed) (over-kept (naming row) order (name_width * length row) (naming-length row))

  -- Of an accepted file with a large enough buffer.
  module _ (accepted : ◌≡◌ {A = Option Refusal} (file_no file) none) where
    bounds : Bounded P
    bounds = bounded (accepted_file file accepted)

    acyclic : (Cycle P (in_force P) → ⊥) → is_layered P (in_force P) ≡ true
    acyclic n = ⊎_elim (λ l. l) (λ u. absurd (n (unlayered_cycle P (in_force P) bounds u))) (either (is_layered P (in_force P)))

    exist : (Cycle P (in_force P) → ⊥) → (rank : ℕ → ℕ) × LeastRanks P (in_force P) rank
    exist n = (ranks_of P (in_force P), layered_least P (in_force P) (acyclic n))

  pub wish_04 : Wish04 file order
  wish_04 =
      record {
        result = λ z. layered_is (no-refusal file order z);
        fifty_two = λ a l. ((λ z. unlayered_cycle P (in_force P) (bounds a) (fifty_two file order z).unlayered), λ c. last-fifty_two file order (record { accepted = a; order_fits = le-leb _ _ l; unlayered = cycle_unlayered P (in_force P) c }));
        never_else = λ z. let w = fifty_two file order z in (w.accepted, leb-true _ _ w.order_fits);
        room_first = λ a l. last-room file order a (lt-leb _ _ l);
        ranks_exactly = λ a. ((λ r c. no-cycle P (in_force P) r.0 r.1 c), λ n. let r = exist a n in (r.0, r.1.ranks));
        least_exist = exist;
        handed_out = λ a l n. passed_all file order a (le-leb _ _ l) (acyclic a n);
      }
