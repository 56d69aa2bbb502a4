-- What question 52 and an answer mean: cycles, least ranks, and the order by rank.
use Prim.Native.Nat.{ℕ, ◌*◌, ◌<◌}
use native.Mathlib.Omega.{arith}
use mathlib.Core.Path.{◌≡◌, refl, sym, ap, ◌∙◌}
use mathlib.Core.Bool.{true, false}
use mathlib.Core.List.{List, [], ◌∷◌}
use mathlib.Core.Logic.{⊎_elim}
use mathlib.Core.Option.{Option, none, some}
use lib.ListN.{length, take, drop}
use lib.Seq.{take_at}
use lib.Dec.{leb}
use Rattle.theory.specs.Rule.{Program, in_force, exception, rule}
use Rattle.theory.specs.Layers.{LeastRanks, ByRank, is_layered, ranks_of, layered_order}
use Rattle.theory.proofs.Bools.{either}
use Rattle.theory.proofs.Run.{exception-known}
use Rattle.theory.proofs.Ranks.{layered_least, least_below, unlayered_cycle, cycle_unlayered}
use Rattle.theory.proofs.Layered.{rank_sorted}
use Rattle.items.specs.declared.refusal.Refusal.{Refusal}
use Rattle.items.specs.declared.refusal.Refusal.TheVariants.{OrderShort, NotLayered}
use Rattle.items.specs.Question as refusal
use Rattle.items.specs.Question.{first_no, no_number}
use Rattle.items.specs.Item.{name_width}
use Rattle.items.proofs.FirstNo.{first-no}
use Rattle.items.proofs.RefusalNumbers.{number-above}
use Rattle.reader.specs.Questions.{program_of, file_questions, file_no, exceptions}
use Rattle.reader.proofs.Accepted.{accepted_file, bounded}
use Rattle.reader.proofs.FileRefusals.{each_first, each-file}
use Rattle.questions.specs.Questions.{named_in, naming, LayeredAsked, layered_questions, layered_no, order_room_question, layered_question}
use Rattle.questions.proofs.OperationAsked.{file_accepted}
use Rattle.questions.proofs.Orders.{naming-names, naming-length}
use Rattle.layers.specs.Outcome.{LayeredOutcome, ordered_by, layered_outcome, layered_number, layered_count, named_rules, LayeredMeans}
use Rattle.layers.proofs.LayeredAnswers.{layered_refused, layered_ordered, AllYesses, all_yes}

pub layered_asked : (file : List ℕ) → LayeredAsked file
layered_asked file a = (unlayered_cycle (program_of file) (in_force (program_of file)) (bounded (accepted_file file a)), cycle_unlayered (program_of file) (in_force (program_of file)))

-- What was written are the bytes of the order, and the rules read off it are those of the order.
pub ordered_front : (row order : List ℕ) → take (name_width * layered_count (ordered_by row order).answer) (ordered_by row order).order ≡ naming row
unfolding ordered_by
ordered_front row order = take_at (naming row) (drop (length (naming row)) order) (name_width * length row) (naming-length row)

pub ordered_names : (row order : List ℕ) → named_rules (ordered_by row order) ≡ row
ordered_names row order = ap named_in (ordered_front row order) ∙ naming-names row

-- The numbers of the questions before are others.
abbrev Not52 : Refusal → Type 0
Not52 r = refusal.number r ≡ 52 → ⊥

file_not_52 : (file : List ℕ) (r : Refusal) → file_no file ≡ some r → Not52 r
file_not_52 file r e =
    each_first Not52 (file_questions file) r
    (each-file Not52 (record { one = λ e. omega arith; two = λ e. omega arith; three = λ e. omega arith; four = λ e. omega arith; five = λ e. omega arith; six = λ e. omega arith; seven = λ e. omega arith; eight = λ e. omega arith; nine = λ e. omega arith; ten = λ e. omega arith; fifty_one = λ e. omega arith; fifty_six = λ e. omega arith }) file)
    e

module _ (file order : List ℕ) where
  abbrev P : Program
  P = program_of file

  abbrev o : LayeredOutcome
  o = layered_outcome file order

  -- by the first no
  refused-number : (r : Refusal) → layered_no file (length order) ≡ some r → refusal.number r ≡ layered_number o.answer
  refused-number r e = ap (λ (x : LayeredOutcome). layered_number x.answer) (layered_refused file order r e)

  ordered_number : ◌≡◌ {A = Option Refusal} (layered_no file (length order)) none → ◌≡◌ {A = ℕ} 0 (layered_number o.answer)
  unfolding ordered_by
  ordered_number e = ap (λ (x : LayeredOutcome). layered_number x.answer) (layered_ordered file order e)

  -- Number 0 says that every question got yes, ..
  pub no-refusal : layered_number o.answer ≡ 0 → ◌≡◌ {A = Option Refusal} (layered_no file (length order)) none
  no-refusal z = go (layered_no file (length order)) refl
    where
      go : (no : Option Refusal) → layered_no file (length order) ≡ no → ◌≡◌ {A = Option Refusal} no none
      go none e = refl
      go (some r) e = absurd (omega (arith, refused-number r e, number-above r))

  -- .. and 52 that all got yes but the last.
  pub record Last : Type 0 where
    pub accepted : ◌≡◌ {A = Option Refusal} (file_no file) none
    pub order_fits : leb (name_width * exceptions P) (length order) ≡ true
    pub unlayered : is_layered P (in_force P) ≡ false

  file_first : (r : Refusal) → file_no file ≡ some r → layered_no file (length order) ≡ some r
  unfolding layered_questions
  file_first r e = first-no (file_questions file) _ r e

  last-no : (a : ◌≡◌ {A = Option Refusal} (file_no file) none) → layered_no file (length order) ≡ first_no (order_room_question P (length order) ∷ layered_question P ∷ [])
  unfolding layered_questions
  last-no a = file_accepted file _ a

  pub fifty_two : layered_number o.answer ≡ 52 → Last
  fifty_two z = go (file_no file) refl
    where
      short : leb (name_width * exceptions P) (length order) ≡ false → layered_no file (length order) ≡ first_no (order_room_question P (length order) ∷ layered_question P ∷ []) → ⊥
      short f q = let n = refused-number OrderShort (q ∙ rw f) in omega (arith, n)

      layered : leb (name_width * exceptions P) (length order) ≡ true → is_layered P (in_force P) ≡ true → layered_no file (length order) ≡ first_no (order_room_question P (length order) ∷ layered_question P ∷ []) → ⊥
      layered f l q = let n = ordered_number (q ∙ rw (f, l)) in omega (arith, n)

      go : (no : Option Refusal) → file_no file ≡ no → Last
      go (some r) e = absurd (file_not_52 file r e (refused-number r (file_first r e) ∙ z))
      go none e =
          ⊎_elim
          (λ f. ⊎_elim (λ l. absurd (layered f l (last-no e))) (λ u. record { accepted = e; order_fits = f; unlayered = u }) (either (is_layered P (in_force P))))
          (λ f. absurd (short f (last-no e)))
          (either (leb (name_width * exceptions P) (length order)))

  -- The other way: where only the last gets no, the number is 52.
  pub last-fifty_two : Last → layered_number o.answer ≡ 52
  last-fifty_two l = sym (refused-number NotLayered (last-no l.accepted ∙ rw (l.order_fits, l.unlayered)))

  -- Where the buffer is too short the number is 34, whatever the rest, and where all get yes it is 0.
  pub last-room : ◌≡◌ {A = Option Refusal} (file_no file) none → leb (name_width * exceptions P) (length order) ≡ false → layered_number o.answer ≡ 34
  last-room a f = sym (refused-number OrderShort (last-no a ∙ rw f))

  pub passed_all : ◌≡◌ {A = Option Refusal} (file_no file) none → leb (name_width * exceptions P) (length order) ≡ true → is_layered P (in_force P) ≡ true → layered_number o.answer ≡ 0
  passed_all a f l = sym (ordered_number (last-no a ∙ rw (f, l)))

  -- The outcome of a result.
  module _ (passed : ◌≡◌ {A = Option Refusal} (layered_no file (length order)) none) where
    yeses : AllYesses file order
    yeses = all_yes file order passed

    pub o_is : o ≡ ordered_by (layered_order P (in_force P)) order
    o_is = sym (layered_ordered file order passed)

    pub named_are : named_rules o ≡ layered_order P (in_force P)
    named_are = ap named_rules o_is ∙ ordered_names (layered_order P (in_force P)) order

    pub least : LeastRanks P (in_force P) (ranks_of P (in_force P))
    least = layered_least P (in_force P) yeses.layered

    -- no rank reaches the key of the rules that are withheld
    low_rank : (i : ℕ) → exception P i ≡ true → ranks_of P (in_force P) (rule P i).conclusion < P.facts
    low_rank i e =
        let b = bounded (accepted_file file yeses.accepted) in
        least_below P (in_force P) b (ranks_of P (in_force P)) least (rule P i).conclusion (b.conclusion_below i (exception-known P (in_force P) i e))

    pub sorted : ByRank P (in_force P) (ranks_of P (in_force P)) (named_rules o)
    unfolding layered_order
    sorted = rw named_are (rank_sorted P (in_force P) (ranks_of P (in_force P)) (λ i e on. low_rank i e))

  pub layered_means : LayeredMeans file (layered_no file (length order)) o
  layered_means =
      record {
        numbered = go (layered_no file (length order)) refl;
        by_rank = λ z. (ranks_of P (in_force P), (least (no-refusal z), sorted (no-refusal z)));
        cyclic = λ z. let l = fifty_two z in unlayered_cycle P (in_force P) (bounded (accepted_file file l.accepted)) l.unlayered;
      }
    where
      go : (no : Option Refusal) → layered_no file (length order) ≡ no → layered_number o.answer ≡ no_number (layered_no file (length order))
      go none e = sym (ordered_number e) ∙ sym (ap no_number e)
      go (some r) e = sym (refused-number r e) ∙ sym (ap no_number e)
