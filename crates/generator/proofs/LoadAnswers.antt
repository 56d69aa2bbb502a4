-- The outcome of making a load, by what its questions came to, and what it means.
use Rattle.std.proofs.Common.{◌≡◌, ℕ, ◌+◌, ◌*◌, ◌<◌, ◌≤◌, ◌&&◌, leb, List, [], ◌∷◌, ◌++◌, length, drop, sym, refl, ap, ◌∙◌, subst, ap₂, arith, length-append, le-leb, leb-true}
use native.Mathlib.Decide.{dec_lt}
use mathlib.Core.Option.{Option, none, some}
use borrow.Author.Tests.{lt-leb}
use lib.Seq.{take-append_seam}
use Rattle.std.specs.Prelude.{Ok}
use Rattle.theory.specs.Rule.{up_to}
use Rattle.theory.proofs.Bools.{and_left, and_right}
use Rattle.items.specs.declared.refusal.Refusal.{Refusal}
use Rattle.items.specs.declared.refusal.Refusal.TheVariants.{FactsOutOfRange, RulesOutOfRange, LoadShort}
use Rattle.items.specs.declared.item.Item.TheVariants.{Facts, Rules}
use Rattle.items.specs.Item.{narrow, max_rules}
use Rattle.items.specs.Question.{no_number}
use Rattle.items.specs.Write.{bytes_of, placed, over}
use Rattle.items.proofs.ItemBytes.{bytes_append}
use Rattle.items.proofs.PlacedBytes.{over-more}
use Rattle.items.proofs.RefusalNumbers.{number-above}
use Rattle.reader.specs.Questions.{file_no}
use Rattle.reader.proofs.Accepted.{all_asked}
use Rattle.generator.specs.Load.{items_of, load_bytes}
use Rattle.generator.specs.Outcome.{most_facts, load_length, load_questions, load_no, LoadOutcome, load_written, refused_with, load_outcome, load_number, load_count, file_in, LoadMeans}
use Rattle.generator.specs.Drawing.{RulesWritten}
use Rattle.generator.proofs.LoadRead.{load-length, load_accepted, program-back}
use Rattle.generator.proofs.RulesPlaced.{front_length}

-- What a yes to all questions tells.
pub record AllYesses (n m room : ℕ) : Type 0 where
  pub some_facts : 0 < n
  pub few_facts : n ≤ most_facts
  pub few_rules : m ≤ max_rules
  pub fits : load_length m ≤ room

pub all_yes : (n m room : ℕ) → ◌≡◌ {A = Option Refusal} (load_no n m room) none → AllYesses n m room
unfolding load_questions
all_yes n m room e =
    let f = all_asked _ (leb 1 n && leb n most_facts) _ e in
    let r = all_asked _ (leb m max_rules) _ f.1 in
    let l = all_asked _ (leb (load_length m) room) _ r.1 in
    record {
      some_facts = leb-true _ _ (and_left (leb 1 n) _ f.0);
      few_facts = leb-true _ _ (and_right (leb 1 n) _ f.0);
      few_rules = leb-true _ _ r.0;
      fits = leb-true _ _ l.0;
    }

module _ (start n m : ℕ) (out : List ℕ) where
  abbrev o : LoadOutcome
  o = load_outcome start n m out

  pub load_refused : (r : Refusal) → load_no n m (length out) ≡ some r → o ≡ refused_with r out
  unfolding load_outcome
  load_refused r e = rw (e, load_outcome)

  pub load_is : ◌≡◌ {A = Option Refusal} (load_no n m (length out)) none → o ≡ load_written (load_bytes start n m) out
  unfolding load_outcome
  load_is e = rw (e, load_outcome)

  -- The first no of each kind.
  pub no-facts : n ≡ 0 → o ≡ refused_with FactsOutOfRange out
  unfolding load_questions
  no-facts e = load_refused FactsOutOfRange (rw (lt-leb 1 n (omega arith)))

  pub too_many_facts : most_facts < n → o ≡ refused_with FactsOutOfRange out
  unfolding load_questions
  too_many_facts h = load_refused FactsOutOfRange (rw (le-leb 1 n (omega arith), lt-leb n most_facts h))

  module _ (some_facts : 0 < n) (few_facts : n ≤ most_facts) where
    pub too_many_rules : max_rules < m → o ≡ refused_with RulesOutOfRange out
    unfolding load_questions
    too_many_rules h = load_refused RulesOutOfRange (rw (le-leb 1 n some_facts, le-leb n most_facts few_facts, lt-leb m max_rules h))

    module _ (few_rules : m ≤ max_rules) where
      pub too_short : length out < load_length m → o ≡ refused_with LoadShort out
      unfolding load_questions
      too_short h = load_refused LoadShort (rw (le-leb 1 n some_facts, le-leb n most_facts few_facts, le-leb m max_rules few_rules, lt-leb (load_length m) (length out) h))

      module _ (fits : load_length m ≤ length out) where
        pub passed : ◌≡◌ {A = Option Refusal} (load_no n m (length out)) none
        unfolding load_questions
        passed = rw (le-leb 1 n some_facts, le-leb n most_facts few_facts, le-leb m max_rules few_rules, le-leb (load_length m) (length out) fits) refl

        -- Its first item, its rules and its last item, written one after another, are the load.
        whole : bytes_of narrow (Facts n ∷ items_of start n (up_to m)) ++ bytes_of narrow (Rules m ∷ []) ≡ load_bytes start n m
        unfolding load_bytes
        whole = ap (λ (bytes : List ℕ). 0x10 ∷ n ∷ bytes) (sym (bytes_append narrow (items_of start n (up_to m)) (Rules m ∷ [])))

        pub written : (out₁ out₂ out₃ : List ℕ) (facts bytes : ℕ) → out₁ ≡ placed (0x10 ∷ n ∷ []) 0 out → facts ≡ n → RulesWritten start facts m out₁ out₂ → out₃ ≡ placed (bytes_of narrow (Rules m ∷ [])) (2 + 6 * m) out₂ → bytes ≡ load_length m → ◌≡◌ {A = LoadOutcome} (record { answer = Ok bytes; out = out₃ }) o
        unfolding load_written
        written out₁ out₂ out₃ facts bytes w₁ f w₂ w₃ e =
            let front = bytes_of narrow (Facts n ∷ items_of start n (up_to m)) in
            let all : out₃ ≡ over (load_bytes start n m) out = w₃ ∙ ap₂ (λ (k : ℕ) (s : List ℕ). placed (bytes_of narrow (Rules m ∷ [])) k s) (sym (front_length start n m)) (subst (λ (k : ℕ). RulesWritten start k m out₁ out₂) f w₂ out w₁) ∙ over-more front (bytes_of narrow (Rules m ∷ [])) out ∙ ap (λ (bs : List ℕ). over bs out) whole in
            ap₂ (λ (k : ℕ) (s : List ℕ). record { answer = Ok k; out = s }) (e ∙ sym (load-length start n m)) all ∙ sym (load_is passed)

  -- Number 0 says that every question got yes.
  pub no-refusal : load_number o.answer ≡ 0 → ◌≡◌ {A = Option Refusal} (load_no n m (length out)) none
  no-refusal z = go (load_no n m (length out)) refl
    where
      go : (no : Option Refusal) → load_no n m (length out) ≡ no → ◌≡◌ {A = Option Refusal} no none
      go none e = refl
      go (some r) e = absurd (omega (arith, ap (λ (x : LoadOutcome). load_number x.answer) (load_refused r e), number-above r))

  -- Room for the longest load is room for each.
  pub never_short : load_length max_rules ≤ length out → load_number o.answer ≡ 55 → ⊥
  unfolding load_written
  never_short room e = facts (dec_lt 0 n)
    where
      numbered : (x : LoadOutcome) → o ≡ x → load_number x.answer ≡ 55
      numbered x q = sym (ap (λ (y : LoadOutcome). load_number y.answer) q) ∙ e

      rules : 0 < n → n ≤ most_facts → Dec (max_rules < m) → ⊥
      rules l few (yes many) = omega (arith, numbered _ (too_many_rules l few many))
      rules l few (no h) = omega (arith, numbered _ (load_is (passed l few (omega arith) (omega arith))))

      few_facts : 0 < n → Dec (most_facts < n) → ⊥
      few_facts l (yes many) = omega (arith, numbered _ (too_many_facts many))
      few_facts l (no h) = rules l (omega arith) (dec_lt max_rules m)

      facts : Dec (0 < n) → ⊥
      facts (yes l) = few_facts l (dec_lt most_facts n)
      facts (no h) = omega (arith, numbered _ (no-facts (omega arith)))

  -- The file that a result hands out is the load.
  pub file_is : load_number o.answer ≡ 0 → file_in o ≡ load_bytes start n m
  unfolding load_written
  file_is z = ap file_in (load_is (no-refusal z)) ∙ take-append_seam (load_bytes start n m) (drop (length (load_bytes start n m)) out)

  load_means : LoadMeans start n m (load_no n m (length out)) o
  unfolding load_written
  load_means =
      record {
        numbered = numbered (load_no n m (length out)) refl;
        accepted = λ z. let y = all_yes n m (length out) (no-refusal z) in ap file_no (file_is z) ∙ load_accepted start n y.some_facts m y.few_rules;
        program = λ z. rw (file_is z) (program-back start n m);
      }
    where
      numbered : (no : Option Refusal) → load_no n m (length out) ≡ no → load_number o.answer ≡ no_number no
      numbered none e = ap (λ (x : LoadOutcome). load_number x.answer) (load_is e)
      numbered (some r) e = ap (λ (x : LoadOutcome). load_number x.answer) (load_refused r e)

  -- both promises of an answer, from the first
  pub promised : (x : LoadOutcome) → x ≡ o → (x ≡ o) × LoadMeans start n m (load_no n m (length out)) x
  promised x e = (e, rw e load_means)

  -- what is counted lies inside the buffer
  pub counted_inside : (x : LoadOutcome) → x ≡ o → load_count x.answer ≤ length x.out
  unfolding load_written
  counted_inside x e = rw e (go (load_no n m (length out)) refl)
    where
      go : (no : Option Refusal) → load_no n m (length out) ≡ no → load_count o.answer ≤ length o.out
      go none f = rw (load_is f) (omega (arith, length-append (load_bytes start n m) (drop (length (load_bytes start n m)) out)))
      go (some r) f = rw (load_refused r f) (omega arith)
