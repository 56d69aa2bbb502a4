-- The first questions on a file: its length, and its first item.
use Prim.Native.Nat.{ℕ, ◌<◌, ◌≤◌}
use mathlib.Core.Path.{◌≡◌, refl, sym, ap, ap₂, subst, ◌∙◌}
use mathlib.Core.List.{List, [], ◌∷◌}
use mathlib.Core.Logic.{⊎_elim}
use mathlib.Core.Option.{Option, some}
use borrow.Author.Tests.{le-leb, lt-leb}
use lib.ListN.{length, get_or}
use Rattle.theory.specs.Rule.{mem, Program, count}
use Rattle.items.specs.declared.refusal.Refusal.{Refusal}
use Rattle.items.specs.declared.refusal.Refusal.TheVariants.{FileTooLong, NoFactCount}
use Rattle.items.specs.declared.item.Item.{Item}
use Rattle.items.specs.declared.item.Item.TheVariants.{Facts}
use Rattle.cursors.specs.declared.cursor.Cursor.{Cursor}
use Rattle.cursors.specs.declared.cursor.Fault.TheVariants.{NoByte}
use Rattle.cursors.specs.declared.cursor.Read.{Read}
use Rattle.cursors.specs.declared.cursor.Read.TheVariants.{Refused}
use Rattle.items.specs.Question.{first_no}
use Rattle.cursors.specs.Cursor.{Token, item, bad, next_at, items_at, file_start}
use Rattle.items.specs.Item.{max_bytes}
use Rattle.std.specs.Prelude.{Result}
use Rattle.reader.specs.declared.answer.FileCounts.{FileCounts}
use Rattle.reader.specs.Questions.{rules_of, behind_rules, unread_of, fact_count, program_of, opening_questions, file_questions, file_no}
use Rattle.reader.specs.Asked.{asked_of, counts_of, file_asked}
use Rattle.reader.specs.Scanned.{Tabled, Scanned}
use Rattle.reader.specs.BodyScanned.{program_from, body_no, BodyTabled, BodyScanned}
use Rattle.cursors.proofs.Items.{ReadAt, NoItemAt, not_found}
use Rattle.cursors.proofs.NoItemRead.{NotFound, nothing_read}
use Rattle.reader.proofs.Tags.{NotFacts, no-count}

module _ (s : List ℕ) where
  pub too_long : max_bytes < length s → file_no s ≡ some FileTooLong
  unfolding file_questions
  too_long h = rw (lt-leb (length s) max_bytes h)

  module _ (short : length s ≤ max_bytes) where
    -- the answer is that on the first item and what follows
    after_first : (ts : List Token) → items_at s file_start ≡ ts → file_no s ≡ first_no (opening_questions ts)
    unfolding file_questions
    after_first ts e = rw (le-leb (length s) max_bytes short, e)

    pub no-first : (d : Cursor) (r : Refusal) → next_at s file_start ≡ Refused r d → file_no s ≡ some r
    no-first d r e = ⊎_elim no_byte no_item n.why
      where
        n : NoItemAt s file_start r d
        n = not_found s file_start d r e

        is_two : ◌≡◌ {A = Option Refusal} (some NoFactCount) (some r)
        is_two = n.no

        no_byte : (items_at s file_start ≡ []) × (n.fault ≡ NoByte) → file_no s ≡ some r
        no_byte q = after_first [] q.0 ∙ is_two

        no_item : items_at s file_start ≡ bad n.fault ∷ [] → file_no s ≡ some r
        no_item q = after_first (bad n.fault ∷ []) q ∙ is_two

    pub nothing_first : (r : Read) → next_at s file_start ≡ r → NotFound r → file_no s ≡ some NoFactCount
    nothing_first r e k = after_first _ refl ∙ nothing_read (λ ts. first_no (opening_questions ts)) (λ fault. refl) s file_start r e k

    pub not-counted : {d : Cursor} {i : Item} → ReadAt s file_start i d → NotFacts i → file_no s ≡ some NoFactCount
    not-counted {d} {i} r k = after_first (item i ∷ items_at s d) r.items ∙ no-count i (items_at s d) k

    module _ {d : Cursor} {n : ℕ} (r : ReadAt s file_start (Facts n) d) where
      -- a count of facts first: the others give the first no, and the program
      body-no : body_no n s d ≡ file_no s
      body-no = sym (after_first (item (Facts n) ∷ items_at s d) r.items)

      body-program : program_from n s d ≡ program_of s
      body-program = λ j. record { facts = sym (ap fact_count r.items) j; rules = sym (ap rules_of r.items) j; unread = λ f. mem f (sym (ap unread_of r.items) j) }

      body-asked : asked_of (body_no n s d) (counts_of (program_from n s d)) ≡ file_asked s
      body-asked = ap₂ (λ (o : Option Refusal) (P : Program). asked_of o (counts_of P)) body-no body-program

      body-tabled : (T : List ℕ) → BodyScanned n s d T → Scanned s T
      body-tabled T scanned accepted = tabled (scanned (body-no ∙ accepted))
        where
          tabled : BodyTabled n s d T → Tabled s T
          tabled t = record { program = t.program ∙ body-program; well_formed = t.well_formed; placed = λ i h. t.placed i (subst (λ (P : Program). i < count P) (sym body-program) h) ∙ ap (λ ts. get_or (behind_rules ts) i []) (sym r.items) }

      -- what the scan of the others answers and leaves is what the scan of the file does
      pub file_scanned : (T : List ℕ) (a : Result FileCounts Refusal) → (a ≡ asked_of (body_no n s d) (counts_of (program_from n s d))) × BodyScanned n s d T → (a ≡ file_asked s) × Scanned s T
      file_scanned T a e = (e.0 ∙ body-asked, body-tabled T e.1)
