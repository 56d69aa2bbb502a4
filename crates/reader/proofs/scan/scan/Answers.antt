-- `scan`: the length, the first item, and the others.
use Prim.Native.Nat.{ℕ}
use mathlib.Core.Path.{◌≡◌, refl, sym, ap, ◌∙◌}
use mathlib.Core.List.{List}
use mathlib.Core.Option.{Option, none, some}
use borrow.Author.Rules.{rules}
use borrow.Enum.Refused.{opened}
use Rattle.std.specs.Prelude.{Err}
use Rattle.items.specs.declared.refusal.Refusal.{Refusal}
use Rattle.cursors.specs.declared.cursor.Cursor.{Cursor}
use Rattle.cursors.specs.declared.cursor.Read.{Read}
use Rattle.cursors.specs.Cursor.{next_at, file_start}
use Rattle.cursors.proofs.Items.{found}
use Rattle.cursors.proofs.EachKind.{few_counted}
use Rattle.reader.specs.Asked.{file_asked}
use Rattle.reader.specs.Questions.{file_no}
use Rattle.reader.proofs.OpeningAsked.{too_long, no-first, nothing_first, not-counted, file_scanned}
use Rattle.reader.proofs.FileAsked.{said_no}
use Rattle.reader.proofs.BodyRead.{read_as}
use Rattle.reader.proofs.scan.scan.Goals as goal

-- a no on the file is the answer, and nothing is promised of what the tables hold
answered_no : (s : List ℕ) {A : Type 0} {r : Refusal} → file_no s ≡ some r → record { value : Err r ≡ file_asked s; scanned : ◌≡◌ {A = Option Refusal} (file_no s) none → A }
answered_no s e = let p = said_no _ e in record { value = p.0; scanned = p.1 }

pub returns-then-too_long : goal.returns-then-too_long
returns-then-too_long c = answered_no _ (too_long _ c.if-too_long.true)

-- the first read is that where the file begins
first_read : (s : List ℕ) {c : Cursor} {r : Read} → c ≡ file_start → r ≡ next_at s c → next_at s file_start ≡ r
first_read s q e = sym (e ∙ ap (next_at s) q)

pub scan_body-requires : goal.scan_body-requires
scan_body-requires c = let r = read_as (first_read _ c.start.ensures c.next.ensures.value ∙ c.in-Found-Facts-default.is) c.in-Found-Facts-default.field-0-is in
    (r.row, c.if-too_long.false, few_counted r (λ j. (c.type_inv.file j).fits), c.requires, record { zeros = refl })

pub returns-in-Found-Facts-default : goal.returns-in-Found-Facts-default
returns-in-Found-Facts-default c =
    let r = read_as (first_read _ c.start.ensures c.next.ensures.value ∙ c.in-Found-Facts-default.is) c.in-Found-Facts-default.field-0-is in
    let p = file_scanned _ c.if-too_long.false r _ _ (c.scan_body.ensures.value, c.scan_body.ensures.body_scanned) in
    record { value = p.0; scanned = p.1 }

pub returns-in-Refused : goal.returns-in-Refused
returns-in-Refused c = answered_no _ (no-first _ c.if-too_long.false _ _ (first_read _ c.start.ensures c.next.ensures.value ∙ c.in-Refused.is))

pub returns-in_default : goal.returns-in_default
returns-in_default c = answered_no _ (not-counted _ c.if-too_long.false (found _ _ _ _ (first_read _ c.start.ensures c.next.ensures.value ∙ c.in_default.is)) (search (rules, opened)))

pub returns-in_default-2 : goal.returns-in_default-2
returns-in_default-2 c = answered_no _ (nothing_first _ c.if-too_long.false _ (first_read _ c.start.ensures c.next.ensures.value) (search (rules, opened)))
