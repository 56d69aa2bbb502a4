-- `Cursor::next` refuses exactly, and stays where it reads no item.
use Prim.Native.Nat.{ℕ}
use native.Mathlib.Omega.{arith}
use mathlib.Core.Path.{◌≡◌, ap, ◌∙◌}
use mathlib.Core.List.{List}
use mathlib.Core.Option.{Option, none, some}
use lib.ListN.{drop}
use Rattle.items.specs.declared.refusal.Refusal.{Refusal}
use Rattle.cursors.specs.declared.cursor.Cursor.{Cursor}
use Rattle.cursors.specs.declared.cursor.Read.TheVariants.{Ended, Refused}
use Rattle.items.specs.Question.{first_no, no_number}
use Rattle.cursors.specs.Cursor.{Token, item, bad, front, past, place_questions, stayed, read_of, next_at}
use Rattle.cursors.proofs.ReadNumbers.{read_numbers}
use Rattle.cursors.proofs.CursorWays.{no_byte}
use Rattle.demands.specs.Calls.{RefusesExactly, next_call, Stays}
use Rattle.demands.proofs.RefusesExactly.{refuses_exactly}
use Rattle.demands.proofs.OwnNumbers.{place_own}

pub next-exactly : (bytes : List ℕ) (c : Cursor) → RefusesExactly (next_call bytes c)
next-exactly bytes c =
    let t = front c.row (drop c.at bytes) in
    let numbered = (read_numbers bytes c).numbered in
    refuses_exactly 0 (next_call bytes c)
    (record { own_numbers = place_own c.row t; all_yes = λ h. numbered ∙ ap no_number h; first-no = λ r h. rw (numbered ∙ ap no_number h) })

pub next_stays : (bytes : List ℕ) (c : Cursor) → Stays bytes c
unfolding next_at
next_stays bytes c =
    let t = front c.row (drop c.at bytes) in
    record {
      refused = λ r here. refused t r here;
      ended = λ here. ended t here;
      order_ends = λ e l. no_byte bytes c l ∙ rw e;
      row_ends = λ e l. no_byte bytes c l ∙ rw e;
    }
  where
    refused : (t : Token) (r : Refusal) (here : Cursor) → read_of t (past bytes c) c ≡ Refused r here → here ≡ c
    refused (item i) r here e = absurd (let z : ◌≡◌ {A = ℕ} 0 1 = cc in omega arith)
    refused (bad fault) r here e = go (first_no (place_questions c.row (bad fault))) e
      where
        go : (o : Option Refusal) → stayed o c ≡ Refused r here → here ≡ c
        go none e = absurd (let z : ◌≡◌ {A = ℕ} 0 1 = cc in omega arith)
        go (some q) e = cc

    ended : (t : Token) (here : Cursor) → read_of t (past bytes c) c ≡ Ended here → here ≡ c
    ended (item i) here e = absurd (let z : ◌≡◌ {A = ℕ} 0 1 = cc in omega arith)
    ended (bad fault) here e = go (first_no (place_questions c.row (bad fault))) e
      where
        go : (o : Option Refusal) → stayed o c ≡ Ended here → here ≡ c
        go none e = cc
        go (some q) e = absurd (let z : ◌≡◌ {A = ℕ} 0 1 = cc in omega arith)
