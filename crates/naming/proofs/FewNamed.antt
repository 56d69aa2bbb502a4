-- An order that gets yes to its questions names each exception rule once, so it has no more names than a file has rules.
use Prim.Native.Nat.{ℕ, ◌≤◌, ◌<◌}
use mathlib.Core.Path.{◌≡◌, ap}
use mathlib.Core.Bool.{Bool, true, not}
use mathlib.Core.List.{List, [], ◌∷◌}
use mathlib.Core.Option.{Option, none}
use native.Mathlib.Omega.{arith}
use lib.ListN.{length}
use Rattle.theory.specs.Rule.{how_many, up_to, Program, count, exception, in_force, nothing, adjoin}
use Rattle.theory.proofs.Lists.{how_many-le, how_many-less, length-range, up_to-mem}
use Rattle.theory.proofs.Derive.{out_below, adjoin-above, adjoin-has}
use Rattle.theory.proofs.Run.{exception-known}
use Rattle.items.specs.declared.refusal.Refusal.{Refusal}
use Rattle.items.specs.Question.{first_no}
use Rattle.items.specs.Item.{max_rules}
use Rattle.items.proofs.FirstNo.{both_yes}
use Rattle.cursors.specs.Cursor.{items_at, order_start}
use Rattle.reader.proofs.Accepted.{all_asked}
use Rattle.questions.specs.Questions.{whole, named_in, name_questions, names_questions, list_questions}
use Rattle.questions.specs.Parts.{list_no}

-- each name is a number below n that was not seen before
few_names : (known : ℕ → Bool) (n : ℕ) → ((i : ℕ) → known i ≡ true → i < n) → (rs : List ℕ) (seen : ℕ → Bool) → ◌≡◌ {A = Option Refusal} (first_no (names_questions known seen rs)) none → length rs ≤ how_many (λ i. not (seen i)) (up_to n)
few_names known n low [] seen e = omega arith
few_names known n low (r ∷ rs) seen e =
    let parts = both_yes (name_questions known seen r) (names_questions known (adjoin seen r) rs) e in
    let here = all_asked _ (known r) _ parts.0 in
    let later : length rs ≤ how_many (λ i. not (adjoin seen r i)) (up_to n) = few_names known n low rs (adjoin seen r) parts.1 in
    let less : how_many (λ i. not (adjoin seen r i)) (up_to n) < how_many (λ i. not (seen i)) (up_to n) =
    how_many-less (λ i. not (seen i)) (λ i. not (adjoin seen r i)) (up_to n)
    (λ i h. out_below seen (adjoin seen r) i (adjoin-above seen r) h)
    r (up_to-mem n r (low r here.0)) (all_asked _ (not (seen r)) none here.1).0 (ap not (adjoin-has seen r)) in
    omega arith

pub few_named : (P : Program) → count P ≤ max_rules → (order : List ℕ) → ◌≡◌ {A = Option Refusal} (list_no (exception P) order) none → length (named_in order) ≤ max_rules
unfolding list_questions
few_named P few order e =
    let l : length (named_in order) ≤ how_many (λ i. not (nothing i)) (up_to (count P)) = few_names (exception P) (count P) (λ i x. exception-known P (in_force P) i x) (named_in order) nothing (all_asked _ (whole (items_at order order_start)) _ e).1 in
    omega (arith, how_many-le (λ i. not (nothing i)) (up_to (count P)), length-range 0 (count P))
