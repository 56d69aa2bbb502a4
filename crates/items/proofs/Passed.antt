-- What a `?` answers where what it asks is refused: the same refusal.
use mathlib.Core.Path.{◌≡◌, ap, ◌∙◌}
use Rattle.std.specs.Prelude.{Result, Err}
use Rattle.std.specs.Result.{IsErr, IsErrAnd}
use Rattle.std.proofs.lemmas.Result.{err_from_is_err_and}
use Rattle.items.specs.declared.refusal.Refusal.{Refusal}

pub passed : {A : Type 0} {r : Result A Refusal} {n : Refusal} → IsErr r × IsErrAnd r (λ e. e ≡ n) → r ≡ Err n
passed {r = r} p = let x = err_from_is_err_and r p.1 in x.1 ∙ ap Err x.2
