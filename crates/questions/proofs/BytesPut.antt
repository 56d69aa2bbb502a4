-- Bytes written one after another: what is still to come finishes what was begun.
use Prim.Native.Nat.{ℕ, ◌+◌, ◌≤◌}
use native.Mathlib.Omega.{arith}
use native.Mathlib.Nat.{add-zero}
use mathlib.Core.Path.{◌≡◌, refl, sym, ap, ap₂, ◌∙◌}
use mathlib.Core.List.{List, [], ◌∷◌, ◌++◌}
use lib.ListN.{length, set, length-append}
use Rattle.items.specs.Write.{placed}
use Rattle.items.proofs.PlacedBytes.{placed-none, placed-length, placed-more, stored}
use Rattle.questions.specs.Put.{Fits, Put}

-- One byte is one store.
pub one_stored : (byte at : ℕ) (s : List ℕ) → Fits (byte ∷ []) at s → Put (byte ∷ []) at s (at + 1) (set s at byte)
one_stored byte at s h = record { bytes_put = stored (byte ∷ []) s at h.inside; behind = refl }

-- The place behind lies inside.
pub put_inside : (bytes : List ℕ) (at : ℕ) (before : List ℕ) (next : ℕ) (after : List ℕ) → Fits bytes at before → Put bytes at before next after → next ≤ length after
put_inside bytes at before next after h p =
    omega (arith, h.inside, p.behind, ap length p.bytes_put, placed-length bytes before at h.inside)

-- Room for a row is room for its front.
pub front_fits : (a b : List ℕ) (at : ℕ) (s : List ℕ) → Fits (a ++ b) at s → Fits a at s
front_fits a b at s h = record { inside = omega (arith, h.inside, length-append a b) }

-- Of the row `all`, `rest` is still to come at the place `at` of the buffer `now`.
pub record Putting (all : List ℕ) (from : ℕ) (before rest : List ℕ) (at : ℕ) (now : List ℕ) : Type 0 where
  pub fits : Fits rest at now
  pub kept : length now ≡ length before
  pub finish : (next : ℕ) (after : List ℕ) → Put rest at now next after → Put all from before next after

pub begun : (all : List ℕ) (from : ℕ) (before : List ℕ) → Fits all from before → Putting all from before all from before
begun all from before h = record { fits = h; kept = refl; finish = λ next after p. p }

module _ {all : List ℕ} {from : ℕ} {before rest : List ℕ} {at : ℕ} {now : List ℕ} (w : Putting all from before rest at now) where
  pub ended : rest ≡ [] → Put all from before at now
  ended e =
      w.finish at now
      (record { bytes_put = sym (ap (λ (r : List ℕ). placed r at now) e ∙ placed-none at now); behind = sym (ap (λ (r : List ℕ). at + length r) e ∙ add-zero at) })

  pub nothing_put : (more : List ℕ) → rest ≡ more → Putting all from before more at now
  nothing_put more e = rw e at w

  module _ (a more : List ℕ) (e : rest ≡ a ++ more) where
    pub next_fits : Fits a at now
    next_fits = front_fits a more at now (rw e at w.fits)

    pub one_put : (next : ℕ) (after : List ℕ) → Put a at now next after → Putting all from before more next after
    one_put next after p =
        record {
          fits = record { inside = omega (arith, p.behind, same, w.fits.inside, ap length e, length-append a more) };
          kept = same ∙ w.kept;
          finish = λ n s q. w.finish n s (joined n s q);
        }
      where
        same : length after ≡ length now
        same = ap length p.bytes_put ∙ placed-length a now at next_fits.inside

        joined : (n : ℕ) (s : List ℕ) → Put more next after n s → Put rest at now n s
        joined n s q =
            record {
              bytes_put = q.bytes_put ∙ ap₂ (placed more) p.behind p.bytes_put ∙ sym (placed-more a now at next_fits.inside more) ∙ ap (λ (r : List ℕ). placed r at now) (sym e);
              behind = omega (arith, q.behind, p.behind, ap length e, length-append a more);
            }
