-- What the questions on a file tell once they are asked: the first no, or that the file is accepted, and its counts.
use Prim.Native.Nat.{ℕ}
use mathlib.Core.Path.{◌≡◌, refl, sym, ap, ◌∙◌}
use mathlib.Core.List.{List}
use mathlib.Core.Option.{Option, none, some}
use native.Mathlib.Omega.{arith}
use Rattle.theory.specs.Rule.{count}
use Rattle.items.specs.declared.refusal.Refusal.{Refusal}
use Rattle.reader.specs.declared.answer.AcceptedFile.{AcceptedFile}
use Rattle.reader.specs.declared.answer.FileCounts.{FileCounts}
use Rattle.std.specs.Prelude.{Ok, Err}
use Rattle.reader.specs.Questions.{program_of, file_no, exceptions, constraint_facts}
use Rattle.reader.specs.Asked.{asked_of, counts_of, file_asked}
use Rattle.reader.specs.Accepted.{Accepted}
use Rattle.reader.specs.Accept.{accept_of}

-- A no is the answer, and nothing is promised of what the tables hold.
pub said_no : {o : Option Refusal} {A : Type 0} {r : Refusal} (counts : FileCounts) → o ≡ some r → (Err r ≡ asked_of o counts) × (◌≡◌ {A = Option Refusal} o none → A)
said_no {o} {A} {r} counts e = (sym (ap (λ (x : Option Refusal). asked_of x counts) e), λ h. absurd (never (sym e ∙ h)))
  where
    never : ◌≡◌ {A = Option Refusal} (some r) none → ⊥
    never q = let z : ◌≡◌ {A = ℕ} 0 1 = cc in omega arith

-- a no, and a yes with its counts
pub asked-no : (o : Option Refusal) (counts : FileCounts) (r : Refusal) → asked_of o counts ≡ Err r → o ≡ some r
asked-no none counts r e = absurd (let z : ◌≡◌ {A = ℕ} 0 1 = cc in omega arith)
asked-no (some n) counts r e =
    let same : n ≡ r = cc in
    ap some same

pub asked-yes : (o : Option Refusal) (counts told : FileCounts) → asked_of o counts ≡ Ok told → (◌≡◌ {A = Option Refusal} o none) × (counts ≡ told)
asked-yes none counts told e = (refl, (cc))
asked-yes (some n) counts told e = absurd (let z : ◌≡◌ {A = ℕ} 0 1 = cc in omega arith)

-- the counts of an accepted file, told in one or one by one
pub counts_told : (s : List ℕ) (counts : FileCounts) → ◌≡◌ {A = Option Refusal} (file_no s) none → counts ≡ counts_of (program_of s) → Accepted s counts
counts_told s counts a e =
    record {
      accepted = a;
      facts = ap (λ (x : FileCounts). x.facts) e;
      rules = ap (λ (x : FileCounts). x.rules) e;
      exceptions = ap (λ (x : FileCounts). x.exceptions) e;
      constrained = ap (λ (x : FileCounts). x.constrained) e;
    }

pub told-counts : {s : List ℕ} {counts : FileCounts} → Accepted s counts → counts ≡ counts_of (program_of s)
told-counts a = λ j. record { facts = a.facts j; rules = a.rules j; exceptions = a.exceptions j; constrained = a.constrained j }

module _ (s : List ℕ) where
  pub file-no : (r : Refusal) → file_asked s ≡ Err r → file_no s ≡ some r
  file-no r e = asked-no (file_no s) (counts_of (program_of s)) r e

  pub file_yes : (counts : FileCounts) → file_asked s ≡ Ok counts → Accepted s counts
  file_yes counts e =
      let t = asked-yes (file_no s) (counts_of (program_of s)) counts e in
      counts_told s counts t.0 (sym t.1)

  pub refused-answer : (r : Refusal) → file_no s ≡ some r → Err r ≡ accept_of s
  unfolding accept_of
  refused-answer r e = rw (e, accept_of)

  pub accepted_answer : (a : AcceptedFile) → ◌≡◌ {A = Option Refusal} (file_no s) none → a.facts ≡ (program_of s).facts → a.rules ≡ count (program_of s) → a.exceptions ≡ exceptions (program_of s) → a.constraints ≡ constraint_facts (program_of s) → Ok a ≡ accept_of s
  unfolding accept_of
  accepted_answer a q f r e k = rw (q, accept_of) (λ j. Ok (record { facts = f j; rules = r j; exceptions = e j; constraints = k j }))
