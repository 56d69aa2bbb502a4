-- Counts over rules, by number and by list.
use Prim.Native.Nat.{ℕ, zero, suc}
use mathlib.Core.Path.{◌≡◌, refl, sym, ap, ◌∙◌, fun_ext}
use mathlib.Core.Bool.{Bool, false, cond, not, ◌&&◌, ◌||◌}
use mathlib.Core.List.{List, [], ◌∷◌}
use borrow.Author.Tests.{lt-ltb}
use lib.ListN.{length, get_or}
use Rattle.theory.specs.Rule.{mem, any, how_many, range, up_to, Rule, Program, count, rule, blank, null, exception, constraint_fact}
use Rattle.theory.specs.Conditions.{every_rule}
use Rattle.theory.proofs.Lists.{how_many-ext, mem-up_to}
use Rattle.theory.proofs.Withheld.{all-in_force}
use Rattle.reader.specs.Questions.{exceptions, constraint_facts}
use Rattle.reader.specs.Asked.{constrained_facts}
use Rattle.reader.specs.Scanning.{constrained, with_constraint}

any-shift : (q : ℕ → Bool) (a n : ℕ) → any q (range (suc a) n) ≡ any (λ i. q (suc i)) (range a n)
any-shift q a zero = refl
any-shift q a (suc n) = ap (λ (b : Bool). q (suc a) || b) (any-shift q (suc a) n)

how_many-shift : (q : ℕ → Bool) (a n : ℕ) → how_many q (range (suc a) n) ≡ how_many (λ i. q (suc i)) (range a n)
how_many-shift q a zero = refl
how_many-shift q a (suc n) = ap (λ (m : ℕ). cond (q (suc a)) (suc m) m) (how_many-shift q (suc a) n)

some_rule : (k : ℕ) (rs : List Rule) → any (λ i. mem k (get_or rs i blank).constraints) (up_to (length rs)) ≡ constrained rs k
some_rule k [] = refl
some_rule k (r ∷ rs) =
    ap (λ (b : Bool). mem k r.constraints || b)
    (any-shift (λ i. mem k (get_or (r ∷ rs) i blank).constraints) 0 (length rs) ∙ some_rule k rs)

pub constraint-fact : (P : Program) (k : ℕ) → constraint_fact P every_rule k ≡ constrained P.rules k
unfolding constraint_fact
constraint-fact P k = some_rule k P.rules

-- Where every fact is read, the facts that are a constraint of some rule are the constraint facts.
pub constrained-are : (P : Program) → ((f : ℕ) → P.unread f ≡ false) → constrained_facts P ≡ constraint_facts P
unfolding constrained_facts constraint_facts
constrained-are P read =
    ap (λ (S : ℕ → Bool). how_many (λ k. not (S k) && constraint_fact P every_rule k) (up_to P.facts)) (fun_ext read)
    ∙ ap (λ (on : ℕ → Bool). how_many (constraint_fact P on) (up_to P.facts)) (sym (fun_ext (all-in_force P read)))

counted_rules : (rs : List Rule) → how_many (λ i. not (null (get_or rs i blank).constraints)) (up_to (length rs)) ≡ with_constraint rs
counted_rules [] = refl
counted_rules (r ∷ rs) =
    ap (λ (m : ℕ). cond (not (null r.constraints)) (suc m) m)
    (how_many-shift (λ i. not (null (get_or (r ∷ rs) i blank).constraints)) 0 (length rs) ∙ counted_rules rs)

pub exceptions-of : (P : Program) → exceptions P ≡ with_constraint P.rules
unfolding exceptions exception
exceptions-of P =
    how_many-ext (exception P) (λ i. not (null (rule P i).constraints)) (up_to (count P))
    (λ i m. ap (λ (b : Bool). b && not (null (rule P i).constraints)) (lt-ltb i (count P) (mem-up_to (count P) i m)))
    ∙ counted_rules P.rules
