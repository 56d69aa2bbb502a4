-- Rules, programs and sets of facts, and the least set closed under some rules (document 01, "Facts, rules and the file"), with the tests
-- over lists that the definitions use.
use Rattle.std.specs.Prelude.{ℕ, zero, suc, ◌<◌, Bool, true, false, cond, not, ◌&&◌, ◌||◌, List, [], ◌∷◌, ◌++◌, eqb, ltb, ◌≡◌, length, get_or}

-- every element passes the test
abbrev pub all : (ℕ → Bool) → List ℕ → Bool
all p [] = true
all p (x ∷ xs) = p x && all p xs

-- no element passes the test
abbrev pub clear : (ℕ → Bool) → List ℕ → Bool
clear p xs = all (λ x. not (p x)) xs

-- some element passes the test
abbrev pub any : (ℕ → Bool) → List ℕ → Bool
any p [] = false
any p (x ∷ xs) = p x || any p xs

-- x is an element
abbrev pub mem : ℕ → List ℕ → Bool
mem x ys = any (eqb x) ys

-- no element stands twice
abbrev pub NoRepeat : List ℕ → Type 0
NoRepeat [] = Unit {0}
NoRepeat (x ∷ xs) = (mem x xs ≡ false) × NoRepeat xs

-- the elements that pass the test, in their order
abbrev pub keep : (ℕ → Bool) → List ℕ → List ℕ
keep p [] = []
keep p (x ∷ xs) = cond (p x) (x ∷ keep p xs) (keep p xs)

-- the n numbers from a on, ascending
abbrev pub range : ℕ → ℕ → List ℕ
range a zero = []
range a (suc n) = a ∷ range (suc a) n

-- the numbers below n, ascending
abbrev pub up_to : ℕ → List ℕ
up_to n = range 0 n

-- how many elements pass the test
abbrev pub how_many : (ℕ → Bool) → List ℕ → ℕ
how_many p [] = 0
how_many p (x ∷ xs) = cond (p x) (suc (how_many p xs)) (how_many p xs)

-- The numbers below m that pass the test, by key: for each of the n keys from p on, in turn, those that have it, ascending.
abbrev pub by_key : (ℕ → Bool) → (ℕ → ℕ) → ℕ → ℕ → ℕ → List ℕ
by_key test key m p zero = []
by_key test key m p (suc n) = keep (λ i. test i && eqb (key i) p) (up_to m) ++ by_key test key m (suc p) n

-- The number of the first case whose test holds; where none does, the other number.
abbrev pub first_case : List (Bool × ℕ) → ℕ → ℕ
first_case [] other = other
first_case (c ∷ cases) other = cond c.0 c.1 (first_case cases other)

-- One conclusion, any number of premises, any number of constraints: all facts, by number.
pub record Rule : Type 0 where
  pub conclusion : ℕ
  pub premises : List ℕ
  pub constraints : List ℕ

abbrev pub FactSet : Type 0
FactSet = ℕ → Bool

-- The count of facts, the rules, and the facts that could not be read (document 02, wish 6); a rule's number is its place.
pub record Program : Type 0 where
  pub facts : ℕ
  pub rules : List Rule
  pub unread : FactSet

-- Which rules are in force. A rule is left out by a mask and never removed, so rule numbers never shift.
abbrev pub Mask : Type 0
Mask = ℕ → Bool

abbrev pub nothing : FactSet
nothing f = false

-- S with the fact f
abbrev pub adjoin : FactSet → ℕ → FactSet
adjoin S f = λ g. eqb g f || S g

-- every fact of N is in M
abbrev pub Sub : FactSet → FactSet → Type 0
Sub N M = (f : ℕ) → N f ≡ true → M f ≡ true

-- the same facts
abbrev pub Same : FactSet → FactSet → Type 0
Same N M = (f : ℕ) → N f ≡ M f

-- The number of rules.
abbrev pub count : Program → ℕ
count P = length P.rules

-- What is read past the last rule. No definition that gives a rule its meaning looks there: each has i < count P.
abbrev pub blank : Rule
blank = record { conclusion = 0; premises = []; constraints = [] }

-- the rule numbered i
abbrev pub rule : Program → ℕ → Rule
rule P i = get_or P.rules i blank

abbrev pub null : List ℕ → Bool
null [] = true
null (x ∷ xs) = false

-- A plain rule (document 01) has no constraint.
unfoldable pub plain : Program → ℕ → Bool
plain P i = ltb i (count P) && null (rule P i).constraints

-- An exception rule (document 01) has at least one.
unfoldable pub exception : Program → ℕ → Bool
exception P i = ltb i (count P) && not (null (rule P i).constraints)

-- A constraint fact (document 01) is a constraint of some rule, here of some rule in force.
unfoldable pub constraint_fact : Program → Mask → ℕ → Bool
constraint_fact P on k = any (λ i. on i && mem k (rule P i).constraints) (up_to (count P))

-- A withheld rule (document 02, wish 6) is an exception rule with an unread constraint.
unfoldable pub withheld : Program → ℕ → Bool
withheld P i = exception P i && any P.unread (rule P i).constraints

-- The rules of a program that are in force for every operation: those that are not withheld.
unfoldable pub in_force : Program → Mask
in_force P i = not (withheld P i)

-- Programs that no operation tells apart: as many facts and rules, the same rules withheld, and of each rule in force the same conclusion, the same premises and the
-- same constraints. They may differ in repeats and in the order of the items within a rule, in all that a withheld rule says, and in unread facts that withhold no
-- rule.
pub record Alike (P Q : Program) : Type 0 where
  pub same_facts : P.facts ≡ Q.facts
  pub same_count : count P ≡ count Q
  pub same_withheld : (i : ℕ) → i < count P → withheld P i ≡ withheld Q i
  pub same_conclusion : (i : ℕ) → i < count P → in_force P i ≡ true → (rule P i).conclusion ≡ (rule Q i).conclusion
  pub same_premises : (i : ℕ) → i < count P → in_force P i ≡ true → (f : ℕ) → mem f (rule P i).premises ≡ mem f (rule Q i).premises
  pub same_constraints : (i : ℕ) → i < count P → in_force P i ≡ true → (f : ℕ) → mem f (rule P i).constraints ≡ mem f (rule Q i).constraints

-- A step: the fact, and the rule that concludes it.
pub record Step : Type 0 where
  pub fact : ℕ
  pub by : ℕ

-- N is closed under the rules that are on.
abbrev pub Closed : Program → Mask → FactSet → Type 0
Closed P on N = (i : ℕ) → i < count P → on i ≡ true → all N (rule P i).premises ≡ true → N (rule P i).conclusion ≡ true

-- M is the least set above S that is closed under the rules that are on.
pub record Least (P : Program) (on : Mask) (S M : FactSet) : Type 0 where
  pub above : Sub S M
  pub closed : Closed P on M
  pub below : (N : FactSet) → Sub S N → Closed P on N → Sub M N

-- the plain rules in force
unfoldable pub plain_rules : Program → Mask → Mask
plain_rules P on i = on i && plain P i
