-- Internal: literals as numbers. A rule's body asks some facts to be in and some to be out: "f is in" is the number f, "k is out" stands past the facts.
use Rattle.std.specs.Prelude.{ℕ, ◌+◌, Bool, not, ◌&&◌, List, ◌++◌, map}
use Rattle.theory.specs.Rule.{how_many, mem, up_to, Rule, Program, rule}
use Rattle.items.specs.Item.{narrow, max_facts}

abbrev pub outside : ℕ → ℕ
outside k = max_facts narrow + k

-- Every literal is below this.
abbrev pub literals : ℕ
literals = max_facts narrow + max_facts narrow

-- What a rule asks: its premises in, its constraints out.
abbrev pub body : Rule → List ℕ
body r = r.premises ++ map outside r.constraints

-- how many literals pass a test
unfoldable pub literal_count : (ℕ → Bool) → ℕ
literal_count p = how_many p (up_to literals)

-- The literals of the body of rule i that are not yet true: how many there are, each counted once.
abbrev pub lacks : Program → (ℕ → Bool) → ℕ → ℕ → Bool
lacks P yet i l = mem l (body (rule P i)) && not (yet l)

abbrev pub lacking : Program → (ℕ → Bool) → ℕ → ℕ
lacking P yet i = literal_count (lacks P yet i)
