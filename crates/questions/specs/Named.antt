-- Internal: the marks of the rules that an order or a list names.
use Rattle.std.specs.Prelude.{ℕ, ◌≡◌, ◌||◌, List, Result, Ok, Err, ⊤}
use Rattle.theory.specs.Rule.{adjoin, mem}
use Rattle.items.specs.declared.refusal.Refusal.{Refusal}
use Rattle.items.specs.Item.{has}
use Rattle.questions.specs.Questions.{named_in}

-- where the answer is yes, the rule is marked too
abbrev pub Named : ℕ → List ℕ → List ℕ → Result ⊤ Refusal → Type 0
Named r before now (Ok u) = has now ≡ adjoin (has before) r
Named r before now (Err x) = Unit {0}

-- where all answers are yes, all the rules are marked too
abbrev pub AllNamed : List ℕ → List ℕ → List ℕ → Result ⊤ Refusal → Type 0
AllNamed rs before now (Ok u) = (i : ℕ) → has now i ≡ has before i || mem i rs
AllNamed rs before now (Err x) = Unit {0}

-- where the answer is yes, the rules that the list names are marked, and no other
abbrev pub Listed : List ℕ → List ℕ → Result ⊤ Refusal → Type 0
Listed list marks (Ok u) = has marks ≡ (λ i. mem i (named_in list))
Listed list marks (Err x) = Unit {0}
