-- The program without repeats within its rules, and the program without what its withheld rules say.
use Rattle.std.specs.Prelude.{ℕ, cond, List, [], ◌∷◌, map}
use Rattle.theory.specs.Rule.{any, mem, keep, Rule, Program}

-- each element once, where it stands last
abbrev pub once : List ℕ → List ℕ
once [] = []
once (x ∷ xs) = cond (mem x xs) (once xs) (x ∷ once xs)

-- the program with no repeats within a rule
abbrev pub without_repeats : Program → Program
without_repeats P =
    record {
      facts = P.facts;
      rules =
          map
          (λ r. record { conclusion = r.conclusion; premises = once r.premises; constraints = once r.constraints })
          P.rules;
      unread = P.unread;
    }

-- Of a withheld rule its unread constraints alone, and no conclusion but fact 0, since every rule has one; every other rule as it is.
abbrev pub struck : Program → Rule → Rule
struck P r =
    cond (any P.unread r.constraints) (record { conclusion = 0; premises = []; constraints = keep P.unread r.constraints }) r

-- the program with its withheld rules struck
abbrev pub without_withheld : Program → Program
without_withheld P = record { facts = P.facts; rules = map (struck P) P.rules; unread = P.unread }
