-- The starred examples of document 01, as bytes.
use Rattle.std.specs.Prelude.{ℕ, List, [], ◌∷◌}

-- 4 facts; 0<; 1<0,!2; 2<0,!1; 3<2
abbrev pub example_a : List ℕ
example_a =
    0x10 ∷ 4
    ∷ 0x01 ∷ 0
    ∷ 0x01 ∷ 1 ∷ 0x02 ∷ 0 ∷ 0x03 ∷ 2
    ∷ 0x01 ∷ 2 ∷ 0x02 ∷ 0 ∷ 0x03 ∷ 1
    ∷ 0x01 ∷ 3 ∷ 0x02 ∷ 2
    ∷ 0x1F ∷ 0 ∷ 4 ∷ []

-- 1 fact; 0<!0
abbrev pub example_b : List ℕ
example_b = 0x10 ∷ 1 ∷ 0x01 ∷ 0 ∷ 0x03 ∷ 0 ∷ 0x1F ∷ 0 ∷ 1 ∷ []

-- 3 facts; 0<!1; 1<!2
abbrev pub example_c : List ℕ
example_c = 0x10 ∷ 3 ∷ 0x01 ∷ 0 ∷ 0x03 ∷ 1 ∷ 0x01 ∷ 1 ∷ 0x03 ∷ 2 ∷ 0x1F ∷ 0 ∷ 2 ∷ []

-- 2 facts; 1<0; 0<!1
abbrev pub example_d : List ℕ
example_d = 0x10 ∷ 2 ∷ 0x01 ∷ 1 ∷ 0x02 ∷ 0 ∷ 0x01 ∷ 0 ∷ 0x03 ∷ 1 ∷ 0x1F ∷ 0 ∷ 2 ∷ []

-- nothing
abbrev pub example_e : List ℕ
example_e = 0x10 ∷ 0 ∷ 0x1F ∷ 0 ∷ 0 ∷ []

-- 1 fact; 0<0
abbrev pub example_f : List ℕ
example_f = 0x10 ∷ 1 ∷ 0x01 ∷ 0 ∷ 0x02 ∷ 0 ∷ 0x1F ∷ 0 ∷ 1 ∷ []
