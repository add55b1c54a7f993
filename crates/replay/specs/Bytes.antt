-- How a byte string is written.
use Rattle.std.specs.Prelude.{ℕ, List, [], ◌∷◌, codes, ◌<◌, ◌⊎◌}
use Rattle.hex.specs.Hex.{encode_lower}

-- in lower-case hexadecimal digits, two for each byte; - is the empty one
abbrev pub written : List ℕ → List ℕ
written [] = codes "-"
written (b ∷ bs) = encode_lower (b ∷ bs)

-- the code of a character that is no capital letter
abbrev pub NoCapital : ℕ → Type 0
NoCapital c = (c < 65) ⊎ (90 < c)
