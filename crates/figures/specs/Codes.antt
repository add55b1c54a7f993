-- Worked figures of component codes.
use Rattle.std.specs.Prelude.{◌≡◌, true, [], ◌∷◌, replicate, Some, None}
use Rattle.field.specs.Defined.{defined_field}
use Rattle.component.specs.Model.{is_word}
use Rattle.component.specs.Decoding.{decoded}
use Rattle.reed_solomon.specs.Model.{reed_solomon}
use Rattle.bch.specs.Bch.{bch}

-- the figures of component codes
pub record CodeFigures : Type 0 where
  -- Reed-Solomon over 5, 4 symbols, 2 checks: 1 3 4 0 decodes to 1 3 1 0, and 2 4 0 0 is refused
  pub decoded_1340 : decoded (reed_solomon (defined_field 5) 4 2) (1 ∷ 3 ∷ 4 ∷ 0 ∷ []) ≡ Some (1 ∷ 3 ∷ 1 ∷ 0 ∷ [])
  pub refused_2400 : decoded (reed_solomon (defined_field 5) 4 2) (2 ∷ 4 ∷ 0 ∷ 0 ∷ []) ≡ None
  -- BCH, 16 symbols, radius 2: sixteen ones are a code word
  pub sixteen_ones : is_word (bch 16 2) (replicate 16 1) ≡ true
