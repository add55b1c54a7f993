-- Worked figures of fields.
use Rattle.std.specs.Prelude.{◌≡◌, Some}
use Rattle.field.specs.Model.{inverse}
use Rattle.field.specs.Defined.{defined_field}

-- the figures of fields
pub record FieldFigures : Type 0 where
  -- order 16: 7 times 9 is 10
  pub product_16 : (defined_field 16).prod 7 9 ≡ 10
  -- order 256: 2 times 128 is 29
  pub product_256 : (defined_field 256).prod 2 128 ≡ 29
  -- order 13: the inverse of 5 is 8
  pub inverse_13 : inverse (defined_field 13) 5 ≡ Some 8
