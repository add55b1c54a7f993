-- The orders of the small binary fields.
use Rattle.std.specs.Prelude.{ℕ, List, [], ◌∷◌}
use Rattle.binary_field.specs.declared.BinaryField.{BinaryField}
use Rattle.binary_field.specs.declared.BinaryField.TheVariants.{Of4, Of8, Of16}

abbrev pub small_orders : List ℕ
small_orders = 4 ∷ 8 ∷ 16 ∷ []

abbrev pub order_of : BinaryField → ℕ
order_of Of4 = 4
order_of Of8 = 8
order_of Of16 = 16
