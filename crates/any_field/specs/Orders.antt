-- The order of a field chosen at run time.
use Rattle.std.specs.Prelude.{ℕ}
use Rattle.binary_field.specs.Orders.{order_of as binary_order}
use Rattle.any_field.specs.declared.AnyField.{AnyField}
use Rattle.any_field.specs.declared.AnyField.TheVariants.{Prime, Binary, Of256}

abbrev pub order_of : AnyField → ℕ
order_of (Prime f) = f.order
order_of (Binary f) = binary_order f
order_of (Of256 f) = 256
