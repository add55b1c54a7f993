-- A field chosen at run time is lawful.
use Rattle.field.specs.Defined.{defined_field}
use Rattle.field.specs.Laws.{FieldLaws}
use Rattle.field_theory.proofs.Lawful.{prime_lawful, binary_field_lawful}
use Rattle.binary_field.specs.Tables.{lawful as binary_lawful}
use Rattle.any_field.specs.declared.AnyField.{AnyField}
use Rattle.any_field.specs.declared.AnyField.TheVariants.{Prime, Binary, Of256}
use Rattle.any_field.specs.Orders.{order_of}

pub field_lawful : (f : AnyField) → FieldLaws (defined_field (order_of f))
field_lawful (Prime f) = prime_lawful f.order f.prime
field_lawful (Binary f) = binary_lawful f
field_lawful (Of256 f) = binary_field_lawful 256 tt
