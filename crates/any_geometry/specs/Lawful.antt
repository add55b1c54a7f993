-- A geometry chosen at run time is lawful.
use Rattle.field.specs.Defined.{defined_field}
use Rattle.geometry.specs.Laws.{GeometryLaws}
use Rattle.euclidean.specs.Laws.{is_euclidean}
use Rattle.projective.specs.Laws.{is_projective}
use Rattle.quadrangle.specs.Laws.{is_quadrangle}
use Rattle.any_field.specs.Orders.{order_of}
use Rattle.any_field.specs.Lawful.{field_lawful}
use Rattle.any_geometry.specs.declared.AnyGeometry.{AnyGeometry}
use Rattle.any_geometry.specs.declared.AnyGeometry.TheVariants.{Euclidean, Projective, Quadrangle}
use Rattle.any_geometry.specs.Kinds.{geometry_of}

pub geometry_lawful : (g : AnyGeometry) → GeometryLaws (geometry_of g)
geometry_lawful (Euclidean g) = (is_euclidean (defined_field (order_of g.field)) (field_lawful g.field)).lawful
geometry_lawful (Projective g) = (is_projective (defined_field (order_of g.field)) (field_lawful g.field)).lawful
geometry_lawful (Quadrangle g) = (is_quadrangle (defined_field (order_of g.field)) (field_lawful g.field)).lawful
