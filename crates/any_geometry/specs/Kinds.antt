-- The meaning of a geometry chosen at run time.
use Rattle.std.specs.Prelude.{◌≡◌, ℕ, None, Option}
use Rattle.field.specs.Model.{FieldModel}
use Rattle.field.specs.Defined.{defined_field}
use Rattle.geometry.specs.Model.{GeometryModel}
use Rattle.geometry.specs.Projection.{Joined}
use Rattle.euclidean.specs.Formulas.{euclidean}
use Rattle.projective.specs.Formulas.{projective}
use Rattle.quadrangle.specs.Formulas.{quadrangle}
use Rattle.any_geometry.specs.declared.Kind.{Kind}
use Rattle.any_geometry.specs.declared.Kind.TheVariants.{Euclidean, Projective, Quadrangle}
use Rattle.any_geometry.specs.declared.AnyGeometry.{AnyGeometry}
use Rattle.any_geometry.specs.declared.AnyGeometry.TheVariants.{Euclidean as EuclideanOf, Projective as ProjectiveOf, Quadrangle as QuadrangleOf}
use Rattle.any_field.specs.Orders.{order_of}

-- the geometry of a kind over a field
abbrev pub kind_over : Kind → FieldModel → GeometryModel
kind_over Euclidean f = euclidean f
kind_over Projective f = projective f
kind_over Quadrangle f = quadrangle f

abbrev pub geometry_of : AnyGeometry → GeometryModel
geometry_of (EuclideanOf g) = euclidean (defined_field (order_of g.field))
geometry_of (ProjectiveOf g) = projective (defined_field (order_of g.field))
geometry_of (QuadrangleOf g) = quadrangle (defined_field (order_of g.field))

-- the kind of a geometry chosen at run time
abbrev pub kind_of : AnyGeometry → Kind
kind_of (EuclideanOf g) = Euclidean
kind_of (ProjectiveOf g) = Projective
kind_of (QuadrangleOf g) = Quadrangle

-- what a projection answers, by the kind of the geometry: the joining pair of a quadrangle, and nothing in a plane
abbrev pub Projects : Kind → GeometryModel → ℕ → ℕ → Option (ℕ × ℕ) → Type 0
Projects Euclidean g l p r = r ≡ None
Projects Projective g l p r = r ≡ None
Projects Quadrangle g l p r = Joined g l p r
