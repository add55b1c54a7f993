-- What the quadrangle over a field of order q is, with no word of how its answers are worked out. It is the affine part of a generalised quadrangle.
use Rattle.std.specs.Prelude.{◌≡◌, ℕ, ◌+◌, ◌*◌, ◌<◌, ◌↔◌}
use Rattle.field.specs.Model.{FieldModel}
use Rattle.geometry.specs.Model.{GeometryModel}
use Rattle.geometry.specs.Incidence.{On}
use Rattle.geometry.specs.Laws.{GeometryLaws}
use Rattle.geometry.specs.Seats.{Rising}
use Rattle.geometry.specs.Agreement.{Agree}

-- Point (x, y, z) is point q² x + q y + z, and line [a, b, c] is line q² a + q b + c. The point is on the line if y + b = a x and z + c = x b.
pub record IsQuadrangle (φ : FieldModel) (g : GeometryModel) : Type 0 where
  pub order_is : g.order ≡ φ.order
  pub points_are : g.points ≡ φ.order * φ.order * φ.order
  pub lines_are : g.lines ≡ φ.order * φ.order * φ.order
  pub point_degree_is : g.point_degree ≡ φ.order
  pub line_degree_is : g.line_degree ≡ φ.order
  pub incidence : (x y z a b c : ℕ) → x < φ.order → y < φ.order → z < φ.order → a < φ.order → b < φ.order → c < φ.order
      → On g (φ.order * φ.order * x + φ.order * y + z) (φ.order * φ.order * a + φ.order * b + c)
      ↔ ((φ.sum y b ≡ φ.prod a x) × (φ.sum z c ≡ φ.prod x b))
  pub rising : Rising g
  pub lawful : GeometryLaws g

-- That leaves no choice: whatever is the quadrangle gives the answers of g.
abbrev pub OnlyQuadrangle : FieldModel → GeometryModel → Type 0
OnlyQuadrangle φ g = (h : GeometryModel) → IsQuadrangle φ h → Agree h g
