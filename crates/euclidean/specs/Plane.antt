-- What the Euclidean plane over a field of order q is, with no word of how its answers are worked out.
use Rattle.std.specs.Prelude.{◌≡◌, ℕ, ◌+◌, ◌*◌, ◌<◌, ◌↔◌}
use Rattle.field.specs.Model.{FieldModel}
use Rattle.geometry.specs.Model.{GeometryModel}
use Rattle.geometry.specs.Incidence.{On}
use Rattle.geometry.specs.Laws.{GeometryLaws}
use Rattle.geometry.specs.Seats.{Rising}
use Rattle.geometry.specs.Agreement.{Agree}

-- Point (x, y) is point q x + y, and line [a, b] is line q a + b. The point is on the line if y = a x + b.
pub record IsEuclidean (φ : FieldModel) (g : GeometryModel) : Type 0 where
  pub order_is : g.order ≡ φ.order
  pub points_are : g.points ≡ φ.order * φ.order
  pub lines_are : g.lines ≡ φ.order * φ.order
  pub point_degree_is : g.point_degree ≡ φ.order
  pub line_degree_is : g.line_degree ≡ φ.order
  pub incidence : (x y a b : ℕ) → x < φ.order → y < φ.order → a < φ.order → b < φ.order
      → On g (φ.order * x + y) (φ.order * a + b) ↔ (y ≡ φ.sum (φ.prod a x) b)
  pub rising : Rising g
  pub lawful : GeometryLaws g

-- That leaves no choice: whatever is the Euclidean plane gives the answers of g.
abbrev pub OnlyEuclidean : FieldModel → GeometryModel → Type 0
OnlyEuclidean φ g = (h : GeometryModel) → IsEuclidean φ h → Agree h g
