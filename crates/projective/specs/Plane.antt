-- What the projective plane over a field of order q is, with no word of how its answers are worked out.
use Rattle.std.specs.Prelude.{◌≡◌, ◌+◌, ◌*◌, ◌↔◌}
use Rattle.field.specs.Model.{FieldModel}
use Rattle.geometry.specs.Model.{GeometryModel}
use Rattle.geometry.specs.Incidence.{On}
use Rattle.geometry.specs.Laws.{GeometryLaws}
use Rattle.geometry.specs.Seats.{Rising}
use Rattle.geometry.specs.Agreement.{Agree}
use Rattle.projective.specs.declared.triple.Triple.{Triple}
use Rattle.projective.specs.Triples.{Codes, number_of, dot}

-- Points (1, y, z), (0, 1, z) and (0, 0, 1) are points q y + z, q² + z and q² + q, and lines have the same triples and numbers.
-- Point (x, y, z) is on line (a, b, c) if a x + b y + c z = 0.
pub record IsProjective (φ : FieldModel) (g : GeometryModel) : Type 0 where
  pub order_is : g.order ≡ φ.order
  pub points_are : g.points ≡ φ.order * φ.order + φ.order + 1
  pub lines_are : g.lines ≡ φ.order * φ.order + φ.order + 1
  pub point_degree_is : g.point_degree ≡ φ.order + 1
  pub line_degree_is : g.line_degree ≡ φ.order + 1
  pub incidence : (p m : Triple) → Codes φ.order p → Codes φ.order m
      → On g (number_of φ.order p) (number_of φ.order m) ↔ (dot φ m p ≡ 0)
  pub rising : Rising g
  pub lawful : GeometryLaws g

-- That leaves no choice: whatever is the projective plane gives the answers of g.
abbrev pub OnlyProjective : FieldModel → GeometryModel → Type 0
OnlyProjective φ g = (h : GeometryModel) → IsProjective φ h → Agree h g
