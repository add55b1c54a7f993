-- The quadrangle by formulas.
use Rattle.std.specs.Prelude.{ℕ, ◌*◌}
use Rattle.field.specs.Model.{FieldModel, minus}
use Rattle.geometry.specs.Model.{GeometryModel}
use Rattle.geometry.specs.Layouts.{Layout, laid}
use Rattle.radix.specs.Digits.{first, second, third, number}

-- the line [a, b, c] through the point (x, y, z): b = a x - y and c = x b - z
abbrev pub line_through : FieldModel → (x y z a : ℕ) → ℕ
line_through φ x y z a = number φ.order a (minus φ (φ.prod a x) y) (minus φ (φ.prod x (minus φ (φ.prod a x) y)) z)

-- the point (x, y, z) of the line [a, b, c]: y = a x - b and z = x b - c
abbrev pub point_over : FieldModel → (a b c x : ℕ) → ℕ
point_over φ a b c x = number φ.order x (minus φ (φ.prod a x) b) (minus φ (φ.prod x b) c)

-- Seat i of a point is on its line [i, b, c], and seat j of a line has its point (j, y, z).
abbrev pub quadrangle_layout : FieldModel → Layout
quadrangle_layout φ = record {
  order = φ.order;
  points = φ.order * φ.order * φ.order;
  lines = φ.order * φ.order * φ.order;
  point_degree = φ.order;
  line_degree = φ.order;
  line_at = λ p i. line_through φ (first φ.order p) (second φ.order p) (third φ.order p) i;
  seat_at = λ p l. first φ.order l;
  point_on = λ l j. point_over φ (first φ.order l) (second φ.order l) (third φ.order l) j;
  seat_on = λ l p. first φ.order p;
}

abbrev pub quadrangle : FieldModel → GeometryModel
quadrangle φ = laid (quadrangle_layout φ)
