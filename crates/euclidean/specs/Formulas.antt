-- The Euclidean plane by formulas.
use Rattle.std.specs.Prelude.{◌+◌, ◌*◌, ◌/◌, ◌%◌}
use Rattle.field.specs.Model.{FieldModel, minus}
use Rattle.geometry.specs.Model.{GeometryModel}
use Rattle.geometry.specs.Layouts.{Layout, laid}

-- Seat i of point (x, y) is on the line [i, y - i x], and seat j of line [a, b] has the point (j, a j + b).
abbrev pub euclidean_layout : FieldModel → Layout
euclidean_layout φ = record {
  order = φ.order;
  points = φ.order * φ.order;
  lines = φ.order * φ.order;
  point_degree = φ.order;
  line_degree = φ.order;
  line_at = λ p i. i * φ.order + minus φ (p % φ.order) (φ.prod i (p / φ.order));
  seat_at = λ p l. l / φ.order;
  point_on = λ l j. j * φ.order + φ.sum (φ.prod (l / φ.order) j) (l % φ.order);
  seat_on = λ l p. p / φ.order;
}

abbrev pub euclidean : FieldModel → GeometryModel
euclidean φ = laid (euclidean_layout φ)
