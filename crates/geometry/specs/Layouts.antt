-- Geometries worked out from a rule of incidence: which line stands at a seat of a point, and which point at a seat of a line.
use Rattle.std.specs.Prelude.{ℕ, ◌+◌, ◌*◌, ◌/◌, ◌%◌}
use Rattle.geometry.specs.Model.{GeometryModel}

-- what has to be worked out
pub record Layout : Type 0 where
  pub order : ℕ
  pub points : ℕ
  pub lines : ℕ
  pub point_degree : ℕ
  pub line_degree : ℕ
  -- the line at a seat of a point, and the seat at the point of a line through it
  pub line_at : ℕ → ℕ → ℕ
  pub seat_at : ℕ → ℕ → ℕ
  -- the point at a seat of a line, and the seat at the line of a point on it
  pub point_on : ℕ → ℕ → ℕ
  pub seat_on : ℕ → ℕ → ℕ

-- the geometry of a layout
abbrev pub laid : Layout → GeometryModel
laid y = record {
  order = y.order;
  points = y.points;
  lines = y.lines;
  point_degree = y.point_degree;
  line_degree = y.line_degree;
  edge = λ p i. y.line_at p i * y.line_degree + y.seat_on (y.line_at p i) p;
  point = λ e. y.point_on (e / y.line_degree) (e % y.line_degree);
  seat = λ e. y.seat_at (y.point_on (e / y.line_degree) (e % y.line_degree)) (e / y.line_degree);
}
