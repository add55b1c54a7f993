-- Seats that follow the rising numbers of the vertices opposite.
use Rattle.std.specs.Prelude.{ℕ, ◌+◌, ◌*◌, ◌<◌}
use Rattle.geometry.specs.Model.{GeometryModel, line_of}

pub record Rising (g : GeometryModel) : Type 0 where
  -- the lines at the seats of each point
  pub lines_rise : (p i j : ℕ) → p < g.points → i < j → j < g.point_degree → line_of g (g.edge p i) < line_of g (g.edge p j)
  -- the points at the seats of each line
  pub points_rise : (l i j : ℕ) → l < g.lines → i < j → j < g.line_degree
      → g.point (l * g.line_degree + i) < g.point (l * g.line_degree + j)
