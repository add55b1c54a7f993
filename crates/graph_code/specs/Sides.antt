-- The two sides of a graph code. What holds of the points and of the lines alike is said of a side.
use Rattle.std.specs.Prelude.{ℕ, ◌+◌, ◌*◌, ◌%◌}
use Rattle.geometry.specs.Model.{GeometryModel, line_of}
use Rattle.component.specs.Model.{CodeModel}
use Rattle.graph_code.specs.declared.side.Side.{Side}
use Rattle.graph_code.specs.declared.side.Side.TheVariants.{Lines, Points}
use Rattle.graph_code.specs.Model.{GraphModel}

pub record SideModel : Type 0 where
  -- how many vertices there are, and how many seats each has
  pub vertices : ℕ
  pub degree : ℕ
  -- the edge at a seat of a vertex
  pub edge : ℕ → ℕ → ℕ
  -- the vertex of an edge on this side, and the seat of the edge there
  pub vertex : ℕ → ℕ
  pub seat : ℕ → ℕ
  -- the code of the symbols at a vertex
  pub code : CodeModel

abbrev pub point_side : GeometryModel → CodeModel → SideModel
point_side g c = record {
  vertices = g.points;
  degree = g.point_degree;
  edge = g.edge;
  vertex = g.point;
  seat = g.seat;
  code = c;
}

-- edge l u + j is seat j of line l
abbrev pub line_side : GeometryModel → CodeModel → SideModel
line_side g c = record {
  vertices = g.lines;
  degree = g.line_degree;
  edge = λ l j. l * g.line_degree + j;
  vertex = line_of g;
  seat = λ e. e % g.line_degree;
  code = c;
}

abbrev pub side : GraphModel → Side → SideModel
side k Points = point_side k.geometry k.point_code
side k Lines = line_side k.geometry k.line_code

-- the side opposite
abbrev pub other : Side → Side
other Lines = Points
other Points = Lines
