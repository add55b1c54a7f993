-- What a geometry means: how many points, lines and edges it has, and which edge is where. Points, lines, edges and seats are numbered from 0.
use Rattle.std.specs.Prelude.{ℕ, ◌*◌, ◌/◌, cond, Some, None, Option, nat_lt}

-- Points and lines are the vertices. An edge is a point with a line through it, and it has a seat at each of the two.
pub record GeometryModel : Type 0 where
  -- the order of the field of its coordinates
  pub order : ℕ
  -- how many points there are, and how many lines
  pub points : ℕ
  pub lines : ℕ
  -- how many lines go through each point
  pub point_degree : ℕ
  -- how many points lie on each line
  pub line_degree : ℕ
  -- the edge at a seat of a point
  pub edge : ℕ → ℕ → ℕ
  -- the point of an edge, and the seat of the edge at that point
  pub point : ℕ → ℕ
  pub seat : ℕ → ℕ

-- how many edges there are
abbrev pub edges : GeometryModel → ℕ
edges g = g.lines * g.line_degree

-- the line of an edge: each line has u edges, and edge l u + j is seat j of line l
abbrev pub line_of : GeometryModel → ℕ → ℕ
line_of g e = e / g.line_degree

-- the edge at seat i of point p; a point or seat beyond the last is absent
abbrev pub edge_at : GeometryModel → ℕ → ℕ → Option ℕ
edge_at g p i = cond (nat_lt p g.points) (cond (nat_lt i g.point_degree) (Some (g.edge p i)) None) None

-- the point of edge e, and the seat of e at that point; an edge beyond the last is absent
abbrev pub point_of : GeometryModel → ℕ → Option (ℕ × ℕ)
point_of g e = cond (nat_lt e (edges g)) (Some (g.point e, g.seat e)) None
