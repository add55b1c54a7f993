-- The laws of a geometry.
use Rattle.std.specs.Prelude.{◌≡◌, ℕ, ◌*◌, ◌<◌}
use Rattle.geometry.specs.Model.{GeometryModel, edges, line_of}
use Rattle.geometry.specs.Incidence.{OneLine}

pub record GeometryLaws (g : GeometryModel) : Type 0 where
  -- none of the four counts is 0
  pub some_points : 0 < g.points
  pub some_lines : 0 < g.lines
  pub some_point_degree : 0 < g.point_degree
  pub some_line_degree : 0 < g.line_degree
  -- counted along the points, there are as many edges
  pub count : g.points * g.point_degree ≡ edges g
  -- answers are not beyond the last
  pub edge_in : (p i : ℕ) → p < g.points → i < g.point_degree → g.edge p i < edges g
  pub point_in : (e : ℕ) → e < edges g → g.point e < g.points
  pub seat_in : (e : ℕ) → e < edges g → g.seat e < g.point_degree
  -- the two answers undo each other
  pub point_edge : (p i : ℕ) → p < g.points → i < g.point_degree → g.point (g.edge p i) ≡ p
  pub seat_edge : (p i : ℕ) → p < g.points → i < g.point_degree → g.seat (g.edge p i) ≡ i
  pub edge_point : (e : ℕ) → e < edges g → g.edge (g.point e) (g.seat e) ≡ e
  -- two different edges of one point lie on different lines
  pub apart : (e e' : ℕ) → e < edges g → e' < edges g → g.point e ≡ g.point e' → line_of g e ≡ line_of g e' → e ≡ e'
  -- two different points have at most one line in common
  pub one_line : OneLine g
