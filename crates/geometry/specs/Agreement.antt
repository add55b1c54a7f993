-- Geometries that cannot be told apart.
use Rattle.std.specs.Prelude.{◌≡◌, ℕ}
use Rattle.geometry.specs.Model.{GeometryModel, edge_at, point_of}

-- two geometries give the same answers to every question
pub record Agree (g h : GeometryModel) : Type 0 where
  pub orders_agree : g.order ≡ h.order
  pub points_agree : g.points ≡ h.points
  pub lines_agree : g.lines ≡ h.lines
  pub point_degrees_agree : g.point_degree ≡ h.point_degree
  pub line_degrees_agree : g.line_degree ≡ h.line_degree
  pub edges_agree : (p i : ℕ) → edge_at g p i ≡ edge_at h p i
  pub points_of_agree : (e : ℕ) → point_of g e ≡ point_of h e
