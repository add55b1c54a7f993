-- Worked figures of the three geometries.
use Rattle.std.specs.Prelude.{◌≡◌, ℕ, ◌+◌, ◌*◌, Some, None, Ok, Err}
use Rattle.refusal.specs.declared.Refusal.TheVariants.{FieldOrder, GeometrySize}
use Rattle.field.specs.Defined.{defined_field}
use Rattle.geometry.specs.Model.{GeometryModel, edges, edge_at}
use Rattle.geometry.specs.Limits.{standing}
use Rattle.euclidean.specs.Formulas.{euclidean}
use Rattle.projective.specs.Formulas.{projective}
use Rattle.quadrangle.specs.Formulas.{quadrangle}

-- point p has three seats, with the edges a, b and c
pub record Edges (g : GeometryModel) (p a b c : ℕ) : Type 0 where
  pub first : edge_at g p 0 ≡ Some a
  pub second : edge_at g p 1 ≡ Some b
  pub third : edge_at g p 2 ≡ Some c
  pub none : edge_at g p 3 ≡ None

-- line l has three seats, with the points a, b and c
pub record Points (g : GeometryModel) (l a b c : ℕ) : Type 0 where
  pub degree : g.line_degree ≡ 3
  pub first : g.point (l * 3) ≡ a
  pub second : g.point (l * 3 + 1) ≡ b
  pub third : g.point (l * 3 + 2) ≡ c

-- the figures of geometries
pub record GeometryFigures : Type 0 where
  -- Euclidean plane of order 3: point 5 has the edges 7, 13 and 19
  pub euclidean_point : Edges (euclidean (defined_field 3)) 5 7 13 19
  -- quadrangle of order 3: point 15 has the edges 13, 52 and 55
  pub quadrangle_point : Edges (quadrangle (defined_field 3)) 15 13 52 55
  -- projective plane of order 2: line 1 has the points 1, 3 and 4, and point 4 has the edges 0, 5 and 20
  pub projective_line : Points (projective (defined_field 2)) 1 1 3 4
  pub projective_point : Edges (projective (defined_field 2)) 4 0 5 20
  -- the numbers of edges at the limits, and what refuses those beyond
  pub euclidean_16 : edges (euclidean (defined_field 16)) ≡ 4096
  pub euclidean_16_stands : standing (euclidean (defined_field 16)) ≡ Ok tt
  pub projective_16 : edges (projective (defined_field 16)) ≡ 4641
  pub projective_16_stands : standing (projective (defined_field 16)) ≡ Ok tt
  pub quadrangle_8 : edges (quadrangle (defined_field 8)) ≡ 4096
  pub quadrangle_8_stands : standing (quadrangle (defined_field 8)) ≡ Ok tt
  pub quadrangle_11 : edges (quadrangle (defined_field 11)) ≡ 14641
  pub quadrangle_11_refused : standing (quadrangle (defined_field 11)) ≡ Err GeometrySize
  pub euclidean_256_refused : standing (euclidean (defined_field 256)) ≡ Err GeometrySize
  pub euclidean_9_refused : standing (euclidean (defined_field 9)) ≡ Err FieldOrder
