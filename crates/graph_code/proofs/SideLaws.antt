-- Both sides of a graph code have the same laws.
use Rattle.std.proofs.Common.{◌≡◌, ℕ, ◌<◌, true, List, get_or, sym, refl, ◌∙◌, mod-lt, div-lt_iff_lt-mul, div-add-mod'}
use lib.Arith.{digits_lt, digits_div, digits_mod}
use Rattle.geometry.specs.Model.{GeometryModel, edges}
use Rattle.geometry.specs.Laws.{GeometryLaws}
use Rattle.component.specs.Model.{CodeModel, CodeLaws}
use Rattle.component.proofs.Search.{word_length}
use Rattle.ranges.proofs.Tests.{length_tabulate}
use Rattle.graph_code.specs.declared.side.Side.{Side}
use Rattle.graph_code.specs.declared.side.Side.TheVariants.{Lines, Points}
use Rattle.graph_code.specs.Model.{GraphModel, GraphLaws, symbols}
use Rattle.graph_code.specs.Sides.{SideModel, point_side, line_side, side, other}
use Rattle.graph_code.specs.Words.{seen, passes_at}

-- each edge is at one seat of one vertex of the side
pub record SideLaws (σ : SideModel) (n : ℕ) : Type 0 where
  pub some_vertex : 0 < σ.vertices
  pub edge_in : (v i : ℕ) → v < σ.vertices → i < σ.degree → σ.edge v i < n
  pub vertex_edge : (v i : ℕ) → v < σ.vertices → i < σ.degree → σ.vertex (σ.edge v i) ≡ v
  pub seat_edge : (v i : ℕ) → v < σ.vertices → i < σ.degree → σ.seat (σ.edge v i) ≡ i
  pub vertex_in : (e : ℕ) → e < n → σ.vertex e < σ.vertices
  pub seat_in : (e : ℕ) → e < n → σ.seat e < σ.degree
  pub edge_vertex : (e : ℕ) → e < n → σ.edge (σ.vertex e) (σ.seat e) ≡ e
  pub code_laws : CodeLaws σ.code

pub point_laws : (g : GeometryModel) (c : CodeModel) → GeometryLaws g → CodeLaws c → SideLaws (point_side g c) (edges g)
point_laws g c laws code = record {
  some_vertex = laws.some_points;
  edge_in = laws.edge_in;
  vertex_edge = laws.point_edge;
  seat_edge = laws.seat_edge;
  vertex_in = laws.point_in;
  seat_in = laws.seat_in;
  edge_vertex = laws.edge_point;
  code_laws = code;
}

pub line_laws : (g : GeometryModel) (c : CodeModel) → GeometryLaws g → CodeLaws c → SideLaws (line_side g c) (edges g)
line_laws g c laws code = record {
  some_vertex = laws.some_lines;
  edge_in = λ l j h i. digits_lt h i;
  vertex_edge = λ l j h i. digits_div l i;
  seat_edge = λ l j h i. digits_mod l i;
  vertex_in = λ e h. (div-lt_iff_lt-mul laws.some_line_degree).1 h;
  seat_in = λ e h. mod-lt e laws.some_line_degree;
  edge_vertex = λ e h. div-add-mod' e g.line_degree;
  code_laws = code;
}

pub side_laws : (k : GraphModel) → GraphLaws k → (s : Side) → SideLaws (side k s) (symbols k)
side_laws k laws Points = point_laws k.geometry k.point_code laws.geometry_laws laws.point_laws
side_laws k laws Lines = line_laws k.geometry k.line_code laws.geometry_laws laws.line_laws

-- a word can pass at a vertex only if the code is as long as the vertex has seats
pub size_is : (σ : SideModel) (c : List ℕ) (v : ℕ) → passes_at σ c v ≡ true → σ.code.size ≡ σ.degree
size_is σ c v h = sym (word_length σ.code (seen σ v c) h) ∙ length_tabulate σ.degree (λ i. get_or c (σ.edge v i) 0)

pub other_other : (s : Side) → other (other s) ≡ s
other_other Lines = refl
other_other Points = refl
