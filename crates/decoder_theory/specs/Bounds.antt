-- How much damage a graph code bears, and how far apart its words are.
use Rattle.std.specs.Prelude.{◌≡◌, ℕ, suc, ◌+◌, ◌-◌, ◌*◌, ◌<◌, ◌≤◌, min, max, List, slice_index}
use Rattle.ranges.specs.Ranges.{sum, apart, over, Bits}
use Rattle.geometry.specs.Model.{GeometryModel}
use Rattle.graph_code.specs.declared.side.Side.TheVariants.{Lines, Points}
use Rattle.graph_code.specs.Model.{GraphModel, GraphLaws}
use Rattle.graph_code.specs.Sides.{SideModel, side}

-- at how many seats of a vertex two words differ
unfoldable pub faults : SideModel → List ℕ → List ℕ → ℕ → ℕ
faults σ c w v = sum σ.degree (λ i. apart (slice_index w (σ.edge v i)) (slice_index c (σ.edge v i)))

-- how many vertices of a side have more than t seats at which the words differ
unfoldable pub beyond : SideModel → ℕ → List ℕ → List ℕ → ℕ
beyond σ t c w = sum σ.vertices (λ v. over t (faults σ c w v))

-- how many vertices of a side are wrong: they have a symbol that differs from c
abbrev pub wrong : SideModel → List ℕ → List ℕ → ℕ
wrong σ c w = beyond σ 0 c w

-- how many lines have more symbols that differ from c than the line code can put right
abbrev pub heavy_lines : GraphModel → List ℕ → List ℕ → ℕ
heavy_lines k c w = beyond (side k Lines) k.line_code.radius c w

-- how many heavy lines a geometry with codes of these radii, of the points and of the lines, bears
unfoldable pub borne : GeometryModel → ℕ → ℕ → ℕ
borne g p l = min (p * suc p) (l * suc l)

-- how many heavy lines a graph code bears
abbrev pub bound : GraphModel → ℕ
bound k = borne k.geometry k.point_code.radius k.line_code.radius

-- d edges at a point, d lines with e points each, and d edges at each of these points
abbrev pub around : ℕ → ℕ → ℕ
around d e = d * (1 + d * (e - 1))

-- in how many symbols two different words differ at least, by the geometry and the radii
unfoldable pub spread : GeometryModel → ℕ → ℕ → ℕ
spread g p l = max (around (2 * p + 1) (2 * l + 1)) (around (2 * l + 1) (2 * p + 1))

-- the same of a graph code
abbrev pub spacing : GraphModel → ℕ
spacing k = spread k.geometry k.point_code.radius k.line_code.radius

-- b or fewer vertices S of the side τ, not none, and the vertices T of the side σ with more than t edges to S: then T are fewer than S
abbrev pub Shrinks : SideModel → SideModel → ℕ → ℕ → Type 0
Shrinks σ τ t b =
    (S T : ℕ → ℕ) → Bits τ.vertices S → Bits σ.vertices T
    → ((v : ℕ) → v < σ.vertices → T v ≡ 1 → t < sum σ.degree (λ i. S (τ.vertex (σ.edge v i))))
    → 0 < sum τ.vertices S → sum τ.vertices S ≤ b → sum σ.vertices T < sum τ.vertices S

-- the counting fact: a set of 1 to b wrong vertices is followed by a smaller one, in both directions
pub record BothShrink (k : GraphModel) (b : ℕ) : Type 0 where
  pub points : Shrinks (side k Points) (side k Lines) k.point_code.radius b
  pub lines : Shrinks (side k Lines) (side k Points) k.line_code.radius b

-- it holds of every graph code of lawful parts, up to its bound
abbrev pub PlanesShrink : Type 0
PlanesShrink = (k : GraphModel) → GraphLaws k → BothShrink k (bound k)
