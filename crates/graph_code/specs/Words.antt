-- Words of a graph code.
use Rattle.std.specs.Prelude.{◌≡◌, ℕ, ◌<◌, Bool, true, not, List, length, None, Option, slice_index, option_map}
use Rattle.refusal.specs.declared.Vertex.{Vertex}
use Rattle.refusal.specs.declared.Vertex.TheVariants.{Point, Line}
use Rattle.ranges.specs.Ranges.{tabulate, or_else, first_below}
use Rattle.component.specs.Model.{is_word}
use Rattle.graph_code.specs.declared.side.Side.{Side}
use Rattle.graph_code.specs.declared.side.Side.TheVariants.{Lines, Points}
use Rattle.graph_code.specs.Model.{GraphModel, symbols}
use Rattle.graph_code.specs.Sides.{SideModel, side}

-- the symbols of a vertex, in the order of its seats
abbrev pub seen : SideModel → ℕ → List ℕ → List ℕ
seen σ v w = tabulate σ.degree (λ i. slice_index w (σ.edge v i))

-- a word passes at a vertex whose symbols are a code word
abbrev pub passes_at : SideModel → List ℕ → ℕ → Bool
passes_at σ w v = is_word σ.code (seen σ v w)

-- it passes at every vertex of a side
abbrev pub PassesOn : SideModel → List ℕ → Type 0
PassesOn σ w = (v : ℕ) → v < σ.vertices → passes_at σ w v ≡ true

-- a word of the code has a symbol on each edge, and passes everywhere: at every point and at every line
pub record CodeWord (k : GraphModel) (w : List ℕ) : Type 0 where
  pub size : length w ≡ symbols k
  pub passes : (s : Side) → PassesOn (side k s) w

-- the first vertex of a side at which a word fails
unfoldable pub first_failing_on : SideModel → List ℕ → Option ℕ
first_failing_on σ w = first_below σ.vertices (λ v. not (passes_at σ w v))

-- the first vertex at which a word fails, points before lines
unfoldable pub first_failing : GraphModel → List ℕ → Option Vertex
first_failing k w = or_else (option_map Point (first_failing_on (side k Points) w)) (option_map Line (first_failing_on (side k Lines) w))

-- no vertex is the first to fail exactly where the word passes everywhere
abbrev pub NoneFails : Type 0
NoneFails = (k : GraphModel) (w : List ℕ)
    → (first_failing k w ≡ None → (s : Side) → PassesOn (side k s) w) × (((s : Side) → PassesOn (side k s) w) → first_failing k w ≡ None)
