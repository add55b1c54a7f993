-- Half rounds: every vertex of one side is decoded, and a vertex that refuses keeps its symbols.
use Rattle.std.specs.Prelude.{ℕ, zero, suc, List, Some, None, Option, slice_index}
use Rattle.ranges.specs.Ranges.{sum, tabulate, over, differ}
use Rattle.component.specs.Decoding.{decoded, settled}
use Rattle.graph_code.specs.declared.side.Side.{Side}
use Rattle.graph_code.specs.declared.side.Side.TheVariants.{Lines}
use Rattle.graph_code.specs.declared.side.HalfRound.{HalfRound}
use Rattle.graph_code.specs.Model.{GraphModel, symbols}
use Rattle.graph_code.specs.Sides.{SideModel, side, other}
use Rattle.graph_code.specs.Words.{seen}

-- the symbols that a vertex has after decoding
abbrev pub settled_at : SideModel → List ℕ → ℕ → List ℕ
settled_at σ w v = settled σ.code (seen σ v w)

-- the word of n symbols after a half round: each edge has what its vertex has there after decoding
unfoldable pub half_round : SideModel → ℕ → List ℕ → List ℕ
half_round σ n w = tabulate n (λ e. slice_index (settled_at σ w (σ.vertex e)) (σ.seat e))

-- 1 where decoding refuses
abbrev pub refused : Option (List ℕ) → ℕ
refused (Some ys) = 0
refused None = 1

-- how many vertices of a side refuse
unfoldable pub refusals : SideModel → List ℕ → ℕ
refusals σ w = sum σ.vertices (λ v. refused (decoded σ.code (seen σ v w)))

-- 1 where decoding alters a symbol of the vertex
abbrev pub altered_at : SideModel → List ℕ → ℕ → ℕ
altered_at σ w v = over 0 (differ σ.degree (seen σ v w) (settled_at σ w v))

-- how many vertices of a side have a symbol altered
unfoldable pub alterations : SideModel → List ℕ → ℕ
alterations σ w = sum σ.vertices (altered_at σ w)

-- what a half round of a side counts
abbrev pub counted : SideModel → List ℕ → HalfRound
counted σ w = record { altered = alterations σ w; refused = refusals σ w }

-- the word after a half round of a side of a graph code
abbrev pub after_round : GraphModel → Side → List ℕ → List ℕ
after_round k s w = half_round (side k s) (symbols k) w

-- the side whose turn it is after i half rounds: lines first, and the sides in turn
abbrev pub turn_after : ℕ → Side
turn_after zero = Lines
turn_after (suc i) = other (turn_after i)

-- the word after i half rounds
abbrev pub rounds : GraphModel → ℕ → List ℕ → List ℕ
rounds k zero w = w
rounds k (suc i) w = after_round k (turn_after i) (rounds k i w)
