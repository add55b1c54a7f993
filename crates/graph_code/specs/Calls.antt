-- What the calls answer, and what they leave in the word.
use Rattle.std.specs.Prelude.{ℕ, List, Ok, Option, Result}
use Rattle.std.specs.Result.{result_and}
use Rattle.refusal.specs.declared.Vertex.{Vertex}
use Rattle.refusal.specs.declared.Refusal.{Refusal}
use Rattle.graph_code.specs.declared.side.Side.{Side}
use Rattle.graph_code.specs.declared.side.HalfRound.{HalfRound}
use Rattle.graph_code.specs.Model.{GraphModel}
use Rattle.graph_code.specs.Sides.{side}
use Rattle.graph_code.specs.Words.{first_failing}
use Rattle.graph_code.specs.Rounds.{counted, after_round}
use Rattle.component.specs.Checks.{left}
use Rattle.graph_code.specs.Checks.{admitted}

-- the word test
abbrev pub test_answer : GraphModel → List ℕ → Result (Option Vertex) Refusal
test_answer k w = result_and (admitted k w) (Ok (first_failing k w))

-- a half round
abbrev pub round_answer : GraphModel → Side → List ℕ → Result HalfRound Refusal
round_answer k s w = result_and (admitted k w) (Ok (counted (side k s) w))

abbrev pub round_left : GraphModel → Side → List ℕ → List ℕ
round_left k s w = left (admitted k w) w (after_round k s w)
