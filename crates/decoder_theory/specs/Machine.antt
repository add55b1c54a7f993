-- The decoder as a machine: its state and its word together fix what a step does, and a run steps until a verdict.
use Rattle.std.specs.Prelude.{ℕ, zero, suc, ◌+◌, Bool, true, false, List, Some, None, Option, ◌==◌, nat_le}
use Rattle.refusal.specs.declared.Vertex.{Vertex}
use Rattle.refusal.specs.declared.Vertex.TheVariants.{Point}
use Rattle.refusal.specs.declared.Verdict.{Verdict}
use Rattle.refusal.specs.declared.Verdict.TheVariants.{Clean, Stuck, Spent}
use Rattle.refusal.specs.declared.Report.{Report}
use Rattle.graph_code.specs.declared.side.Side.{Side}
use Rattle.graph_code.specs.declared.side.Side.TheVariants.{Lines, Points}
use Rattle.graph_code.specs.declared.side.HalfRound.{HalfRound}
use Rattle.graph_code.specs.Model.{GraphModel}
use Rattle.graph_code.specs.Sides.{side}
use Rattle.graph_code.specs.Words.{first_failing}
use Rattle.graph_code.specs.Rounds.{refusals, alterations, counted, after_round}
use Rattle.decoder_theory.specs.declared.state.State.{State}

-- a state, the word, and what the half round counted if the step made one
pub record Stepped : Type 0 where
  pub state : State
  pub word : List ℕ
  pub counted : Option HalfRound

-- lines first, and nothing done yet
abbrev pub start : State
start = record { turn = Lines; made = 0; quiet = 0; lines_refused = 0; points_refused = 0; verdict = None }

-- the state with a verdict
abbrev pub decided : State → Verdict → State
decided d v = record {
  turn = d.turn;
  made = d.made;
  quiet = d.quiet;
  lines_refused = d.lines_refused;
  points_refused = d.points_refused;
  verdict = Some v;
}

-- a verdict: the word stays, and no half round is made
abbrev pub ends : State → List ℕ → Verdict → Stepped
ends d w v = record { state = decided d v; word = w; counted = None }

-- one more quiet half round if nothing was altered, and none otherwise
abbrev pub quiet_after : ℕ → Bool → ℕ
quiet_after n true = n + 1
quiet_after n false = 0

-- the state after a half round of a side
abbrev pub turned : GraphModel → State → List ℕ → Side → State
turned k d w Lines = record {
  turn = Points;
  made = d.made + 1;
  quiet = quiet_after d.quiet (alterations (side k Lines) w == 0);
  lines_refused = refusals (side k Lines) w;
  points_refused = d.points_refused;
  verdict = None;
}
turned k d w Points = record {
  turn = Lines;
  made = d.made + 1;
  quiet = quiet_after d.quiet (alterations (side k Points) w == 0);
  lines_refused = d.lines_refused;
  points_refused = refusals (side k Points) w;
  verdict = None;
}

-- one half round of the side whose turn it is
abbrev pub round : GraphModel → State → List ℕ → Stepped
round k d w = record { state = turned k d w d.turn; word = after_round k d.turn w; counted = Some (counted (side k d.turn) w) }

-- neither clean nor stuck: spent if the half rounds made equal the budget, and else a half round
abbrev pub unless_spent : GraphModel → State → List ℕ → Vertex → Bool → Stepped
unless_spent k d w v true = ends d w (Spent v)
unless_spent k d w v false = round k d w

-- not clean, v being the first vertex that fails: stuck if the last two half rounds altered nothing
abbrev pub unless_stuck : GraphModel → ℕ → State → List ℕ → Vertex → Bool → Stepped
unless_stuck k budget d w v true = ends d w (Stuck v)
unless_stuck k budget d w v false = unless_spent k d w v (d.made == budget)

-- no verdict yet: clean if no vertex fails
abbrev pub unless_clean : GraphModel → ℕ → State → List ℕ → Option Vertex → Stepped
unless_clean k budget d w None = ends d w Clean
unless_clean k budget d w (Some v) = unless_stuck k budget d w v (nat_le 2 d.quiet)

-- a verdict reached stays
abbrev pub unless_over : GraphModel → ℕ → State → List ℕ → Option Verdict → Stepped
unless_over k budget d w (Some v) = record { state = d; word = w; counted = None }
unless_over k budget d w None = unless_clean k budget d w (first_failing k w)

-- one step of the decoder
abbrev pub step : GraphModel → ℕ → State → List ℕ → Stepped
step k budget d w = unless_over k budget d w d.verdict

-- n steps
abbrev pub steps : GraphModel → ℕ → ℕ → State → List ℕ → State × List ℕ
steps k budget zero d w = (d, w)
steps k budget (suc n) d w = steps k budget n (step k budget d w).state (step k budget d w).word

-- a run steps until a verdict, which is reached after at most one step more than the budget, and stays
unfoldable pub run : GraphModel → ℕ → List ℕ → State × List ℕ
run k budget w = steps k budget (suc budget) start w

-- there is a verdict
abbrev pub HasVerdict : Option Verdict → Type 0
HasVerdict (Some v) = Unit
HasVerdict None = ⊥

-- a run ends with a verdict
abbrev pub RunEnds : Type 0
RunEnds = (k : GraphModel) (budget : ℕ) (w : List ℕ) → HasVerdict (run k budget w).0.verdict

-- the verdict of a state that has one, and any where it has none
abbrev pub verdict_of : Option Verdict → Verdict
verdict_of (Some v) = v
verdict_of None = Spent (Point 0)

-- the report of a state with a verdict
abbrev pub report : State → Report
report d = record {
  verdict = verdict_of d.verdict;
  half_rounds = d.made;
  lines_refused = d.lines_refused;
  points_refused = d.points_refused;
}
