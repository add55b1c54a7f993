-- A run ends with a verdict.
use Rattle.std.proofs.Common.{◌≡◌, ℕ, zero, suc, ◌+◌, ◌<◌, ◌≤◌, Bool, true, false, eqb, leb, ◌≢◌, List, Some, None, Option, refl, arith}
use Rattle.std.proofs.lemmas.Bool.{eqb-false}
use Rattle.refusal.specs.declared.Vertex.{Vertex}
use Rattle.refusal.specs.declared.Verdict.{Verdict}
use Rattle.refusal.specs.declared.Verdict.TheVariants.{Clean, Stuck, Spent}
use Rattle.graph_code.specs.Model.{GraphModel}
use Rattle.graph_code.specs.Words.{first_failing}
use Rattle.decoder_theory.specs.declared.state.State.{State}
use Rattle.decoder_theory.specs.Machine.{Stepped, start, unless_spent, unless_stuck, unless_clean, unless_over, step, steps, run, HasVerdict, RunEnds}
use Rattle.decoder_theory.proofs.Stepping.{stays, turned_is}

-- after a step with n more to come: a verdict, or a half round made, and steps enough for the rest of the budget
data Progress (budget n : ℕ) (y : Stepped) : Type 0 where
  over_by : (v : Verdict) → y.state.verdict ≡ Some v → Progress budget n y
  going : budget < y.state.made + n → y.state.made ≤ budget → Progress budget n y

module _ (k : GraphModel) (budget n : ℕ) (d : State) (x : List ℕ) (h : budget < d.made + suc n) (m : d.made ≤ budget) where
  spent_moves : (v : Vertex) (b : Bool) → eqb d.made budget ≡ b → Progress budget n (unless_spent k d x v b)
  spent_moves v true e = over_by (Spent v) refl
  spent_moves v false e =
      let t = turned_is k d x d.turn in
      let u = t.made in
      let z : d.made ≢ budget = eqb-false d.made budget e in
      going (omega arith) (omega arith)

  stuck_moves : (v : Vertex) (b : Bool) → Progress budget n (unless_stuck k budget d x v b)
  stuck_moves v true = over_by (Stuck v) refl
  stuck_moves v false = spent_moves v (eqb d.made budget) refl

  clean_moves : (o : Option Vertex) → Progress budget n (unless_clean k budget d x o)
  clean_moves None = over_by Clean refl
  clean_moves (Some v) = stuck_moves v (leb 2 d.quiet)

  over_moves : (o : Option Verdict) → d.verdict ≡ o → Progress budget n (unless_over k budget d x o)
  over_moves None e = clean_moves (first_failing k x)
  over_moves (Some v) e = over_by v e

has : (o : Option Verdict) (v : Verdict) → o ≡ Some v → HasVerdict o
has (Some u) v e = tt
has None v e = absurd (let z : ◌≡◌ {A = ℕ} 0 1 = cc in omega arith)

-- one step more than what is left of the budget comes to a verdict
steps_end : (k : GraphModel) (budget n : ℕ) (d : State) (x : List ℕ) → budget < d.made + n → d.made ≤ budget → HasVerdict (steps k budget n d x).0.verdict
steps_end k budget zero d x h m = absurd (omega arith)
steps_end k budget (suc n) d x h m = go (step k budget d x) (over_moves k budget n d x h m d.verdict refl) (λ d x. steps_end k budget n d x)
  where
    go : (y : Stepped) → Progress budget n y
        → ((d : State) (x : List ℕ) → budget < d.made + n → d.made ≤ budget → HasVerdict (steps k budget n d x).0.verdict)
        → HasVerdict (steps k budget n y.state y.word).0.verdict
    go y (over_by v e) r = rw (stays k budget n y.state y.word v e) (has y.state.verdict v e)
    go y (going p q) r = r y.state y.word p q

pub run_ends : RunEnds
unfolding run
run_ends k budget w = steps_end k budget (suc budget) start w (omega arith) (omega arith)
