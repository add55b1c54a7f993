-- What a step does to the state.
use Rattle.std.proofs.Common.{◌≡◌, ℕ, zero, suc, ◌+◌, eqb, List, Some, None, refl, ap, ◌∙◌}
use Rattle.refusal.specs.declared.Verdict.{Verdict}
use Rattle.graph_code.specs.declared.side.Side.{Side}
use Rattle.graph_code.specs.declared.side.Side.TheVariants.{Lines, Points}
use Rattle.graph_code.specs.Model.{GraphModel}
use Rattle.graph_code.specs.Sides.{side, other}
use Rattle.graph_code.specs.Rounds.{alterations}
use Rattle.decoder_theory.specs.declared.state.State.{State}
use Rattle.decoder_theory.specs.Machine.{Stepped, quiet_after, turned, unless_over, steps}

-- a verdict stays
pub stays : (k : GraphModel) (budget n : ℕ) (d : State) (x : List ℕ) (v : Verdict) → d.verdict ≡ Some v → steps k budget n d x ≡ (d, x)
stays k budget zero d x v h = refl
stays k budget (suc n) d x v h = ap (λ (y : Stepped). steps k budget n y.state y.word) (ap (unless_over k budget d x) h) ∙ stays k budget n d x v h

-- what a half round of a side does to the state
pub record Turned (k : GraphModel) (d : State) (x : List ℕ) (s : Side) (d' : State) : Type 0 where
  pub turn : d'.turn ≡ other s
  pub made : d'.made ≡ d.made + 1
  pub quiet : d'.quiet ≡ quiet_after d.quiet (eqb (alterations (side k s) x) 0)
  pub verdict : d'.verdict ≡ None

pub turned_is : (k : GraphModel) (d : State) (x : List ℕ) (s : Side) → Turned k d x s (turned k d x s)
turned_is k d x Lines = record { turn = refl; made = refl; quiet = refl; verdict = refl }
turned_is k d x Points = record { turn = refl; made = refl; quiet = refl; verdict = refl }
