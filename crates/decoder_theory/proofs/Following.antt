-- What is left of a run gives the whole run.
use Rattle.std.proofs.Common.{◌≡◌, ℕ, suc, ◌+◌, ◌-◌, ◌*◌, ◌<◌, ◌≤◌, Bool, true, false, eqb, leb, ◌≢◌, List, is_some, Some, None, Ok, Option, sym, refl, ap, ◌∙◌, subst, arith}
use Rattle.std.proofs.lemmas.Bool.{eqb-false, leb-false}
use Rattle.refusal.specs.declared.Vertex.{Vertex}
use Rattle.refusal.specs.declared.Verdict.{Verdict}
use Rattle.refusal.specs.declared.Verdict.TheVariants.{Clean, Stuck, Spent}
use Rattle.graph_code.specs.Model.{GraphModel, GraphLaws}
use Rattle.graph_code.specs.Sides.{side}
use Rattle.graph_code.specs.Words.{first_failing}
use Rattle.graph_code.specs.Rounds.{alterations}
use Rattle.graph_code.specs.Checks.{admitted}
use Rattle.graph_code.proofs.Keeping.{round_admitted}
use Rattle.decoder_theory.specs.declared.state.State.{State}
use Rattle.decoder_theory.specs.Machine.{Stepped, start, quiet_after, unless_spent, unless_stuck, unless_clean, unless_over, step, steps, run}
use Rattle.decoder_theory.proofs.Stepping.{stays, turned_is}

-- 1 while there is no verdict
abbrev pub unset : Option Verdict → ℕ
unset None = 1
unset (Some v) = 0

pub none_is : (o : Option Verdict) → is_some o ≡ false → o ≡ None
none_is None h = refl
none_is (Some v) h = absurd (let z : ◌≡◌ {A = ℕ} 0 1 = cc in omega arith)

pub some_is : (o : Option Verdict) → is_some o ≡ true → (v : Verdict) × (o ≡ Some v)
some_is (Some v) h = (v, refl)
some_is None h = absurd (let z : ◌≡◌ {A = ℕ} 0 1 = cc in omega arith)

-- what a step does to the counts
data Moved (k : GraphModel) (budget : ℕ) (d : State) (x : List ℕ) (y : Stepped) : Type 0 where
  ended : (v : Verdict) → y.state.verdict ≡ Some v → y.state.made ≡ d.made → y.state.quiet ≡ d.quiet → y.word ≡ x → Moved k budget d x y
  went : y.state.verdict ≡ None → y.state.made ≡ d.made + 1 → y.state.quiet ≤ 2 → d.made ≢ budget → admitted k y.word ≡ Ok tt → Moved k budget d x y

quiet_le : (n : ℕ) (b : Bool) → quiet_after n b ≤ n + 1
quiet_le n true = omega arith
quiet_le n false = omega arith

module _ (k : GraphModel) (laws : GraphLaws k) (budget : ℕ) (d : State) (x : List ℕ) (fine : admitted k x ≡ Ok tt) where
  spent_moved : (v : Vertex) (b : Bool) → eqb d.made budget ≡ b → d.quiet < 2 → Moved k budget d x (unless_spent k d x v b)
  spent_moved v true e q = ended (Spent v) refl refl refl refl
  spent_moved v false e q =
      let t = turned_is k d x d.turn in
      let u = quiet_le d.quiet (eqb (alterations (side k d.turn) x) 0) in
      went t.verdict t.made (rw t.quiet (omega arith)) (eqb-false d.made budget e) (round_admitted k laws d.turn x fine)

  stuck_moved : (v : Vertex) (b : Bool) → leb 2 d.quiet ≡ b → Moved k budget d x (unless_stuck k budget d x v b)
  stuck_moved v true e = ended (Stuck v) refl refl refl refl
  stuck_moved v false e = spent_moved v (eqb d.made budget) refl (leb-false 2 d.quiet e)

  clean_moved : (o : Option Vertex) → Moved k budget d x (unless_clean k budget d x o)
  clean_moved None = ended Clean refl refl refl refl
  clean_moved (Some v) = stuck_moved v (leb 2 d.quiet) refl

  step_moved : d.verdict ≡ None → Moved k budget d x (step k budget d x)
  step_moved e = subst (λ o. Moved k budget d x (unless_over k budget d x o)) (sym e) (clean_moved (first_failing k x))

-- the run from here on ends at t
pub record Follows (k : GraphModel) (budget : ℕ) (d : State) (x : List ℕ) (t : State × List ℕ) : Type 0 where
  pub admits : admitted k x ≡ Ok tt
  pub made_fits : d.made ≤ budget
  pub quiet_fits : d.quiet ≤ 2
  pub left_over : steps k budget (budget + 1 - d.made) d x ≡ t

pub follow_start : (k : GraphModel) (budget : ℕ) (x : List ℕ) → admitted k x ≡ Ok tt → Follows k budget start x (run k budget x)
unfolding run
follow_start k budget x fine = record {
  admits = fine;
  made_fits = omega arith;
  quiet_fits = omega arith;
  left_over = let e : budget + 1 - 0 ≡ suc budget = omega arith in ap (λ n. steps k budget n start x) e;
}

-- a step follows the same run, and comes nearer to its end
pub follow_step : (k : GraphModel) → GraphLaws k → (budget : ℕ) (d : State) (x : List ℕ) (t : State × List ℕ) → d.verdict ≡ None → Follows k budget d x t
    → Follows k budget (step k budget d x).state (step k budget d x).word t
    × (2 * (budget - (step k budget d x).state.made) + unset (step k budget d x).state.verdict < 2 * (budget - d.made) + unset d.verdict)
follow_step k laws budget d x t e f = go (step k budget d x) refl (step_moved k laws budget d x f.admits e)
  where
    m : d.made ≤ budget
    m = f.made_fits

    one : unset d.verdict ≡ 1
    one = ap unset e

    onward : Stepped → State × List ℕ
    onward y = steps k budget (budget - d.made) y.state y.word

    rest : onward (step k budget d x) ≡ t
    rest = let n : budget + 1 - d.made ≡ suc (budget - d.made) = omega arith in ap (λ i. steps k budget i d x) (sym n) ∙ f.left_over

    go : (y : Stepped) → step k budget d x ≡ y → Moved k budget d x y
        → Follows k budget y.state y.word t × (2 * (budget - y.state.made) + unset y.state.verdict < 2 * (budget - d.made) + unset d.verdict)
    go y q (ended v a b c h) =
        let z : unset y.state.verdict ≡ 0 = ap unset a in (
          record {
            admits = ap (admitted k) h ∙ f.admits;
            made_fits = omega (arith, m);
            quiet_fits = omega (arith, f.quiet_fits);
            left_over = stays k budget (budget + 1 - y.state.made) y.state y.word v a ∙ sym (stays k budget (budget - d.made) y.state y.word v a) ∙ ap onward (sym q) ∙ rest;
          },
          omega (arith, m, one),
        )
    go y q (went a b c h fine) =
        let z : unset y.state.verdict ≡ 1 = ap unset a in
        let n : budget + 1 - y.state.made ≡ budget - d.made = omega (arith, m) in (
          record {
            admits = fine;
            made_fits = omega (arith, m);
            quiet_fits = c;
            left_over = ap (λ i. steps k budget i y.state y.word) n ∙ ap onward (sym q) ∙ rest;
          },
          omega (arith, m, one),
        )

-- the same of a state and a word that are known to be what a step leaves
pub follow_again : (k : GraphModel) → GraphLaws k → (budget : ℕ) (d : State) (x : List ℕ) (d' : State) (x' : List ℕ) (t : State × List ℕ) → d.verdict ≡ None
    → d' ≡ (step k budget d x).state → x' ≡ (step k budget d x).word → Follows k budget d x t
    → Follows k budget d' x' t × (2 * (budget - d'.made) + unset d'.verdict < 2 * (budget - d.made) + unset d.verdict)
follow_again k laws budget d x d' x' t e p q f =
    subst (λ (y : State × List ℕ). Follows k budget y.0 y.1 t × (2 * (budget - y.0.made) + unset y.0.verdict < 2 * (budget - d.made) + unset d.verdict))
    (λ i. (sym p i, sym q i)) (follow_step k laws budget d x t e f)

-- at a verdict nothing is left
pub follow_end : (k : GraphModel) (budget : ℕ) (d : State) (x : List ℕ) (t : State × List ℕ) (v : Verdict) → d.verdict ≡ Some v → Follows k budget d x t → (d, x) ≡ t
follow_end k budget d x t v e f = sym (stays k budget (budget + 1 - d.made) d x v e) ∙ f.left_over
