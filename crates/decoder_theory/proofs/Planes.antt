-- Few wrong vertices are followed by fewer, by counting.
use Rattle.std.proofs.Common.{ℕ, suc, ◌*◌, ◌<◌, ◌≤◌, refl, ap, mul-le-mul_left, arith}
use Rattle.ranges.specs.Ranges.{sum}
use Rattle.ranges.proofs.Sums.{sum_le, sum_pick, sum_weigh}
use Rattle.counting.proofs.Fewer.{decrease}
use Rattle.graph_code.specs.declared.side.Side.TheVariants.{Lines, Points}
use Rattle.graph_code.specs.Model.{symbols}
use Rattle.graph_code.specs.Sides.{SideModel, side}
use Rattle.graph_code.proofs.SideLaws.{SideLaws, side_laws}
use Rattle.decoder_theory.specs.Bounds.{borne, bound, Shrinks, PlanesShrink}
use Rattle.decoder_theory.specs.Correction.{CorrectsToBound}
use Rattle.decoder_theory.proofs.Equality.{equal, equal_one}
use Rattle.decoder_theory.proofs.Meeting.{Meet, meet, meet_lines, meets, seats_edges, meets_once, meets_linear}
use Rattle.decoder_theory.proofs.Running.{corrects}

module _ (σ τ : SideModel) (n : ℕ) (laws : SideLaws σ n) (laws' : SideLaws τ n) (m : Meet σ τ n) where
  -- the edges of a vertex to a set, as a sum over the set
  seats_meets : (S : ℕ → ℕ) (v : ℕ) → v < σ.vertices → sum σ.degree (λ i. S (τ.vertex (σ.edge v i))) ≤ sum τ.vertices (λ x. S x * meets σ τ n v x)
  seats_meets S v h =
      let a = seats_edges σ n laws v h (λ e. S (τ.vertex e)) in
      let b = sum_le n (λ e. equal (σ.vertex e) v * S (τ.vertex e)) (λ e. equal (σ.vertex e) v * sum τ.vertices (λ x. S x * equal (τ.vertex e) x)) (λ e l.
      mul-le-mul_left (equal (σ.vertex e) v) (omega (
        arith,
        sum_pick τ.vertices (λ x. S x * equal (τ.vertex e) x) (τ.vertex e) (laws'.vertex_in e l),
        ap (λ x. S (τ.vertex e) * x) (equal_one (τ.vertex e) (τ.vertex e) refl),
      ))) in
      omega (arith, sum_weigh n τ.vertices (λ e. equal (σ.vertex e) v) S (λ e x. equal (τ.vertex e) x))

  shrinks : (t b : ℕ) → b ≤ t * suc t → Shrinks σ τ t b
  shrinks t b small S T s r rich pos few =
      decrease σ.vertices τ.vertices t (meets σ τ n) S T (meets_once σ τ n m) (meets_linear σ τ n m) s r
      (λ v h e. omega (arith, rich v h e, seats_meets S v h)) pos (omega arith)

pub planes_shrink : PlanesShrink
unfolding borne
planes_shrink k laws = record {
  points = shrinks (side k Points) (side k Lines) (symbols k) (side_laws k laws Points) (side_laws k laws Lines) (meet k laws) k.point_code.radius (bound k) (omega arith);
  lines = shrinks (side k Lines) (side k Points) (symbols k) (side_laws k laws Lines) (side_laws k laws Points) (meet_lines k laws) k.line_code.radius (bound k) (omega arith);
}

pub corrects_to_bound : CorrectsToBound
corrects_to_bound k laws budget c w code size few room = corrects k laws (bound k) budget (planes_shrink k laws) c w code size few room
