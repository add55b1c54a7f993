-- The first vertex that fails.
use Rattle.std.proofs.Common.{◌≡◌, ℕ, not, List, Some, None, Option, option_map, refl, ap, arith}
use Rattle.std.proofs.lemmas.Bool.{not-false}
use Rattle.refusal.specs.declared.Vertex.TheVariants.{Point, Line}
use Rattle.ranges.proofs.Tests.{first_none, none_first, or_none}
use Rattle.graph_code.specs.declared.side.Side.{Side}
use Rattle.graph_code.specs.declared.side.Side.TheVariants.{Lines, Points}
use Rattle.graph_code.specs.Model.{GraphModel}
use Rattle.graph_code.specs.Sides.{SideModel, side}
use Rattle.graph_code.specs.Words.{passes_at, PassesOn, first_failing_on, first_failing, NoneFails}

map_none : {X : Type 0} (f : ℕ → X) (o : Option ℕ) → option_map f o ≡ None → o ≡ None
map_none f None h = refl
map_none f (Some v) h = grind arith

none_on : (σ : SideModel) (w : List ℕ) → first_failing_on σ w ≡ None → PassesOn σ w
unfolding first_failing_on
none_on σ w h v l = not-false (passes_at σ w v) (first_none σ.vertices (λ v. not (passes_at σ w v)) h v l)

on_none : (σ : SideModel) (w : List ℕ) → PassesOn σ w → first_failing_on σ w ≡ None
unfolding first_failing_on
on_none σ w h = none_first σ.vertices (λ v. not (passes_at σ w v)) (λ v l. ap not (h v l))

pub none_fails : (k : GraphModel) (w : List ℕ) → first_failing k w ≡ None → (s : Side) → PassesOn (side k s) w
unfolding first_failing
none_fails k w h Points =
    none_on (side k Points) w (map_none Point (first_failing_on (side k Points) w) (or_none (option_map Point (first_failing_on (side k Points) w)) (option_map Line (first_failing_on (side k Lines) w)) h).0)
none_fails k w h Lines =
    none_on (side k Lines) w (map_none Line (first_failing_on (side k Lines) w) (or_none (option_map Point (first_failing_on (side k Points) w)) (option_map Line (first_failing_on (side k Lines) w)) h).1)

pub fails_none : (k : GraphModel) (w : List ℕ) → ((s : Side) → PassesOn (side k s) w) → first_failing k w ≡ None
unfolding first_failing
fails_none k w h = rw (on_none (side k Points) w (h Points), on_none (side k Lines) w (h Lines)) refl

pub no_vertex_fails : NoneFails
no_vertex_fails k w = (none_fails k w, fails_none k w)
