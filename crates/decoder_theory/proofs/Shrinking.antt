-- Wrong vertices of one side, and the vertices of the other with many edges to them.
use Rattle.std.proofs.Common.{◌≡◌, ℕ, ◌<◌, ◌≤◌, List, length, get_or, arith}
use native.Mathlib.Decide.{dec_le}
use Rattle.ranges.specs.Ranges.{sum, apart, over}
use Rattle.ranges.proofs.Sums.{sum_le}
use Rattle.ranges.proofs.Tests.{apart_le, over_le, over_one, over_more}
use Rattle.graph_code.specs.Sides.{SideModel}
use Rattle.graph_code.proofs.SideLaws.{SideLaws}
use Rattle.decoder_theory.specs.Bounds.{faults, beyond, Shrinks}
use Rattle.decoder_theory.proofs.Faults.{fault_edge, none_wrong}

module _ (σ τ : SideModel) (n : ℕ) (laws : SideLaws σ n) (laws' : SideLaws τ n) where
  -- each fault of a vertex leads to a wrong vertex of the other side
  touch : (c w : List ℕ) (v : ℕ) → v < σ.vertices → faults σ c w v ≤ sum σ.degree (λ i. over 0 (faults τ c w (τ.vertex (σ.edge v i))))
  unfolding faults
  touch c w v h =
      sum_le σ.degree (λ i. apart (get_or w (σ.edge v i) 0) (get_or c (σ.edge v i) 0)) (λ i. over 0 (faults τ c w (τ.vertex (σ.edge v i)))) (λ i l.
      let m = fault_edge τ n laws' c w (σ.edge v i) (laws.edge_in v i h l) in
      elim (dec_le 1 (faults τ c w (τ.vertex (σ.edge v i)))) [
        | yes z ↦ omega (arith, over_one 0 (faults τ c w (τ.vertex (σ.edge v i))) z, apart_le (get_or w (σ.edge v i) 0) (get_or c (σ.edge v i) 0))
        | no z ↦ omega arith
      ])

  -- fewer vertices are beyond t than are wrong on the other side
  pub shrink : (t b : ℕ) → Shrinks σ τ t b → (c w : List ℕ) → 0 < beyond τ 0 c w → beyond τ 0 c w ≤ b → beyond σ t c w < beyond τ 0 c w
  unfolding beyond
  shrink t b s c w pos small =
      s (λ x. over 0 (faults τ c w x)) (λ v. over t (faults σ c w v)) (λ x h. over_le 0 (faults τ c w x)) (λ v h. over_le t (faults σ c w v))
      (λ v h e. omega (arith, over_more t (faults σ c w v) e, touch c w v h)) pos small

module _ (σ τ : SideModel) (n : ℕ) (laws : SideLaws σ n) (laws' : SideLaws τ n) (t r b : ℕ) (f : Shrinks σ τ t b) (g : Shrinks τ σ r b) (c w : List ℕ) where
  -- not both sides can have fewer wrong vertices than the other
  both_less : beyond σ 0 c w ≤ beyond σ t c w → beyond τ 0 c w ≤ beyond τ r c w → beyond σ t c w ≤ b → 0 < beyond σ 0 c w → 0 < beyond τ 0 c w → ⊥
  both_less hσ hτ small z y =
      let d = shrink τ σ n laws' laws r b g c w z (omega arith) in
      omega (arith, shrink σ τ n laws laws' t b f c w y (omega arith))

  -- a word that is wrong only where it is beyond the radii, and that is so at few vertices, is the word of the code
  pub settled_same : length c ≡ n → length w ≡ n → beyond σ 0 c w ≤ beyond σ t c w → beyond τ 0 c w ≤ beyond τ r c w → beyond σ t c w ≤ b → w ≡ c
  settled_same p q hσ hτ small = elim (dec_le 1 (beyond σ 0 c w)) [
    | no z ↦ none_wrong σ n laws c w p q (omega arith)
    | yes z ↦ elim (dec_le 1 (beyond τ 0 c w)) [
      | no y ↦ none_wrong τ n laws' c w p q (omega arith)
      | yes y ↦ absurd (both_less hσ hτ small z y)
    ]
  ]
