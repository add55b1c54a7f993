-- Two different words of a graph code are far apart.
use Rattle.std.proofs.Common.{◌≡◌, ℕ, ◌+◌, ◌*◌, ◌<◌, ◌≤◌, List, length, get_or, refl, ap, mul-le-mul, mul-le-mul_left, arith}
use native.Mathlib.Decide.{dec_le}
use Rattle.ranges.specs.Ranges.{sum, apart, differ, Bits}
use Rattle.ranges.proofs.Sums.{sum_le, sum_eq, sum_swap, sum_pick, sum_some, sum2, sum2_eq, sum2_mul, sum2_prod, sum3_out}
use Rattle.ranges.proofs.Tests.{apart_le, apart_zero}
use Rattle.counting.proofs.Products.{pos_both}
use Rattle.counting.proofs.Far.{distance}
use Rattle.graph_code.specs.declared.side.Side.TheVariants.{Lines, Points}
use Rattle.graph_code.specs.Model.{symbols}
use Rattle.graph_code.specs.Sides.{SideModel, side}
use Rattle.graph_code.specs.Words.{PassesOn}
use Rattle.graph_code.proofs.SideLaws.{SideLaws, side_laws}
use Rattle.graph_code.proofs.HalfRounds.{same_words}
use Rattle.decoder_theory.specs.Bounds.{faults, spread}
use Rattle.decoder_theory.specs.Distance.{WordsApart}
use Rattle.decoder_theory.proofs.Faults.{fault_edge, many_faults}
use Rattle.decoder_theory.proofs.Equality.{equal, equal_one, equal_is, once}
use Rattle.decoder_theory.proofs.Meeting.{meet, meets, meets_once, meets_linear, seats_edges}

differ_none : (n : ℕ) (x y : List ℕ) → length x ≡ n → length y ≡ n → differ n x y ≡ 0 → x ≡ y
differ_none n x y p q h =
    same_words n x y p q (λ e l. apart_zero (get_or x e 0) (get_or y e 0) (omega (arith, sum_pick n (λ i. apart (get_or x i 0) (get_or y i 0)) e l)))

-- the edges between v and x that D marks
abbrev marked : SideModel → SideModel → ℕ → (ℕ → ℕ) → ℕ → ℕ → ℕ
marked σ τ n D v x = sum n (λ e. equal (σ.vertex e) v * equal (τ.vertex e) x * D e)

module _ (σ τ : SideModel) (n : ℕ) (D : ℕ → ℕ) where
  marked_le : Bits n D → (v x : ℕ) → marked σ τ n D v x ≤ meets σ τ n v x
  marked_le bits v x =
      sum_le n (λ e. equal (σ.vertex e) v * equal (τ.vertex e) x * D e) (λ e. equal (σ.vertex e) v * equal (τ.vertex e) x)
      (λ e h. omega (arith, mul-le-mul_left (equal (σ.vertex e) v * equal (τ.vertex e) x) (bits e h)))

  -- the marked edges of a vertex are counted at the vertices opposite
  row_all : SideLaws σ n → SideLaws τ n → (v : ℕ) → v < σ.vertices → sum σ.degree (λ i. D (σ.edge v i)) ≤ sum τ.vertices (λ x. marked σ τ n D v x)
  row_all laws laws' v h =
      let a = seats_edges σ n laws v h D in
      let b = sum_swap n τ.vertices (λ e x. equal (σ.vertex e) v * equal (τ.vertex e) x * D e) in
      let c = sum_le n (λ e. equal (σ.vertex e) v * D e) (λ e. sum τ.vertices (λ x. equal (σ.vertex e) v * equal (τ.vertex e) x * D e)) (λ e l.
      omega (
        arith,
        sum_pick τ.vertices (λ x. equal (σ.vertex e) v * equal (τ.vertex e) x * D e) (τ.vertex e) (laws'.vertex_in e l),
        ap (λ y. equal (σ.vertex e) v * y * D e) (equal_one (τ.vertex e) (τ.vertex e) refl),
      )) in
      omega arith

  -- a marked edge of a vertex
  row_some : (v : ℕ) → 0 < sum τ.vertices (λ x. marked σ τ n D v x) → (e : ℕ) × (e < n) × (σ.vertex e ≡ v) × (0 < D e)
  row_some v h =
      let r = sum_some τ.vertices (λ x. marked σ τ n D v x) h in
      let s = sum_some n (λ e. equal (σ.vertex e) v * equal (τ.vertex e) r.0 * D e) r.2 in
      let p = pos_both (equal (σ.vertex s.0) v * equal (τ.vertex s.0) r.0) (D s.0) s.2 in
      let q = pos_both (equal (σ.vertex s.0) v) (equal (τ.vertex s.0) r.0) p.0 in
      (s.0, s.1, equal_is (σ.vertex s.0) v q.0, p.1)

  -- all of them are no more than the marked edges
  all_le : sum σ.vertices (λ v. sum τ.vertices (λ x. marked σ τ n D v x)) ≤ sum n D
  all_le =
      let a = sum3_out σ.vertices τ.vertices n (λ v x e. equal (σ.vertex e) v * equal (τ.vertex e) x * D e) in
      let b = sum_le n (λ e. sum2 σ.vertices τ.vertices (λ v x. equal (σ.vertex e) v * equal (τ.vertex e) x * D e)) D (λ e l.
      let p = sum2_prod σ.vertices τ.vertices (λ v. equal (σ.vertex e) v) (λ x. equal (τ.vertex e) x) in
      let q = sum2_mul σ.vertices τ.vertices (D e) (λ v x. equal (σ.vertex e) v * equal (τ.vertex e) x) in
      let r = sum2_eq σ.vertices τ.vertices (λ v x. equal (σ.vertex e) v * equal (τ.vertex e) x * D e) (λ v x. D e * (equal (σ.vertex e) v * equal (τ.vertex e) x)) (λ v x i j. omega arith) in
      let u = mul-le-mul (once σ.vertices (σ.vertex e)) (once τ.vertices (τ.vertex e)) in
      let z : sum2 σ.vertices τ.vertices (λ v x. equal (σ.vertex e) v * equal (τ.vertex e) x) ≤ 1 = omega arith in
      omega (arith, mul-le-mul_left (D e) z)) in
      omega arith

-- where two words differ
abbrev gaps : List ℕ → List ℕ → ℕ → ℕ
gaps c w e = apart (get_or w e 0) (get_or c e 0)

-- a vertex at which two words of the code differ has many edges at which they do
row_many : (σ τ : SideModel) (n : ℕ) → SideLaws σ n → SideLaws τ n → (c w : List ℕ) → PassesOn σ c → PassesOn σ w → (v : ℕ) → v < σ.vertices
    → 0 < sum τ.vertices (λ x. marked σ τ n (gaps c w) v x) → 2 * σ.code.radius + 1 ≤ sum τ.vertices (λ x. marked σ τ n (gaps c w) v x)
unfolding faults
row_many σ τ n laws laws' c w pc pw v h pos =
    let r = row_some σ τ n (gaps c w) v pos in
    let f : gaps c w r.0 ≤ faults σ c w v = rw r.2 at (fault_edge σ n laws c w r.0 r.1) in
    let m = many_faults σ n laws c w v (pc v h) (pw v h) (omega (arith, r.3)) in
    omega (arith, row_all σ τ n (gaps c w) laws laws' v h)

pub words_apart : WordsApart
unfolding spread
words_apart k laws c w hc hw ne =
    let σ = side k Points in
    let τ = side k Lines in
    let n = symbols k in
    let a = side_laws k laws Points in
    let b = side_laws k laws Lines in
    let D = gaps w c in
    let bits = λ (e : ℕ) (l : e < n). apart_le (get_or c e 0) (get_or w e 0) in
    let turn = λ (x v : ℕ). sum_eq n (λ e. equal (σ.vertex e) v * equal (τ.vertex e) x * D e) (λ e. equal (τ.vertex e) x * equal (σ.vertex e) v * D e) (λ e l. omega arith) in
    let column = λ (x : ℕ). sum_eq σ.vertices (λ v. marked σ τ n D v x) (λ v. marked τ σ n D x v) (λ v l. turn x v) in
    let some : 0 < differ n c w = elim (dec_le 1 (differ n c w)) [ yes z ↦ z | no z ↦ absurd (ne (differ_none n c w hc.size hw.size (omega arith))) ] in
    let r = sum_some n D some in
    let p = row_all σ τ n D a b (σ.vertex r.0) (a.vertex_in r.0 r.1) in
    let q = sum_pick σ.degree (λ i. D (σ.edge (σ.vertex r.0) i)) (σ.seat r.0) (a.seat_in r.0 r.1) in
    let q2 : D r.0 ≤ sum σ.degree (λ i. D (σ.edge (σ.vertex r.0) i)) = rw (a.edge_vertex r.0 r.1) at q in
    let u = sum_pick σ.vertices (λ v. sum τ.vertices (λ x. marked σ τ n D v x)) (σ.vertex r.0) (a.vertex_in r.0 r.1) in
    let far = distance σ.vertices τ.vertices (2 * k.point_code.radius + 1) (2 * k.line_code.radius + 1) (meets σ τ n) (marked σ τ n D)
    (meets_once σ τ n (meet k laws)) (meets_linear σ τ n (meet k laws)) (λ v x h l. marked_le σ τ n D bits v x)
    (λ v h l. row_many σ τ n a b w c (hw.passes Points) (hc.passes Points) v h l)
    (λ x h l. let e = column x in let m = row_many τ σ n b a w c (hw.passes Lines) (hc.passes Lines) x h (omega arith) in omega arith)
    (omega (arith, r.2)) in
    let all = all_le σ τ n D in
    omega (arith, far.0, far.1)
