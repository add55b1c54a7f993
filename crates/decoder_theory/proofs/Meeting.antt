-- Vertices that meet in an edge, as an incidence.
use Rattle.std.proofs.Common.{◌≡◌, ℕ, ◌*◌, ◌<◌, ◌≤◌, ◌≢◌, sym, refl, ap, ◌∙◌, inl, inr, mul-le-mul, mul-le-mul_left, arith}
use native.Mathlib.Decide.{dec_le}
use Rattle.std.proofs.lemmas.Bool.{cases_eq}
use Rattle.ranges.specs.Ranges.{sum}
use Rattle.ranges.proofs.Sums.{sum_le, sum_eq, sum_mul, sum_swap, sum_pick, sum_some, sum_two}
use Rattle.counting.specs.Incidence.{Incidence, Linear}
use Rattle.counting.proofs.Products.{pos_both}
use Rattle.graph_code.specs.declared.side.Side.TheVariants.{Lines, Points}
use Rattle.graph_code.specs.Model.{GraphModel, GraphLaws, symbols}
use Rattle.graph_code.specs.Sides.{SideModel, side}
use Rattle.graph_code.proofs.SideLaws.{SideLaws}
use Rattle.decoder_theory.proofs.Equality.{equal, equal_le, equal_one, equal_is, both_equal}

-- an edge of both vertices, v on the side σ and x on the side τ
abbrev pub Edge : SideModel → SideModel → ℕ → ℕ → ℕ → Type 0
Edge σ τ n v x = (e : ℕ) × (e < n) × (σ.vertex e ≡ v) × (τ.vertex e ≡ x)

-- how the two sides meet
pub record Meet (σ τ : SideModel) (n : ℕ) : Type 0 where
  -- an edge is fixed by its two vertices
  pub alone : (d e : ℕ) → d < n → e < n → σ.vertex d ≡ σ.vertex e → τ.vertex d ≡ τ.vertex e → d ≡ e
  -- two different vertices of σ meet one vertex of τ in common at most
  pub one : (v u x y : ℕ) → v ≢ u → Edge σ τ n v x → Edge σ τ n u x → Edge σ τ n v y → Edge σ τ n u y → x ≡ y

turned_edge : (σ τ : SideModel) (n v x : ℕ) → Edge τ σ n x v → Edge σ τ n v x
turned_edge σ τ n v x e = (e.0, e.1, e.3, e.2)

-- the same with the sides exchanged
meet_dual : (σ τ : SideModel) (n : ℕ) → Meet σ τ n → Meet τ σ n
meet_dual σ τ n m = record {
  alone = λ d e hd he p q. m.alone d e hd he q p;
  one = λ x y v u ne a b c d. elim (cases_eq v u) [
    | inl z ↦ z
    | inr z ↦ absurd (ne (m.one v u x y z (turned_edge σ τ n v x a) (turned_edge σ τ n u x c) (turned_edge σ τ n v y b) (turned_edge σ τ n u y d)))
  ];
}

pub meet : (k : GraphModel) → GraphLaws k → Meet (side k Points) (side k Lines) (symbols k)
meet k laws = record { alone = laws.geometry_laws.apart; one = laws.geometry_laws.one_line }

pub meet_lines : (k : GraphModel) → GraphLaws k → Meet (side k Lines) (side k Points) (symbols k)
meet_lines k laws = meet_dual (side k Points) (side k Lines) (symbols k) (meet k laws)

-- 1 where the vertices v of σ and x of τ meet
abbrev pub meets : SideModel → SideModel → ℕ → ℕ → ℕ → ℕ
meets σ τ n v x = sum n (λ e. equal (σ.vertex e) v * equal (τ.vertex e) x)

module _ (σ : SideModel) (n : ℕ) (laws : SideLaws σ n) where
  -- an edge is at one seat of its vertex
  seat_once : (v e : ℕ) → v < σ.vertices → sum σ.degree (λ i. equal (σ.edge v i) e) ≤ equal (σ.vertex e) v
  seat_once v e h = elim (dec_le 1 (sum σ.degree (λ i. equal (σ.edge v i) e))) [
    | no z ↦ omega arith
    | yes z ↦
        let r = sum_some σ.degree (λ i. equal (σ.edge v i) e) z in
        let q : σ.vertex e ≡ v = ap σ.vertex (sym (equal_is (σ.edge v r.0) e r.2)) ∙ laws.vertex_edge v r.0 h r.1 in
        let f = equal_one (σ.vertex e) v q in
        elim (dec_le (sum σ.degree (λ i. equal (σ.edge v i) e)) 1) [
          | yes y ↦ omega arith
          | no y ↦
              let s = sum_two σ.degree (λ i. equal (σ.edge v i) e) (λ i j. equal_le (σ.edge v i) e) (omega arith) in
              let a = equal_is (σ.edge v s.0) e s.4 in
              let b = equal_is (σ.edge v s.1) e s.5 in
              let g = sym (laws.seat_edge v s.0 h (omega (arith, s.2, s.3))) ∙ ap σ.seat (a ∙ sym b) ∙ laws.seat_edge v s.1 h s.3 in
              absurd (omega (arith, s.2))
        ]
  ]

  -- a sum over the seats of a vertex is no more than the sum over its edges
  pub seats_edges : (v : ℕ) → v < σ.vertices → (D : ℕ → ℕ) → sum σ.degree (λ i. D (σ.edge v i)) ≤ sum n (λ e. equal (σ.vertex e) v * D e)
  seats_edges v h D =
      let a = sum_le σ.degree (λ i. D (σ.edge v i)) (λ i. sum n (λ e. equal (σ.edge v i) e * D e)) (λ i l.
      omega (
        arith,
        sum_pick n (λ e. equal (σ.edge v i) e * D e) (σ.edge v i) (laws.edge_in v i h l),
        ap (λ x. x * D (σ.edge v i)) (equal_one (σ.edge v i) (σ.edge v i) refl),
      )) in
      let b = sum_swap σ.degree n (λ i e. equal (σ.edge v i) e * D e) in
      let c = sum_le n (λ e. sum σ.degree (λ i. equal (σ.edge v i) e * D e)) (λ e. equal (σ.vertex e) v * D e) (λ e l.
      omega (
        arith,
        sum_mul σ.degree (D e) (λ i. equal (σ.edge v i) e),
        sum_eq σ.degree (λ i. equal (σ.edge v i) e * D e) (λ i. D e * equal (σ.edge v i) e) (λ i m. omega arith),
        mul-le-mul_left (D e) (seat_once v e h),
      )) in
      omega arith

module _ (σ τ : SideModel) (n : ℕ) (m : Meet σ τ n) where
  pub meets_once : Incidence σ.vertices τ.vertices (meets σ τ n)
  meets_once v x hv hx = elim (dec_le (meets σ τ n v x) 1) [
    | yes y ↦ y
    | no y ↦
        let s = sum_two n (λ e. equal (σ.vertex e) v * equal (τ.vertex e) x) (λ e h. omega (arith, mul-le-mul (equal_le (σ.vertex e) v) (equal_le (τ.vertex e) x))) (omega arith) in
        let a = both_equal (σ.vertex s.0) v (τ.vertex s.0) x s.4 in
        let b = both_equal (σ.vertex s.1) v (τ.vertex s.1) x s.5 in
        let g = m.alone s.0 s.1 (omega (arith, s.2, s.3)) s.3 (a.0 ∙ sym b.0) (a.1 ∙ sym b.1) in
        absurd (omega (arith, s.2))
  ]

  -- an edge where two vertices meet
  meeting : (v x : ℕ) → 0 < meets σ τ n v x → Edge σ τ n v x
  meeting v x h =
      let r = sum_some n (λ e. equal (σ.vertex e) v * equal (τ.vertex e) x) h in
      let a = both_equal (σ.vertex r.0) v (τ.vertex r.0) x r.2 in
      (r.0, r.1, a.0, a.1)

  pub meets_linear : Linear σ.vertices τ.vertices (meets σ τ n)
  meets_linear v u hv hu ne = elim (dec_le (sum τ.vertices (λ x. meets σ τ n v x * meets σ τ n u x)) 1) [
    | yes y ↦ y
    | no y ↦
        let s = sum_two τ.vertices (λ x. meets σ τ n v x * meets σ τ n u x) (λ x h. omega (arith, mul-le-mul (meets_once v x hv h) (meets_once u x hu h))) (omega arith) in
        let p = pos_both (meets σ τ n v s.0) (meets σ τ n u s.0) s.4 in
        let q = pos_both (meets σ τ n v s.1) (meets σ τ n u s.1) s.5 in
        let g = m.one v u s.0 s.1 ne (meeting v s.0 p.0) (meeting u s.0 p.1) (meeting v s.1 q.0) (meeting u s.1 q.1) in
        absurd (omega (arith, s.2))
  ]
