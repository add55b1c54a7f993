-- Where a word differs from a word of the code, and what a half round does to it.
use Rattle.std.proofs.Common.{◌≡◌, ℕ, ◌+◌, ◌*◌, ◌<◌, ◌≤◌, true, List, length, get_or, sym, refl, ap, ◌∙◌, arith}
use native.Mathlib.Decide.{dec_le}
use Rattle.ranges.specs.Ranges.{apart, over, differ}
use Rattle.ranges.proofs.Sums.{sum_le, sum_eq, sum_zero, sum_pick}
use Rattle.ranges.proofs.Tests.{apart_zero, apart_same, over_le, over_one, over_more}
use Rattle.component.specs.Decoding.{kept_or}
use Rattle.component.proofs.Search.{decoded_only}
use Rattle.graph_code.specs.Sides.{SideModel}
use Rattle.graph_code.specs.Words.{seen, passes_at, PassesOn}
use Rattle.graph_code.specs.Rounds.{settled_at, half_round}
use Rattle.graph_code.proofs.SideLaws.{SideLaws, size_is}
use Rattle.graph_code.proofs.HalfRounds.{same_words, get_or_half, get_or_seen}
use Rattle.decoder_theory.specs.Bounds.{faults, beyond}

over_none : (t n : ℕ) → n ≤ t → over t n ≡ 0
over_none t n h = elim (dec_le 1 (over t n)) [
  | yes l ↦ absurd (omega (arith, over_more t n (omega (arith, over_le t n))))
  | no l ↦ omega arith
]

-- the faults of a vertex are the seats at which its symbols differ
seen_differ : (σ : SideModel) (c w : List ℕ) (v : ℕ) → differ σ.degree (seen σ v w) (seen σ v c) ≡ faults σ c w v
unfolding faults
seen_differ σ c w v =
    sum_eq σ.degree (λ i. apart (get_or (seen σ v w) i 0) (get_or (seen σ v c) i 0)) (λ i. apart (get_or w (σ.edge v i) 0) (get_or c (σ.edge v i) 0))
    (λ i h. rw (get_or_seen σ v w i h, get_or_seen σ v c i h) refl)

-- no fault at a vertex where the words agree
faults_none : (σ : SideModel) (c w : List ℕ) (v : ℕ) → ((i : ℕ) → i < σ.degree → get_or w (σ.edge v i) 0 ≡ get_or c (σ.edge v i) 0) → faults σ c w v ≡ 0
unfolding faults
faults_none σ c w v h =
    sum_eq σ.degree (λ i. apart (get_or w (σ.edge v i) 0) (get_or c (σ.edge v i) 0)) (λ i. 0) (λ i l. apart_same (get_or w (σ.edge v i) 0) (get_or c (σ.edge v i) 0) (h i l))
    ∙ sum_zero σ.degree

-- a word is nowhere wrong against itself
pub none_beyond : (σ : SideModel) (t : ℕ) (c : List ℕ) → beyond σ t c c ≡ 0
unfolding beyond
none_beyond σ t c =
    sum_eq σ.vertices (λ v. over t (faults σ c c v)) (λ v. 0) (λ v h. over_none t (faults σ c c v) (omega (arith, faults_none σ c c v (λ i l. refl)))) ∙ sum_zero σ.vertices

module _ (σ : SideModel) (n : ℕ) (laws : SideLaws σ n) (c w : List ℕ) where
  -- an edge that differs is a fault of its vertex
  pub fault_edge : (e : ℕ) → e < n → apart (get_or w e 0) (get_or c e 0) ≤ faults σ c w (σ.vertex e)
  unfolding faults
  fault_edge e h =
      let p = sum_pick σ.degree (λ i. apart (get_or w (σ.edge (σ.vertex e) i) 0) (get_or c (σ.edge (σ.vertex e) i) 0)) (σ.seat e) (laws.seat_in e h) in
      rw (laws.edge_vertex e h) at p

  -- no vertex wrong: the words are equal
  pub none_wrong : length c ≡ n → length w ≡ n → beyond σ 0 c w ≡ 0 → w ≡ c
  unfolding beyond
  none_wrong p q h = same_words n w c q p (λ e l.
      let b = sum_pick σ.vertices (λ v. over 0 (faults σ c w v)) (σ.vertex e) (laws.vertex_in e l) in
      elim (dec_le 1 (faults σ c w (σ.vertex e))) [
        | yes m ↦ absurd (omega (arith, over_one 0 (faults σ c w (σ.vertex e)) m))
        | no m ↦ apart_zero (get_or w e 0) (get_or c e 0) (omega (arith, fault_edge e l))
      ])

  -- a vertex with few faults is decoded right
  cured : (v : ℕ) → v < σ.vertices → passes_at σ c v ≡ true → faults σ c w v ≤ σ.code.radius → faults σ c (half_round σ n w) v ≡ 0
  cured v h pass few = faults_none σ c (half_round σ n w) v each
    where
      size : σ.code.size ≡ σ.degree
      size = size_is σ c v pass

      close : differ σ.code.size (seen σ v w) (seen σ v c) ≤ σ.code.radius
      close = rw size (omega (arith, seen_differ σ c w v))

      right : settled_at σ w v ≡ seen σ v c
      right = ap (kept_or (seen σ v w)) (decoded_only σ.code laws.code_laws (seen σ v w) (seen σ v c) pass close)

      each : (i : ℕ) → i < σ.degree → get_or (half_round σ n w) (σ.edge v i) 0 ≡ get_or c (σ.edge v i) 0
      each i l =
          get_or_half σ n w (σ.edge v i) (laws.edge_in v i h l)
          ∙ ap (λ x. get_or (settled_at σ w x) (σ.seat (σ.edge v i)) 0) (laws.vertex_edge v i h l)
          ∙ ap (λ j. get_or (settled_at σ w v) j 0) (laws.seat_edge v i h l)
          ∙ ap (λ xs. get_or xs i 0) right
          ∙ get_or_seen σ v c i l

  -- what is wrong after a half round was beyond the radius before
  pub half_le : PassesOn σ c → beyond σ 0 c (half_round σ n w) ≤ beyond σ σ.code.radius c w
  unfolding beyond
  half_le pass = sum_le σ.vertices (λ v. over 0 (faults σ c (half_round σ n w) v)) (λ v. over σ.code.radius (faults σ c w v)) (λ v h.
      elim (dec_le (faults σ c w v) σ.code.radius) [
        | yes l ↦ omega (arith, over_none 0 (faults σ c (half_round σ n w) v) (omega (arith, cured v h (pass v h) l)))
        | no l ↦ omega (arith, over_one σ.code.radius (faults σ c w v) (omega arith), over_le 0 (faults σ c (half_round σ n w) v))
      ])

  -- where both words pass and differ at all, they differ in more than twice the radius
  pub many_faults : (v : ℕ) → passes_at σ c v ≡ true → passes_at σ w v ≡ true → 0 < faults σ c w v → 2 * σ.code.radius + 1 ≤ faults σ c w v
  many_faults v p q h = elim (dec_le (faults σ c w v) (2 * σ.code.radius)) [
    | no z ↦ omega arith
    | yes z ↦
        let size = size_is σ c v p in
        let close : differ σ.code.size (seen σ v w) (seen σ v c) ≤ 2 * σ.code.radius = rw size (omega (arith, seen_differ σ c w v)) in
        let e = laws.code_laws.distance (seen σ v w) (seen σ v c) q p close in
        let y = faults_none σ c w v (λ i k. sym (get_or_seen σ v w i k) ∙ ap (λ xs. get_or xs i 0) e ∙ get_or_seen σ v c i k) in
        absurd (omega arith)
  ]

  -- a word that passes is wrong only where it is beyond the radius
  pub pass_le : PassesOn σ c → PassesOn σ w → beyond σ 0 c w ≤ beyond σ σ.code.radius c w
  unfolding beyond
  pass_le pass also = sum_le σ.vertices (λ v. over 0 (faults σ c w v)) (λ v. over σ.code.radius (faults σ c w v)) (λ v h.
      elim (dec_le 1 (faults σ c w v)) [
        | yes l ↦ omega (arith, over_one σ.code.radius (faults σ c w v) (omega (arith, many_faults v (pass v h) (also v h) l)), over_le 0 (faults σ c w v))
        | no l ↦ omega (arith, over_none 0 (faults σ c w v) (omega arith))
      ])
