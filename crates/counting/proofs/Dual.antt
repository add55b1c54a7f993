-- Two lines share at most one point.
use Prim.Native.Nat.{ℕ, ◌*◌, ◌≤◌, ◌<◌}
use native.Mathlib.Nat.{one-le-mul, mul-le-mul}
use native.Mathlib.Decide.{dec_le}
use native.Mathlib.Omega.{arith}
use Rattle.ranges.specs.Ranges.{sum}
use Rattle.ranges.proofs.Sums.{sum_eq, sum_two, sum_pick_two}
use Rattle.counting.specs.Incidence.{Incidence, Linear, Dual}
use Rattle.counting.proofs.Products.{pos_both}

module _ (points lines : ℕ) (a : ℕ → ℕ → ℕ) (i : Incidence points lines a) (g : Linear points lines a) where
  -- two points on two lines
  square : (l m p q : ℕ) → l < m → m < lines → p < q → q < points → 0 < a p l * a p m → 0 < a q l * a q m → ⊥
  square l m p q lm mn pq qn u v =
      let u2 = pos_both (a p l) (a p m) u in
      let v2 = pos_both (a q l) (a q m) v in
      omega (arith, sum_pick_two lines (λ r. a p r * a q r) l m lm mn, g p q (omega arith) qn (omega arith), one-le-mul u2.0 v2.0, one-le-mul u2.1 v2.1)

  two_lines : (l m : ℕ) → l < m → m < lines → sum points (λ p. a p l * a p m) ≤ 1
  two_lines l m lm mn = elim (dec_le (sum points (λ p. a p l * a p m)) 1) [
    | yes z ↦ z
    | no z ↦
        let r = sum_two points (λ p. a p l * a p m) (λ p j. omega (arith, mul-le-mul (i p l j (omega arith)) (i p m j mn))) (omega arith) in
        absurd (square l m r.0 r.1 lm mn r.2 r.3 r.4 r.5)
  ]

pub dual : Dual
dual points lines a i g l m h k ne = elim (dec_le l m) [
  | yes z ↦ two_lines points lines a i g l m (omega arith) k
  | no z ↦ omega (arith, two_lines points lines a i g m l (omega arith) h, sum_eq points (λ p. a p l * a p m) (λ p. a p m * a p l) (λ p j. omega arith))
]
