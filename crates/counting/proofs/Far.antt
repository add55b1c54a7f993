-- A set of edges in which each point and each line that it touches has many.
use mathlib.Core.Path.{◌≡◌}
use mathlib.Core.Logic.{◌≢◌}
use Prim.Native.Nat.{ℕ, zero, suc, ◌+◌, ◌*◌, ◌-◌, ◌≤◌, ◌<◌}
use native.Mathlib.Nat.{mul-le-mul_left, mul-le-mul, le_trans}
use native.Mathlib.Decide.{dec_le}
use native.Mathlib.Omega.{arith}
use Rattle.ranges.specs.Ranges.{sum}
use Rattle.ranges.proofs.Sums.{sum_le, sum_lin, sum_mul, sum_swap, sum_pick, sum_except, sum_some}
use Rattle.counting.specs.Incidence.{Incidence, Linear, flip, Distance}
use Rattle.counting.proofs.Products.{bit_weigh, pos_both}
use Rattle.counting.proofs.Dual.{dual}

-- k of the x edges are at one point, and e - 1 is cut off at 0
grows : (d e k x : ℕ) → d ≤ k → k ≤ x → d * (e * k) + k ≤ x + d * k → d * (1 + d * (e - 1)) ≤ x
grows d zero k x h j r = let z : 0 - 1 ≡ 0 = omega arith in rw z (omega arith)
grows d (suc e) k x h j r = let z : suc e - 1 ≡ e = omega arith in rw z (omega (arith, mul-le-mul_left (d * e) h))

module _ (points lines d e : ℕ) (a F : ℕ → ℕ → ℕ) (g : Linear points lines a) (f : (p l : ℕ) → p < points → l < lines → F p l ≤ a p l) (i : Incidence points lines a)
    (hP : (p : ℕ) → p < points → 0 < sum lines (λ l. F p l) → d ≤ sum lines (λ l. F p l))
    (hL : (l : ℕ) → l < lines → 0 < sum points (λ p. F p l) → e ≤ sum points (λ p. F p l))
    (o : ℕ) (oP : o < points) (start : 0 < sum lines (λ l. F o l)) where
  -- another point shares at most one line with o, and has d edges if it shares one
  other : (p : ℕ) → p < points → p ≢ o → d * sum lines (λ l. F o l * F p l) ≤ sum lines (λ l. F p l)
  other p h ne =
      let u = sum_le lines (λ l. F o l * F p l) (λ l. a o l * a p l) (λ l k. mul-le-mul (f o l oP k) (f p l h k)) in
      let v = g o p oP h (omega arith) in
      elim (dec_le (sum lines (λ l. F o l * F p l)) 0) [
        | yes z ↦ let w : sum lines (λ l. F o l * F p l) ≡ 0 = omega arith in rw w (omega arith)
        | no z ↦
            let w : sum lines (λ l. F o l * F p l) ≡ 1 = omega arith in
            let r = sum_some lines (λ l. F o l * F p l) (omega arith) in
            let y = pos_both (F o r.0) (F p r.0) r.2 in
            rw w (omega (arith, hP p h (omega (arith, y.1, sum_pick lines (λ l. F p l) r.0 r.1))))
      ]

  -- the edges at o, on the lines through o, and at the points of these lines
  half : d * (1 + d * (e - 1)) ≤ sum points (λ p. sum lines (λ l. F p l))
  half =
      let x = sum_except points (λ p. d * sum lines (λ l. F o l * F p l)) (λ p. sum lines (λ l. F p l)) o oP other in
      let y = sum_le lines (λ l. F o l * F o l) (λ l. F o l) (λ l k. omega (arith, mul-le-mul_left (F o l) (le_trans (f o l oP k) (i o l oP k)))) in
      let s = sum_swap points lines (λ p l. F o l * F p l) in
      let m = sum_lin lines e 0 1 0 0 (λ l. F o l) (λ l. 0) (λ l. sum points (λ p. F o l * F p l)) (λ l. 0) (λ l. 0)
      (λ l k. omega (arith, sum_mul points (F o l) (λ p. F p l), bit_weigh (F o l) e (sum points (λ p. F p l)) (le_trans (f o l oP k) (i o l oP k)) (λ z. hL l k (omega (arith, sum_pick points (λ p. F p l) o oP))))) in
      let b : e * sum lines (λ l. F o l) ≤ sum points (λ p. sum lines (λ l. F o l * F p l)) = omega arith in
      grows d e (sum lines (λ l. F o l)) (sum points (λ p. sum lines (λ l. F p l))) (hP o oP start) (sum_pick points (λ p. sum lines (λ l. F p l)) o oP)
      (omega (arith, x, mul-le-mul_left d y, mul-le-mul_left d b, sum_mul points d (λ p. sum lines (λ l. F o l * F p l))))

pub distance : Distance
distance points lines d e a F i g f hP hL start =
    let x = sum_some points (λ p. sum lines (λ l. F p l)) start in
    let s = sum_swap points lines (λ p l. F p l) in
    let y = sum_some lines (λ l. sum points (λ p. F p l)) (omega arith) in (
      half points lines d e a F g f i hP hL x.0 x.1 x.2,
      omega (arith, half lines points e d (flip a) (flip F) (dual points lines a i g) (λ l p h k. f p l k h) (λ l p h k. i p l k h) hL hP y.0 y.1 y.2),
    )
