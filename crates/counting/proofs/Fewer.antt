-- Fewer points lie on many of a few lines.
use mathlib.Core.Path.{◌≡◌, ap}
use Prim.Native.Nat.{ℕ, zero, suc, ◌+◌, ◌*◌, ◌≤◌, ◌<◌}
use native.Mathlib.Nat.{mul-le-mul_left, mul-le-mul_right, mul-le-mul}
use native.Mathlib.Decide.{dec_le}
use native.Mathlib.Omega.{arith}
use Rattle.ranges.specs.Ranges.{sum, Bits}
use Rattle.ranges.proofs.Sums.{sum_le, sum_lin, sum_mul, sum_weigh, sum_reach}
use Rattle.counting.specs.Incidence.{Incidence, Linear, Rich, Decrease}
use Rattle.counting.proofs.Products.{bit_sq, bit_weigh}

-- (d - t) (d - t - 1) is never negative
gap : (t d : ℕ) → (2 * t + 1) * d ≤ d * d + t * suc t
gap t zero = omega arith
gap zero (suc d) = omega arith
gap (suc t) (suc d) = omega (arith, gap t d)

module _ (lines : ℕ) (a : ℕ → ℕ → ℕ) (S T : ℕ → ℕ) where
  -- the points of T below n on the line l
  abbrev deg : ℕ → ℕ → ℕ
  deg n l = sum n (λ p. T p * a p l)

  -- pairs of points on a line: each pair of different points has one line at most
  pairs : (n : ℕ) → Incidence n lines a → Linear n lines a → Bits lines S → Bits n T
      → sum lines (λ l. S l * (deg n l * deg n l)) + sum n T ≤ sum lines (λ l. S l * deg n l) + sum n T * sum n T
  pairs zero i g s b = omega (arith, sum_le lines (λ l. S l * (0 * 0)) (λ l. S l * 0) (λ l h. omega arith))
  pairs (suc n) i g s b =
      let t : T n ≤ 1 = b n (omega arith) in
      let ih = pairs n (λ p l h k. i p l (omega arith) k) (λ p q h k. g p q (omega arith) (omega arith)) s (λ p h. b p (omega arith)) in
      let y : sum lines (λ l. S l * a n l * deg n l) ≤ sum n T =
      omega (
        arith,
        sum_weigh n lines T (λ l. S l * a n l) a,
        sum_le n (λ p. T p * sum lines (λ l. S l * a n l * a p l)) T (λ p h.
            let u = sum_le lines (λ l. S l * a n l * a p l) (λ l. a n l * a p l) (λ l k. omega (arith, mul-le-mul_right (a n l * a p l) (s l k))) in
            let v = g n p (omega arith) (omega arith) (omega arith) in
            let w : sum lines (λ l. S l * a n l * a p l) ≤ 1 = omega arith in
            omega (arith, mul-le-mul_left (T p) w)),
      )
      in
      let e = sum_lin lines 1 0 1 (2 * T n) (T n) (λ l. S l * (deg (suc n) l * deg (suc n) l)) S (λ l. S l * (deg n l * deg n l)) (λ l. S l * a n l * deg n l) (λ l. S l * a n l)
      (λ l h. omega (arith, ap (λ z. S l * z) (bit_sq (T n * a n l) (omega (arith, mul-le-mul t (i n l (omega arith) h)))))) in
      omega (arith, mul-le-mul_left (T n) y, bit_sq (T n) t, sum_weigh n lines T S a, sum_weigh (suc n) lines T S a)

  -- a point of T counts d times at least
  many : (n d : ℕ) → Bits n T → Rich n lines a S T d → d * sum n T ≤ sum lines (λ l. S l * deg n l)
  many n d b r =
      let k = λ (p : ℕ) (h : p < n). bit_weigh (T p) d (sum lines (λ l. S l * a p l)) (b p h) (r p h) in
      omega (arith, sum_weigh n lines T S a, sum_mul n d T, sum_le n (λ p. d * T p) (λ p. T p * sum lines (λ l. S l * a p l)) k)

  -- there cannot be as many rich points as lines
  as_many : (n t : ℕ) → Incidence n lines a → Linear n lines a → Bits lines S → Bits n T → Rich n lines a S T (suc t)
      → sum n T ≡ sum lines S → 0 < sum lines S → sum lines S ≤ t * suc t → ⊥
  as_many n t i g s b r e pos small =
      let c = sum_lin lines (2 * t + 1) 0 1 (t * suc t) 0 (λ l. S l * deg n l) S (λ l. S l * (deg n l * deg n l)) S S
      (λ l h. omega (arith, mul-le-mul_left (S l) (gap t (deg n l)))) in
      let p = rw e at (pairs n i g s b) in
      let m = rw e at (many n (suc t) b r) in
      omega (arith, mul-le-mul_left (2 * t) m, mul-le-mul_right (sum lines S) small)

pub decrease : Decrease
decrease points lines t a S T i g s b r pos small = elim (dec_le (sum lines S) (sum points T)) [
  | no l ↦ omega arith
  | yes l ↦
      let k = sum_reach points (sum lines S) T b l in
      absurd (as_many lines a S T k.0 t (λ p l h. i p l (omega arith)) (λ p q h j. g p q (omega arith) (omega arith)) s
      (λ p h. b p (omega arith)) (λ p h. r p (omega arith)) k.2 pos small)
]
