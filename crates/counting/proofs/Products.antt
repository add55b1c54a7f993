-- Products with numbers that are 0 or 1.
use mathlib.Core.Path.{◌≡◌, refl}
use Prim.Native.Nat.{ℕ, zero, suc, ◌*◌, ◌≤◌, ◌<◌}
use native.Mathlib.Omega.{arith}

pub bit_sq : (x : ℕ) → x ≤ 1 → x * x ≡ x
bit_sq zero h = omega arith
bit_sq (suc x) h = let e : x ≡ 0 = omega arith in rw e refl

-- a fact of the members, weighed
pub bit_weigh : (x d r : ℕ) → x ≤ 1 → (x ≡ 1 → d ≤ r) → d * x ≤ x * r
bit_weigh zero d r h k = omega arith
bit_weigh (suc x) d r h k = let e : suc x ≡ 1 = omega arith in rw e (omega (arith, k e))

pub pos_both : (x y : ℕ) → 0 < x * y → (0 < x) × (0 < y)
pos_both zero y h = absurd (omega arith)
pos_both (suc x) zero h = absurd (omega arith)
pos_both (suc x) (suc y) h = omega arith
