-- Whether two numbers are equal, as 0 or 1.
use Rattle.std.proofs.Common.{◌≡◌, ℕ, ◌*◌, ◌<◌, ◌≤◌, Bool, true, false, cond, eqb, refl, arith}
use native.Mathlib.Decide.{dec_le}
use Rattle.std.proofs.lemmas.Bool.{eqb-true, eq-eqb}
use Rattle.ranges.specs.Ranges.{sum}
use Rattle.ranges.proofs.Sums.{sum_two}
use Rattle.counting.proofs.Products.{pos_both}

-- 1 if the two numbers are equal, and 0 if not
abbrev pub equal : ℕ → ℕ → ℕ
equal a b = cond (eqb a b) 1 0

pub equal_le : (a b : ℕ) → equal a b ≤ 1
equal_le a b = go (eqb a b)
  where
    go : (t : Bool) → cond {A = ℕ} t 1 0 ≤ 1
    go true = omega arith
    go false = omega arith

pub equal_one : (a b : ℕ) → a ≡ b → equal a b ≡ 1
equal_one a b e = rw (eq-eqb a b e) refl

pub equal_is : (a b : ℕ) → 0 < equal a b → a ≡ b
equal_is a b h = go (eqb a b) refl
  where
    go : (t : Bool) → eqb a b ≡ t → a ≡ b
    go true e = eqb-true a b e
    go false e = let k : equal a b ≡ 0 = rw e refl in absurd (omega arith)

pub both_equal : (a b c d : ℕ) → 0 < equal a b * equal c d → (a ≡ b) × (c ≡ d)
both_equal a b c d h = let p = pos_both (equal a b) (equal c d) h in (equal_is a b p.0, equal_is c d p.1)

-- one number at most is equal to y
pub once : (m y : ℕ) → sum m (λ v. equal y v) ≤ 1
once m y = elim (dec_le (sum m (λ v. equal y v)) 1) [
  | yes z ↦ z
  | no z ↦
      let s = sum_two m (λ v. equal y v) (λ v h. equal_le y v) (omega arith) in
      let a = equal_is y s.0 s.4 in
      let b = equal_is y s.1 s.5 in
      absurd (omega (arith, s.2))
]
