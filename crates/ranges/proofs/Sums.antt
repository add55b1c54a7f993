-- Laws of sums over a range.
use Rattle.std.proofs.Common.{◌≡◌, ℕ, zero, suc, ◌+◌, ◌*◌, ◌<◌, ◌≤◌, ◌≢◌, sym, refl, ◌∙◌, inl, inr, eq-or-lt_of_le, arith}
use native.Mathlib.Decide.{dec_le}
use Rattle.ranges.specs.Ranges.{sum, Bits}

pub sum_le : (n : ℕ) (f g : ℕ → ℕ) → ((i : ℕ) → i < n → f i ≤ g i) → sum n f ≤ sum n g
sum_le zero f g h = omega arith
sum_le (suc n) f g h = omega (arith, sum_le n f g (λ i k. h i (omega arith)), h n (omega arith))

pub sum_eq : (n : ℕ) (f g : ℕ → ℕ) → ((i : ℕ) → i < n → f i ≡ g i) → sum n f ≡ sum n g
sum_eq zero f g h = refl
sum_eq (suc n) f g h = omega (arith, sum_eq n f g (λ i k. h i (omega arith)), h n (omega arith))

-- an inequality between multiples that holds of each term holds of the sums
pub sum_lin : (n a b c d e : ℕ) (f g h k m : ℕ → ℕ) → ((i : ℕ) → i < n → a * f i + b * g i ≤ c * h i + d * k i + e * m i)
    → a * sum n f + b * sum n g ≤ c * sum n h + d * sum n k + e * sum n m
sum_lin zero a b c d e f g h k m r = omega arith
sum_lin (suc n) a b c d e f g h k m r = omega (arith, sum_lin n a b c d e f g h k m (λ i l. r i (omega arith)), r n (omega arith))

pub sum_zero : (n : ℕ) → sum n (λ i. 0) ≡ 0
sum_zero zero = refl
sum_zero (suc n) = omega (arith, sum_zero n)

pub sum_const : (n k : ℕ) → sum n (λ i. k) ≡ n * k
sum_const zero k = omega arith
sum_const (suc n) k = omega (arith, sum_const n k)

pub sum_add : (n : ℕ) (f g : ℕ → ℕ) → sum n (λ i. f i + g i) ≡ sum n f + sum n g
sum_add zero f g = refl
sum_add (suc n) f g = omega (arith, sum_add n f g)

pub sum_mul : (n k : ℕ) (f : ℕ → ℕ) → sum n (λ i. k * f i) ≡ k * sum n f
sum_mul zero k f = omega arith
sum_mul (suc n) k f = omega (arith, sum_mul n k f)

pub sum_swap : (n m : ℕ) (f : ℕ → ℕ → ℕ) → sum n (λ i. sum m (λ j. f i j)) ≡ sum m (λ j. sum n (λ i. f i j))
sum_swap zero m f = sym (sum_zero m)
sum_swap (suc n) m f = omega (arith, sum_swap n m f, sum_add m (λ j. sum n (λ i. f i j)) (λ j. f n j))

-- one term may break the rule
pub sum_except : (n : ℕ) (f g : ℕ → ℕ) (k : ℕ) → k < n → ((i : ℕ) → i < n → i ≢ k → f i ≤ g i) → sum n f + g k ≤ sum n g + f k
sum_except zero f g k l h = omega arith
sum_except (suc n) f g k l h = elim (eq-or-lt_of_le l) [
  | inl e ↦
      let m : k ≡ n = omega arith in
      let b = sum_le n f g (λ i j. h i (omega arith) (omega arith)) in
      rw m (omega (arith, b))
  | inr j ↦ omega (arith, sum_except n f g k (omega arith) (λ i q. h i (omega arith)), h n (omega arith) (omega arith))
]

pub sum_pick : (n : ℕ) (f : ℕ → ℕ) (k : ℕ) → k < n → f k ≤ sum n f
sum_pick n f k l = omega (arith, sum_except n (λ i. 0) f k l (λ i p q. omega arith), sum_zero n)

-- weights c on the lines, T on the points: a double count
pub sum_weigh : (n m : ℕ) (T c : ℕ → ℕ) (a : ℕ → ℕ → ℕ) → sum m (λ l. c l * sum n (λ p. T p * a p l)) ≡ sum n (λ p. T p * sum m (λ l. c l * a p l))
sum_weigh zero m T c a = sum_eq m (λ l. c l * 0) (λ l. 0) (λ l h. omega arith) ∙ sum_zero m
sum_weigh (suc n) m T c a =
    omega (
      arith,
      sum_weigh n m T c a,
      sum_mul m (T n) (λ l. c l * a n l),
      sum_add m (λ l. c l * sum n (λ p. T p * a p l)) (λ l. T n * (c l * a n l)),
      sum_eq m (λ l. c l * sum (suc n) (λ p. T p * a p l)) (λ l. c l * sum n (λ p. T p * a p l) + T n * (c l * a n l)) (λ l h. omega arith),
    )

-- the number of members so far passes each value up to the last
pub sum_reach : (n w : ℕ) (T : ℕ → ℕ) → Bits n T → w ≤ sum n T → (m : ℕ) × (m ≤ n) × (sum m T ≡ w)
sum_reach zero w T b h = (0, omega arith, omega arith)
sum_reach (suc n) w T b h = elim (dec_le w (sum n T)) [
  | yes l ↦ let r = sum_reach n w T (λ i k. b i (omega arith)) l in (r.0, omega arith, r.2)
  | no l ↦ (suc n, omega arith, omega (arith, b n (omega arith)))
]

pub sum_some : (n : ℕ) (f : ℕ → ℕ) → 0 < sum n f → (i : ℕ) × (i < n) × (0 < f i)
sum_some zero f h = absurd (omega arith)
sum_some (suc n) f h = elim (dec_le 1 (f n)) [
  | yes l ↦ (n, omega arith, l)
  | no l ↦ let r = sum_some n f (omega arith) in (r.0, omega arith, r.2)
]

pub sum_two : (n : ℕ) (f : ℕ → ℕ) → Bits n f → 1 < sum n f → (i : ℕ) × (j : ℕ) × (i < j) × (j < n) × (0 < f i) × (0 < f j)
sum_two zero f b h = absurd (omega arith)
sum_two (suc n) f b h = elim (dec_le 1 (f n)) [
  | yes l ↦ let r = sum_some n f (omega (arith, b n (omega arith))) in (r.0, n, r.1, omega arith, r.2, l)
  | no l ↦ let r = sum_two n f (λ i k. b i (omega arith)) (omega arith) in (r.0, r.1, r.2, omega arith, r.4, r.5)
]

pub sum_pick_two : (n : ℕ) (f : ℕ → ℕ) (i j : ℕ) → i < j → j < n → f i + f j ≤ sum n f
sum_pick_two zero f i j h k = omega arith
sum_pick_two (suc n) f i j h k = elim (eq-or-lt_of_le k) [
  | inl e ↦ let m : j ≡ n = omega arith in rw m (omega (arith, sum_pick n f i (omega arith)))
  | inr l ↦ omega (arith, sum_pick_two n f i j h (omega arith))
]

pub sum_shorter : (m n : ℕ) (f : ℕ → ℕ) → m ≤ n → sum m f ≤ sum n f
sum_shorter m zero f h = let e : m ≡ 0 = omega arith in rw e (omega arith)
sum_shorter m (suc n) f h = elim (eq-or-lt_of_le h) [
  | inl e ↦ rw e (omega arith)
  | inr l ↦ omega (arith, sum_shorter m n f (omega arith))
]

-- double sums
abbrev pub sum2 : ℕ → ℕ → (ℕ → ℕ → ℕ) → ℕ
sum2 n m f = sum n (λ i. sum m (λ j. f i j))

pub sum2_eq : (n m : ℕ) (f g : ℕ → ℕ → ℕ) → ((i j : ℕ) → i < n → j < m → f i j ≡ g i j) → sum2 n m f ≡ sum2 n m g
sum2_eq n m f g h = sum_eq n (λ i. sum m (f i)) (λ i. sum m (g i)) (λ i p. sum_eq m (f i) (g i) (λ j q. h i j p q))

pub sum2_mul : (n m k : ℕ) (f : ℕ → ℕ → ℕ) → sum2 n m (λ i j. k * f i j) ≡ k * sum2 n m f
sum2_mul n m k f = sum_eq n (λ i. sum m (λ j. k * f i j)) (λ i. k * sum m (f i)) (λ i p. sum_mul m k (f i)) ∙ sum_mul n k (λ i. sum m (f i))

pub sum2_prod : (n m : ℕ) (f g : ℕ → ℕ) → sum2 n m (λ i j. f i * g j) ≡ sum n f * sum m g
sum2_prod n m f g =
    omega (arith, sum_mul n (sum m g) f, sum_eq n (λ i. sum m (λ j. f i * g j)) (λ i. sum m g * f i) (λ i p. omega (arith, sum_mul m (f i) g)))

-- the innermost of three goes out
pub sum3_out : (n m o : ℕ) (f : ℕ → ℕ → ℕ → ℕ) → sum n (λ i. sum2 m o (f i)) ≡ sum o (λ k. sum2 n m (λ i j. f i j k))
sum3_out n m o f =
    sum_eq n (λ i. sum2 m o (f i)) (λ i. sum o (λ k. sum m (λ j. f i j k))) (λ i p. sum_swap m o (f i)) ∙ sum_swap n o (λ i k. sum m (λ j. f i j k))
