-- Numbers of two and three digits to the base q.
use mathlib.Core.Path.{◌≡◌, ap, ◌∙◌}
use Prim.Native.Nat.{ℕ, ◌+◌, ◌*◌, ◌/◌, ◌%◌, ◌<◌, ◌≤◌}
use native.Mathlib.Omega.{arith}
use native.Mathlib.Nat.{mul_comm, mul-le-mul_left, div-add-mod'}
use Rattle.std.proofs.lemmas.Nat.{div_below}
use lib.Arith.{digits_lt, digits_div, digits_mod}
use Rattle.radix.specs.Digits.{first, second, third, number}

-- numbers rise with their first digit
pub digits_rise : (i j m r t : ℕ) → i < j → r < m → i * m + r < j * m + t
digits_rise i j m r t h hr =
    let a = digits_lt {q = i} {m = j} {r = r} {c = m} h hr in
    omega arith

pub flip : (q h r : ℕ) → q * h + r ≡ h * q + r
flip q h r = ap (λ x. x + r) (mul_comm q h)

pub times_most : (a q : ℕ) → q ≤ 257 → a * q ≤ 257 * a
times_most a q h = let k = mul-le-mul_left a h in let c = mul_comm a 257 in omega arith

-- of two digits, written with the base first
module _ (q : ℕ) where
  pub high_is : (h r : ℕ) → r < q → (q * h + r) / q ≡ h
  high_is h r k = rw (flip q h r) (digits_div h k)

  pub last_is : (h r : ℕ) → r < q → (q * h + r) % q ≡ r
  last_is h r k = rw (flip q h r) (digits_mod h k)

  pub two_lt : (h r : ℕ) → h < q → r < q → q * h + r < q * q
  two_lt h r k l = rw (flip q h r) (digits_lt k l)

-- of three digits
module _ (q : ℕ) where
  pub first_is : (x y z : ℕ) → y < q → z < q → first q (number q x y z) ≡ x
  first_is x y z hy hz = ap (λ n. n / q) (digits_div (x * q + y) hz) ∙ digits_div x hy

  pub second_is : (x y z : ℕ) → y < q → z < q → second q (number q x y z) ≡ y
  second_is x y z hy hz = ap (λ n. n % q) (digits_div (x * q + y) hz) ∙ digits_mod x hy

  pub third_is : (x y z : ℕ) → z < q → third q (number q x y z) ≡ z
  third_is x y z hz = digits_mod (x * q + y) hz

  pub number_is : (n : ℕ) → number q (first q n) (second q n) (third q n) ≡ n
  number_is n = ap (λ h. h * q + n % q) (div-add-mod' (n / q) q) ∙ div-add-mod' n q

  pub number_lt : (x y z : ℕ) → x < q → y < q → z < q → number q x y z < q * q * q
  number_lt x y z hx hy hz = digits_lt (digits_lt hx hy) hz

  pub number_rise : (x y z x' y' z' : ℕ) → x < x' → y < q → z < q → number q x y z < number q x' y' z'
  number_rise x y z x' y' z' lt hy hz = digits_rise (x * q + y) (x' * q + y') q z z' (digits_rise x x' q y y' lt hy) hz

  pub first_lt : (n : ℕ) → 0 < q → n < q * q * q → first q n < q
  first_lt n pos h = div_below (n / q) q q pos (div_below n q (q * q) pos h)

  pub same_number : (m n : ℕ) → first q m ≡ first q n → second q m ≡ second q n → third q m ≡ third q n → m ≡ n
  same_number m n a b c = cc (number_is m, number_is n)

  -- the number as it is written for reading
  pub read : (x y z : ℕ) → q * q * x + q * y + z ≡ number q x y z
  read x y z = omega arith
