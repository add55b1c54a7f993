-- Polynomials over the field of two elements, as numbers: bit i is the coefficient of x to the power i.
-- Their sum is the exclusive or.
use Rattle.std.specs.Prelude.{ℕ, zero, suc, ◌+◌, ◌*◌, ◌/◌, ◌%◌, ◌^◌, bit_xor}

-- the coefficient of x to the power i
unfoldable pub bit : ℕ → ℕ → ℕ
bit i a = a / 2 ^ i % 2

-- a polynomial times a coefficient
unfoldable pub scaled : ℕ → ℕ → ℕ
scaled zero a = 0
scaled (suc b) a = a

-- the product of a with the k lowest terms of b: the sum of a times x to the power i, over the coefficients of b that are 1
unfoldable pub poly_product : ℕ → ℕ → ℕ → ℕ
poly_product zero a b = 0
poly_product (suc k) a b = bit_xor (poly_product k a b) (scaled (bit k b) (a * 2 ^ k))

-- the remainder of a polynomial of degree below m + k on division by a modulus of degree m: from the highest power down,
-- a coefficient of x to the power m + k that is 1 is cancelled by the modulus times x to the power k
unfoldable pub remainder : ℕ → ℕ → ℕ → ℕ → ℕ
remainder m modulus zero a = a
remainder m modulus (suc k) a = remainder m modulus k (bit_xor a (scaled (bit (m + k) a) (modulus * 2 ^ k)))
