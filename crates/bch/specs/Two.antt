-- The field of two elements, and numbers by their bits.
use Rattle.std.specs.Prelude.{◌≡◌, ℕ, zero, suc, ◌/◌, ◌%◌, ◌^◌, ◌<◌, bit_xor, refl}
use Rattle.std.proofs.Common.{sym, ap, ◌∙◌, arith}
use native.Mathlib.Nat.{pow-suc}
use Rattle.field.specs.Polynomials.{bit, scaled}
use Rattle.field.specs.Defined.{defined_sum, defined_prod}
use Rattle.ranges.specs.Ranges.{apart}
use Rattle.field_theory.proofs.Bits.{by_bit, bit_lowest, bit_half}

-- sums and products of bits
pub sum_two : (a b : ℕ) → a < 2 → b < 2 → defined_sum 2 a b ≡ bit_xor a b
unfolding defined_sum
sum_two a b ha hb =
    by_bit (λ a. defined_sum 2 a b ≡ bit_xor a b)
    (by_bit (λ b. defined_sum 2 0 b ≡ bit_xor 0 b) refl refl b hb)
    (by_bit (λ b. defined_sum 2 1 b ≡ bit_xor 1 b) refl refl b hb) a ha

pub prod_two : (a b : ℕ) → a < 2 → b < 2 → defined_prod 2 a b ≡ scaled b a
unfolding defined_prod scaled
prod_two a b ha hb =
    by_bit (λ a. defined_prod 2 a b ≡ scaled b a)
    (by_bit (λ b. defined_prod 2 0 b ≡ scaled b 0) refl refl b hb)
    (by_bit (λ b. defined_prod 2 1 b ≡ scaled b 1) refl refl b hb) a ha

-- two bits differ where their sum is 1
pub xor_apart : (a b : ℕ) → a < 2 → b < 2 → bit_xor a b ≡ apart a b
xor_apart a b ha hb =
    by_bit (λ a. bit_xor a b ≡ apart a b)
    (by_bit (λ b. bit_xor 0 b ≡ apart 0 b) refl refl b hb)
    (by_bit (λ b. bit_xor 1 b ≡ apart 1 b) refl refl b hb) a ha

pub bit_zero : (j : ℕ) → bit j 0 ≡ 0
unfolding bit
bit_zero j = ap (λ x. x % 2) (native.Mathlib.Nat.zero-div (2 ^ j))

pub bit_scaled : (j b a : ℕ) → bit j (scaled b a) ≡ scaled b (bit j a)
unfolding scaled
bit_scaled j zero a = bit_zero j
bit_scaled j (suc b) a = refl

-- a number of k bits that are all 0 is 0
pub zero_by_bits : (k x : ℕ) → x < 2 ^ k → ((j : ℕ) → j < k → bit j x ≡ 0) → x ≡ 0
zero_by_bits zero x h z = omega arith
zero_by_bits (suc k) x h z =
    let p = pow-suc 2 k in
    let half = zero_by_bits k (x / 2) (omega arith) (λ j l. sym (bit_half j x) ∙ z (suc j) (omega arith)) in
    let low : x % 2 ≡ 0 = sym (bit_lowest x) ∙ z 0 (omega arith) in
    omega arith
