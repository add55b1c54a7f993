-- The remainder of the polynomial product is what Horner's rule gives.
use Rattle.std.proofs.Common.{◌≡◌, ℕ, zero, suc, ◌+◌, ◌*◌, ◌/◌, ◌%◌, ◌^◌, ◌<◌, sym, refl, ap, ◌∙◌, ap₂, add-zero, add-suc, mul_assoc, pow-suc, mul-one}
use lib.Bits.{bit_xor, xor_zero_r}
use Rattle.field.specs.Polynomials.{bit, scaled, poly_product, remainder}
use Rattle.field_theory.proofs.Bits.{xor_four, xor_right_comm, scaled_lt, scaled_xor_bit, scaled_double, double_xor, bit_lt, bit_of_xor, bit_lowest, bit_double, bit_half, bit_above}
use Rattle.field_theory.proofs.Horner.{times_x, horner}

-- the modulus times x to the power k + 1
shifted_twice : (a k : ℕ) → a * 2 ^ suc k ≡ a * 2 ^ k * 2
shifted_twice a k = ap (λ x. a * x) (pow-suc 2 k) ∙ sym (mul_assoc a (2 ^ k) 2)

-- the product by Horner's rule, not reduced
product_step : (k a b : ℕ) → poly_product (suc k) a b ≡ bit_xor (poly_product k a (b / 2) * 2) (scaled (b % 2) a)
unfolding poly_product
product_step zero a b = ap (bit_xor 0) (ap₂ scaled (bit_lowest b) (mul-one a))
product_step (suc k) a b =
    let s = scaled (bit k (b / 2)) (a * 2 ^ k) in
    ap₂ bit_xor (product_step k a b) (ap₂ scaled (bit_half k b) (shifted_twice a k) ∙ scaled_double (bit k (b / 2)) (a * 2 ^ k))
    ∙ xor_right_comm (poly_product k a (b / 2) * 2) (scaled (b % 2) a) (s * 2)
    ∙ ap (λ x. bit_xor x (scaled (b % 2) a)) (sym (double_xor (poly_product k a (b / 2)) s))

module _ (m modulus : ℕ) where
  remainder_xor : (k a b : ℕ) → remainder m modulus k (bit_xor a b) ≡ bit_xor (remainder m modulus k a) (remainder m modulus k b)
  unfolding remainder
  remainder_xor zero a b = refl
  remainder_xor (suc k) a b =
      let top = modulus * 2 ^ k in
      ap (λ x. remainder m modulus k (bit_xor (bit_xor a b) x))
      (ap (λ x. scaled x top) (bit_of_xor (m + k) a b) ∙ scaled_xor_bit top (bit (m + k) a) (bit (m + k) b) (bit_lt (m + k) a) (bit_lt (m + k) b))
      ∙ ap (remainder m modulus k) (xor_four a b (scaled (bit (m + k) a) top) (scaled (bit (m + k) b) top))
      ∙ remainder_xor k (bit_xor a (scaled (bit (m + k) a) top)) (bit_xor b (scaled (bit (m + k) b) top))

  -- the remainder of a polynomial times x
  remainder_double : (k a : ℕ) → remainder m modulus (suc k) (a * 2) ≡ times_x m modulus (remainder m modulus k a)
  unfolding remainder times_x
  remainder_double zero a = ap (bit_xor (a * 2)) (ap₂ scaled (ap (λ i. bit i (a * 2)) (add-zero m)) (mul-one modulus))
  remainder_double (suc k) a =
      let s = scaled (bit (m + k) a) (modulus * 2 ^ k) in
      ap (λ x. remainder m modulus (suc k) (bit_xor (a * 2) x))
      (ap₂ scaled (ap (λ i. bit i (a * 2)) (add-suc m k) ∙ bit_double (m + k) a) (shifted_twice modulus k) ∙ scaled_double (bit (m + k) a) (modulus * 2 ^ k))
      ∙ ap (remainder m modulus (suc k)) (sym (double_xor a s))
      ∙ remainder_double k (bit_xor a s)

  -- a polynomial of lower degree than the modulus is its own remainder
  remainder_small : (k a : ℕ) → a < 2 ^ m → remainder m modulus k a ≡ a
  unfolding remainder scaled
  remainder_small zero a h = refl
  remainder_small (suc k) a h =
      ap (λ x. remainder m modulus k (bit_xor a (scaled x (modulus * 2 ^ k)))) (bit_above m k a h) ∙ ap (remainder m modulus k) (xor_zero_r a) ∙ remainder_small k a h

  no_terms : (a b : ℕ) → remainder m modulus 0 (poly_product 0 a b) ≡ 0
  unfolding remainder poly_product
  no_terms a b = refl

  pub reduced_product : (k a b : ℕ) → a < 2 ^ m → remainder m modulus k (poly_product k a b) ≡ horner m modulus k a b
  unfolding horner
  reduced_product zero a b h = no_terms a b
  reduced_product (suc k) a b h =
      ap (remainder m modulus (suc k)) (product_step k a b)
      ∙ remainder_xor (suc k) (poly_product k a (b / 2) * 2) (scaled (b % 2) a)
      ∙ ap₂ bit_xor (remainder_double k (poly_product k a (b / 2)) ∙ ap (times_x m modulus) (reduced_product k a (b / 2) h))
      (remainder_small (suc k) (scaled (b % 2) a) (scaled_lt (b % 2) a (2 ^ m) h))
