-- The product modulo a polynomial of degree m, by Horner's rule over the coefficients of the second factor.
-- It is linear, commutative and associative for every modulus.
use Rattle.std.proofs.Common.{◌≡◌, ℕ, zero, suc, ◌+◌, ◌*◌, ◌/◌, ◌%◌, ◌^◌, ◌<◌, ◌≤◌, sym, refl, ap, ◌∙◌, ap₂, inl, inr, lt_of_lt_of_le, one-mul, div-add-mod', zero-add, zero-mul, arith, pow_pos, pow_mono}
use native.Mathlib.Nat.{le_dest}
use lib.Bits.{bit_xor, xor_zero_r, xor_lt, xor_shifted, xor_shr, xor_mod, xor_block}
use Rattle.std.proofs.lemmas.Nat.{shr_high}
use Rattle.std.proofs.lemmas.Bool.{cases_lt}
use Rattle.field.specs.Polynomials.{bit, scaled}
use Rattle.field_theory.proofs.Bits.{xor_four, by_bit, scaled_zero, scaled_lt, scaled_xor_bit, scaled_xor, double_xor, bit_lt, bit_of_xor, bit_high}

-- a times x: doubled, less the modulus if there is a coefficient at m
unfoldable pub times_x : ℕ → ℕ → ℕ → ℕ
times_x m modulus a = bit_xor (a * 2) (scaled (bit m (a * 2)) modulus)

-- a times the k lowest terms of b
unfoldable pub horner : ℕ → ℕ → ℕ → ℕ → ℕ → ℕ
horner m modulus zero a b = 0
horner m modulus (suc k) a b = bit_xor (times_x m modulus (horner m modulus k a (b / 2))) (scaled (b % 2) a)

pub times_x_xor : (m modulus a b : ℕ) → times_x m modulus (bit_xor a b) ≡ bit_xor (times_x m modulus a) (times_x m modulus b)
unfolding times_x
times_x_xor m modulus a b =
    ap₂ bit_xor (double_xor a b)
    (ap (λ x. scaled (bit m x) modulus) (double_xor a b) ∙ ap (λ x. scaled x modulus) (bit_of_xor m (a * 2) (b * 2))
    ∙ scaled_xor_bit modulus (bit m (a * 2)) (bit m (b * 2)) (bit_lt m (a * 2)) (bit_lt m (b * 2)))
    ∙ xor_four (a * 2) (b * 2) (scaled (bit m (a * 2)) modulus) (scaled (bit m (b * 2)) modulus)

-- the modulus is x^m + p
module _ (m p : ℕ) (hp : p < 2 ^ m) where
  abbrev pub dbl : ℕ → ℕ
  dbl = times_x m (2 ^ m + p)

  abbrev pub mul : ℕ → ℕ → ℕ → ℕ
  mul = horner m (2 ^ m + p)

  -- a small number is only doubled
  pub dbl_small : (a : ℕ) → a * 2 < 2 ^ m → dbl a ≡ a * 2
  unfolding times_x scaled
  dbl_small a h = ap (λ x. bit_xor (a * 2) (scaled x (2 ^ m + p))) (bit_high m (a * 2) h) ∙ xor_zero_r (a * 2)

  dbl_large : (a d : ℕ) → 1 * 2 ^ m + d ≡ a * 2 → d < 2 ^ m → dbl a ≡ bit_xor d p
  unfolding times_x scaled bit
  dbl_large a d e h =
      ap₂ bit_xor (sym e) (ap (λ x. scaled (x / 2 ^ m % 2) (2 ^ m + p)) (sym e) ∙ ap (λ x. scaled (x % 2) (2 ^ m + p)) (shr_high 1 m d h) ∙ ap (λ x. x + p) (sym (one-mul (2 ^ m))))
      ∙ xor_block m 1 1 d p h hp ∙ ap (λ x. x + bit_xor d p) (zero-mul (2 ^ m)) ∙ zero-add (bit_xor d p)

  pub dbl_lt : (a : ℕ) → a < 2 ^ m → dbl a < 2 ^ m
  dbl_lt a h = elim (cases_lt (a * 2) (2 ^ m)) [
    | inl l ↦ rw (dbl_small a l) l
    | inr l ↦ let d = le_dest l in let e = d.1 in rw (dbl_large a d.0 (omega arith) (omega arith)) (xor_lt m d.0 p (omega arith) hp)
  ]

  dbl_zero : dbl 0 ≡ 0
  dbl_zero = dbl_small 0 (pow_pos m)

  pub mul_lt : (k a b : ℕ) → a < 2 ^ m → mul k a b < 2 ^ m
  unfolding horner
  mul_lt zero a b h = pow_pos m
  mul_lt (suc k) a b h = xor_lt m (dbl (mul k a (b / 2))) (scaled (b % 2) a) (dbl_lt (mul k a (b / 2)) (mul_lt k a (b / 2) h)) (scaled_lt (b % 2) a (2 ^ m) h)

  mul_xor_left : (k a b c : ℕ) → mul k (bit_xor a b) c ≡ bit_xor (mul k a c) (mul k b c)
  unfolding horner
  mul_xor_left zero a b c = refl
  mul_xor_left (suc k) a b c =
      ap₂ bit_xor (ap dbl (mul_xor_left k a b (c / 2)) ∙ times_x_xor m (2 ^ m + p) (mul k a (c / 2)) (mul k b (c / 2))) (scaled_xor (c % 2) a b)
      ∙ xor_four (dbl (mul k a (c / 2))) (dbl (mul k b (c / 2))) (scaled (c % 2) a) (scaled (c % 2) b)

  pub mul_xor_right : (k a b c : ℕ) → mul k a (bit_xor b c) ≡ bit_xor (mul k a b) (mul k a c)
  unfolding horner
  mul_xor_right zero a b c = refl
  mul_xor_right (suc k) a b c =
      ap₂ bit_xor (ap (λ x. dbl (mul k a x)) (xor_shr b c 1) ∙ ap dbl (mul_xor_right k a (b / 2) (c / 2))
      ∙ times_x_xor m (2 ^ m + p) (mul k a (b / 2)) (mul k a (c / 2)))
      (ap (λ x. scaled x a) (xor_mod b c 1) ∙ scaled_xor_bit a (b % 2) (c % 2) (omega arith) (omega arith))
      ∙ xor_four (dbl (mul k a (b / 2))) (dbl (mul k a (c / 2))) (scaled (b % 2) a) (scaled (c % 2) a)

  scaled_dbl : (x a : ℕ) → scaled x (dbl a) ≡ dbl (scaled x a)
  unfolding scaled
  scaled_dbl zero a = sym dbl_zero
  scaled_dbl (suc x) a = refl

  pub mul_dbl : (k a b : ℕ) → mul k (dbl a) b ≡ dbl (mul k a b)
  unfolding horner
  mul_dbl zero a b = sym dbl_zero
  mul_dbl (suc k) a b =
      ap₂ bit_xor (ap dbl (mul_dbl k a (b / 2))) (scaled_dbl (b % 2) a)
      ∙ sym (times_x_xor m (2 ^ m + p) (dbl (mul k a (b / 2))) (scaled (b % 2) a))

  mul_zero_left : (k b : ℕ) → mul k 0 b ≡ 0
  unfolding horner
  mul_zero_left zero b = refl
  mul_zero_left (suc k) b = ap₂ bit_xor (ap dbl (mul_zero_left k (b / 2)) ∙ dbl_zero) (scaled_zero (b % 2))

  -- a number of at most m bits, from its half
  half_again : (k b : ℕ) → b < 2 ^ suc k → suc k ≤ m → bit_xor (dbl (b / 2)) (b % 2) ≡ b
  half_again k b hb hk =
      let l : b / 2 * 2 < 2 ^ m = lt_of_lt_of_le (omega arith) (pow_mono hk) in
      ap (λ x. bit_xor x (b % 2)) (dbl_small (b / 2) l) ∙ xor_shifted (b / 2) 1 (b % 2) (omega arith) ∙ div-add-mod' b 2

  scaled_one : (x : ℕ) → x < 2 → scaled x 1 ≡ x
  unfolding scaled
  scaled_one x h = by_bit (λ x. scaled x 1 ≡ x) refl refl x h

  pub mul_one_left : (k b : ℕ) → k ≤ m → b < 2 ^ k → mul k 1 b ≡ b
  unfolding horner
  mul_one_left zero b hk hb = omega arith
  mul_one_left (suc k) b hk hb = ap₂ bit_xor (ap dbl (mul_one_left k (b / 2) (omega arith) (omega arith))) (scaled_one (b % 2) (omega arith)) ∙ half_again k b hb hk

  mul_bit : (x b : ℕ) → x < 2 → b < 2 ^ m → mul m x b ≡ scaled x b
  unfolding scaled
  mul_bit x b hx hb = by_bit (λ x. mul m x b ≡ scaled x b) (mul_zero_left m b) (mul_one_left m b (omega arith) hb) x hx

  -- by the coefficients of the left factor
  mul_flip : (k a b : ℕ) → k ≤ m → a < 2 ^ k → b < 2 ^ m → mul m a b ≡ mul k b a
  unfolding horner
  mul_flip zero a b hk ha hb = let z : a ≡ 0 = omega arith in ap (λ x. mul m x b) z ∙ mul_zero_left m b
  mul_flip (suc k) a b hk ha hb =
      ap (λ x. mul m x b) (sym (half_again k a ha hk)) ∙ mul_xor_left m (dbl (a / 2)) (a % 2) b
      ∙ ap₂ bit_xor (mul_dbl m (a / 2) b ∙ ap dbl (mul_flip k (a / 2) b (omega arith) (omega arith) hb)) (mul_bit (a % 2) b (omega arith) hb)

  pub mul_comm : (a b : ℕ) → a < 2 ^ m → b < 2 ^ m → mul m a b ≡ mul m b a
  mul_comm a b ha hb = mul_flip m a b (omega arith) ha hb

  mul_zero_right : (a : ℕ) → a < 2 ^ m → mul m a 0 ≡ 0
  mul_zero_right a ha = mul_comm a 0 ha (pow_pos m) ∙ mul_zero_left m a

  mul_right_dbl : (a b : ℕ) → a < 2 ^ m → b < 2 ^ m → mul m a (dbl b) ≡ dbl (mul m a b)
  mul_right_dbl a b ha hb = mul_comm a (dbl b) ha (dbl_lt b hb) ∙ mul_dbl m b a ∙ ap dbl (mul_comm b a hb ha)

  scaled_mul : (x a b : ℕ) → a < 2 ^ m → scaled x (mul m a b) ≡ mul m a (scaled x b)
  unfolding scaled
  scaled_mul zero a b ha = sym (mul_zero_right a ha)
  scaled_mul (suc x) a b ha = refl

  pub mul_assoc : (k a b c : ℕ) → a < 2 ^ m → b < 2 ^ m → mul k (mul m a b) c ≡ mul m a (mul k b c)
  unfolding horner
  mul_assoc zero a b c ha hb = sym (mul_zero_right a ha)
  mul_assoc (suc k) a b c ha hb =
      ap₂ bit_xor (ap dbl (mul_assoc k a b (c / 2) ha hb) ∙ sym (mul_right_dbl a (mul k b (c / 2)) ha (mul_lt k b (c / 2) hb))) (scaled_mul (c % 2) a b ha)
      ∙ sym (mul_xor_right m a (dbl (mul k b (c / 2))) (scaled (c % 2) b))
