-- Coefficients of polynomials over two elements, and exclusive or.
use Rattle.std.proofs.Common.{◌≡◌, ℕ, zero, suc, ◌+◌, ◌*◌, ◌/◌, ◌%◌, ◌^◌, ◌<◌, ◌≤◌, sym, refl, ap, ◌∙◌, ap₂, lt_of_lt_of_le, add-zero, pow-suc, div-one, arith, pow_pos, pow_mono}
use native.Mathlib.Nat.{div-eq_of_lt, pow-succ', mul-div-mul_right, div-div-eq-div-mul}
use lib.Bits.{bit_xor, xor_comm, xor_assoc, xor_self, xor_zero_r, xor_shr, xor_mod, xor_block}
use Rattle.field.specs.Polynomials.{bit, scaled}

pub xor_left_comm : (a b c : ℕ) → bit_xor a (bit_xor b c) ≡ bit_xor b (bit_xor a c)
xor_left_comm a b c = sym (xor_assoc a b c) ∙ ap (λ x. bit_xor x c) (xor_comm a b) ∙ xor_assoc b a c

pub xor_four : (a b c d : ℕ) → bit_xor (bit_xor a b) (bit_xor c d) ≡ bit_xor (bit_xor a c) (bit_xor b d)
xor_four a b c d = simp (xor_assoc, xor_left_comm)

pub xor_right_comm : (a b c : ℕ) → bit_xor (bit_xor a b) c ≡ bit_xor (bit_xor a c) b
xor_right_comm a b c = simp (xor_comm, xor_left_comm)

-- what holds at both bits holds at a bit
pub by_bit : (P : ℕ → Type 0) → P 0 → P 1 → (x : ℕ) → x < 2 → P x
by_bit P p q zero h = p
by_bit P p q (suc zero) h = q
by_bit P p q (suc (suc x)) h = absurd (omega arith)

pub scaled_zero : (b : ℕ) → scaled b 0 ≡ 0
unfolding scaled
scaled_zero zero = refl
scaled_zero (suc b) = refl

pub scaled_lt : (b a n : ℕ) → a < n → scaled b a < n
unfolding scaled
scaled_lt zero a n h = omega arith
scaled_lt (suc b) a n h = h

pub scaled_xor_bit : (a x y : ℕ) → x < 2 → y < 2 → scaled (bit_xor x y) a ≡ bit_xor (scaled x a) (scaled y a)
unfolding scaled
scaled_xor_bit a x y hx hy =
    by_bit (λ x. scaled (bit_xor x y) a ≡ bit_xor (scaled x a) (scaled y a)) refl
    (by_bit (λ y. scaled (bit_xor 1 y) a ≡ bit_xor a (scaled y a)) (sym (xor_zero_r a)) (sym (xor_self a)) y hy) x hx

pub scaled_xor : (b x y : ℕ) → scaled b (bit_xor x y) ≡ bit_xor (scaled b x) (scaled b y)
unfolding scaled
scaled_xor zero x y = refl
scaled_xor (suc b) x y = refl

pub scaled_double : (b a : ℕ) → scaled b (a * 2) ≡ scaled b a * 2
unfolding scaled
scaled_double zero a = refl
scaled_double (suc b) a = refl

pub double_xor : (a b : ℕ) → bit_xor a b * 2 ≡ bit_xor (a * 2) (b * 2)
double_xor a b = sym (ap₂ bit_xor (sym (add-zero (a * 2))) (sym (add-zero (b * 2))) ∙ xor_block 1 a b 0 0 (pow_pos 1) (pow_pos 1) ∙ add-zero (bit_xor a b * 2))

pub bit_lt : (i a : ℕ) → bit i a < 2
unfolding bit
bit_lt i a = omega arith

pub bit_of_xor : (i a b : ℕ) → bit i (bit_xor a b) ≡ bit_xor (bit i a) (bit i b)
unfolding bit
bit_of_xor i a b = ap (λ x. x % 2) (xor_shr a b i) ∙ xor_mod (a / 2 ^ i) (b / 2 ^ i) 1

pub bit_lowest : (a : ℕ) → bit 0 a ≡ a % 2
unfolding bit
bit_lowest a = ap (λ x. x % 2) (div-one a)

-- the coefficients of a times x
pub bit_double : (i a : ℕ) → bit (suc i) (a * 2) ≡ bit i a
unfolding bit
bit_double i a = ap (λ x. a * 2 / x % 2) (pow-suc 2 i) ∙ ap (λ x. x % 2) (mul-div-mul_right a (2 ^ i) (lib.Dec.lit< tt))

pub bit_half : (i a : ℕ) → bit (suc i) a ≡ bit i (a / 2)
unfolding bit
bit_half i a = ap (λ x. a / x % 2) (pow-succ' 2 i) ∙ ap (λ x. x % 2) (sym (div-div-eq-div-mul a 2 (2 ^ i)))

-- no coefficient above the degree
pub bit_high : (i a : ℕ) → a < 2 ^ i → bit i a ≡ 0
unfolding bit
bit_high i a h = ap (λ x. x % 2) (div-eq_of_lt h)

pub bit_above : (m k a : ℕ) → a < 2 ^ m → bit (m + k) a ≡ 0
bit_above m k a h = let l : 2 ^ m ≤ 2 ^ (m + k) = pow_mono (omega arith) in bit_high (m + k) a (lt_of_lt_of_le h l)
