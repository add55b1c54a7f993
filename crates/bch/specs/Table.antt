-- The columns of the 16 seats, each rule by one test that is computed.
use Rattle.std.specs.Prelude.{◌≡◌, ℕ, ◌+◌, ◌*◌, ◌/◌, ◌%◌, ◌^◌, ◌<◌, Bool, true, false, cond, ◌||◌, ◌⊎◌, List, [], ◌∷◌, ◌==◌, nat_eq, nat_lt, slice_index, refl}
use Rattle.std.proofs.Common.{sym, subst, inl, inr, arith, eqb→eq}
use Rattle.std.proofs.lemmas.Bool.{eqb-true, ltb-true, or_cases}
use Rattle.field.specs.Polynomials.{bit, scaled, poly_product, remainder}
use Rattle.field.specs.Defined.{degree, modulus, defined_prod}
use Rattle.ranges.specs.Ranges.{every}
use Rattle.ranges.proofs.Tests.{every_at}
use Rattle.field_theory.proofs.Bits.{bit_lt}
use Rattle.field_theory.proofs.Scan.{at}
use Rattle.bch.specs.Bch.{cube, power_bit}
use Rattle.bch.specs.Columns.{column}

-- what holds at both radii
pub by_radius : (P : ℕ → Type 0) → P 1 → P 2 → (t : ℕ) → (t == 1 || t == 2) ≡ true → P t
by_radius P p q t h = go (or_cases (t == 1) (t == 2) h)
  where
    go : ((t == 1) ≡ true) ⊎ ((t == 2) ≡ true) → P t
    go (inl e) = subst P (sym (eqb-true t 1 e)) p
    go (inr e) = subst P (sym (eqb-true t 2 e)) q

-- the third powers as the code has them
unfoldable pub cubes : List ℕ
cubes = 0 ∷ 1 ∷ 8 ∷ 15 ∷ 12 ∷ 10 ∷ 1 ∷ 1 ∷ 10 ∷ 15 ∷ 15 ∷ 12 ∷ 8 ∷ 10 ∷ 8 ∷ 12 ∷ []

pub cube_entry : (i : ℕ) → i < 16 → slice_index cubes i ≡ cube i
unfolding cubes cube defined_prod degree modulus remainder poly_product bit scaled
cube_entry i h = eqb→eq (slice_index cubes i) (cube i) (at (λ i x. nat_eq x (cube i)) cubes tt i h)

-- the bits of a column are the coefficients of its seat
abbrev BitsRight : ℕ → Type 0
BitsRight t = every 16 (λ i. every (1 + 4 * t) (λ j. nat_eq (bit j (column t i)) (power_bit j i))) ≡ true

bits_1 : BitsRight 1
unfolding column power_bit cube defined_prod degree modulus remainder poly_product bit scaled
bits_1 = refl

bits_2 : BitsRight 2
unfolding column power_bit cube defined_prod degree modulus remainder poly_product bit scaled
bits_2 = refl

pub column_bit : (t : ℕ) → (t == 1 || t == 2) ≡ true → (i j : ℕ) → i < 16 → j < 1 + 4 * t → bit j (column t i) ≡ power_bit j i
column_bit t ok i j hi hj =
    eqb-true (bit j (column t i)) (power_bit j i)
    (every_at (1 + 4 * t) (λ j. nat_eq (bit j (column t i)) (power_bit j i))
    (every_at 16 (λ i. every (1 + 4 * t) (λ j. nat_eq (bit j (column t i)) (power_bit j i))) (by_radius BitsRight bits_1 bits_2 t ok) i hi) j hj)

pub power_bit_lt : (t : ℕ) → (t == 1 || t == 2) ≡ true → (i j : ℕ) → i < 16 → j < 1 + 4 * t → power_bit j i < 2
power_bit_lt t ok i j hi hj = subst (λ n. n < 2) (column_bit t ok i j hi hj) (bit_lt j (column t i))

-- a column has as many bits as there are checks
abbrev Small : ℕ → Type 0
Small t = every 16 (λ i. nat_lt (column t i) (2 ^ (1 + 4 * t))) ≡ true

small_1 : Small 1
unfolding column
small_1 = refl

small_2 : Small 2
unfolding column cube defined_prod degree modulus remainder poly_product bit scaled
small_2 = refl

pub column_lt : (t : ℕ) → (t == 1 || t == 2) ≡ true → (i : ℕ) → i < 16 → column t i < 2 ^ (1 + 4 * t)
column_lt t ok i h = ltb-true (column t i) (2 ^ (1 + 4 * t)) (every_at 16 (λ i. nat_lt (column t i) (2 ^ (1 + 4 * t))) (by_radius Small small_1 small_2 t ok) i h)

-- the seat of a column
pub column_seat : (t i : ℕ) → i < 16 → column t i / 2 % 16 ≡ i
unfolding column
column_seat t i h = go (t == 2)
  where
    go : (b : Bool) → (1 + 2 * i + cond b (32 * cube i) 0) / 2 % 16 ≡ i
    go true = omega arith
    go false = omega arith
