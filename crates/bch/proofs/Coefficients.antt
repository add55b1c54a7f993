-- Coefficients and columns as the code works them out.
use Rattle.std.proofs.Common.{◌≡◌, ℕ, ◌+◌, ◌-◌, ◌*◌, ◌/◌, ◌%◌, ◌^◌, ◌<◌, ◌≤◌, cond, eqb, ltb, ◌≢◌, get_or, sym, ap, ◌∙◌, lt_of_lt_of_le, arith, pow_mono}
use Rattle.std.proofs.lemmas.Bool.{eq-eqb, ne_eqb, lt-ltb, le-ltb, cond-true, cond-false}
use Rattle.field.specs.Model.{as_code}
use Rattle.field.specs.Laws.{FieldLaws}
use Rattle.field.specs.Polynomials.{bit}
use Rattle.field.specs.Defined.{defined_prod, defined_field}
use Rattle.field.proofs.Ring.{zero_prod}
use Rattle.field_theory.proofs.Bits.{bit_high}
use Rattle.field_theory.proofs.Lawful.{binary_field_lawful}
use Rattle.bch.specs.Bch.{cube, power_bit}
use Rattle.bch.specs.Columns.{column, NoSeat}
use Rattle.bch.specs.Two.{bit_zero}
use Rattle.bch.specs.Table.{cubes, cube_entry, column_seat}

laws : FieldLaws (defined_field 16)
laws = binary_field_lawful 16 tt

cube_lt : (i : ℕ) → cube i < 16
unfolding cube
cube_lt i = laws.prod_code i (defined_prod 16 i i)

-- what is no locator counts as 0
cube_far : (i : ℕ) → 16 ≤ i → cube i ≡ 0
unfolding cube
cube_far i h =
    let x = defined_prod 16 i i in
    laws.prod_reads i x ∙ ap (λ y. defined_prod 16 y (as_code 16 x)) (cond-false (ltb i 16) i 0 (le-ltb i 16 h)) ∙ zero_prod (defined_field 16) laws (as_code 16 x)

pub bit_first : (j i : ℕ) → j ≡ 0 → 1 ≡ power_bit j i
unfolding power_bit
bit_first j i e = sym (cond-true (eqb j 0) 1 (cond (ltb j 5) (bit (j - 1) i) (bit (j - 5) (cube i))) (eq-eqb j 0 e))

later : (j i : ℕ) → j ≢ 0 → power_bit j i ≡ cond (ltb j 5) (bit (j - 1) i) (bit (j - 5) (cube i))
unfolding power_bit
later j i d = cond-false (eqb j 0) 1 (cond (ltb j 5) (bit (j - 1) i) (bit (j - 5) (cube i))) (ne_eqb j 0 d)

third : (j i : ℕ) → 5 ≤ j → power_bit j i ≡ bit (j - 5) (cube i)
third j i h = later j i (omega arith) ∙ cond-false (ltb j 5) (bit (j - 1) i) (bit (j - 5) (cube i)) (le-ltb j 5 h)

pub bit_low : (j i : ℕ) → j ≢ 0 → j < 5 → i / 2 ^ (j - 1) % 2 ≡ power_bit j i
unfolding bit
bit_low j i d h = sym (later j i d ∙ cond-true (ltb j 5) (bit (j - 1) i) (bit (j - 5) (cube i)) (lt-ltb j 5 h))

pub bit_third : (j i : ℕ) → 5 ≤ j → i < 16 → get_or cubes i 0 / 2 ^ (j - 5) % 2 ≡ power_bit j i
unfolding bit
bit_third j i h k = ap (λ x. x / 2 ^ (j - 5) % 2) (cube_entry i k) ∙ sym (third j i h)

pub bit_past : (j i : ℕ) → 9 ≤ j → 0 ≡ power_bit j i
bit_past j i h =
    let m : 4 ≤ j - 5 = omega arith in
    let l : 2 ^ 4 ≤ 2 ^ (j - 5) = pow_mono m in
    sym (third j i (omega arith) ∙ bit_high (j - 5) (cube i) (lt_of_lt_of_le (cube_lt i) l))

pub bit_far : (j i : ℕ) → 5 ≤ j → 16 ≤ i → 0 ≡ power_bit j i
bit_far j i h k = sym (third j i h ∙ ap (bit (j - 5)) (cube_far i k) ∙ bit_zero (j - 5))

-- the cases of a coefficient
pub ruleset power_bits = (bit_first, bit_low, bit_third, bit_past, bit_far)

pub column_long : (t i : ℕ) → t ≡ 2 → i < 16 → 1 + 2 * i + 32 * get_or cubes i 0 ≡ column t i
unfolding column
column_long t i e h = ap (λ x. 1 + 2 * i + 32 * x) (cube_entry i h) ∙ sym (ap (λ x. 1 + 2 * i + x) (cond-true (eqb t 2) (32 * cube i) 0 (eq-eqb t 2 e)))

pub column_short : (t i : ℕ) → t ≢ 2 → 1 + 2 * i ≡ column t i
unfolding column
column_short t i d = let z = cond-false (eqb t 2) (32 * cube i) 0 (ne_eqb t 2 d) in omega arith

-- the cases of a column
pub ruleset columns = (column_long, column_short)

-- the seat that the locator bits of a sum name is the only one that can have it for its column
pub no_seat : (t s n : ℕ) → n ≤ 16 → (s / 2 % 16 < n → column t (s / 2 % 16) ≢ s) → NoSeat t s n
no_seat t s n h d a l e =
    let m : s / 2 % 16 ≡ a = ap (λ x. x / 2 % 16) (sym e) ∙ column_seat t a (omega arith) in
    d (omega arith) (ap (column t) m ∙ e)
