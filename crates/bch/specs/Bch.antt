-- Extended binary BCH codes: symbols in the field of 2, locators in the field of 16. Seat i has the locator i.
use Rattle.std.specs.Prelude.{ℕ, ◌+◌, ◌-◌, ◌*◌, Bool, cond, ◌&&◌, ◌||◌, ◌==◌, nat_lt}
use Rattle.field.specs.Polynomials.{bit}
use Rattle.field.specs.Defined.{defined_field, defined_prod}
use Rattle.component.specs.Model.{CodeModel}

-- the third power of a locator
unfoldable pub cube : ℕ → ℕ
cube i = defined_prod 16 i (defined_prod 16 i i)

-- the coefficient of check j at seat i: 1, which is power 0 of the locator, then the bits of the locator, lowest first,
-- then those of its third power
unfoldable pub power_bit : ℕ → ℕ → ℕ
power_bit j i = cond (j == 0) 1 (cond (nat_lt j 5) (bit (j - 1) i) (bit (j - 5) (cube i)))

-- the limits: 1 to 16 seats, and radius 1 or 2
abbrev pub within_limits : ℕ → ℕ → Bool
within_limits n t = (nat_lt 0 n && nat_lt n 17) && (t == 1 || t == 2)

-- the code of n seats and radius t if the test passes, and no code otherwise: no seats, no checks, radius 0.
-- Radius 1 has the 5 checks of powers 0 and 1, radius 2 also the 4 of power 3.
abbrev pub code_if : Bool → ℕ → ℕ → CodeModel
code_if b n t = record {
  field = defined_field 2;
  size = cond b n 0;
  checks = cond b (1 + 4 * t) 0;
  coefficient = λ j i. cond b (power_bit j i) 0;
  radius = cond b t 0;
  fit = b;
}

-- the extended binary BCH code of n seats and radius t; outside the limits there is none
abbrev pub bch : ℕ → ℕ → CodeModel
bch n t = code_if (within_limits n t) n t
