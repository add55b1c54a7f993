-- What a Reed-Solomon code of n symbols and r checks means.
use Rattle.std.specs.Prelude.{ℕ, ◌/◌, Bool, true, false, cond, ◌&&◌, nat_le, nat_lt}
use Rattle.field.specs.Model.{FieldModel}
use Rattle.component.specs.Model.{CodeModel}
use Rattle.reed_solomon_theory.specs.Code.{power}

-- the limits in a field of order q: 1 to q symbols, 1 to 8 checks, and no more checks than symbols
abbrev pub within_limits : ℕ → ℕ → ℕ → Bool
within_limits q n r = (nat_lt 0 n && nat_le n q) && ((nat_lt 0 r && nat_le r 8) && nat_le r n)

-- outside the limits there is no code: no symbols and no checks
abbrev pub no_code : FieldModel → CodeModel
no_code φ = record { field = φ; size = 0; checks = 0; coefficient = λ j i. 0; radius = 0; fit = false }

-- the coefficient of check j at seat i: the locator of the seat, which is the code i, to the power j
abbrev pub locator_power : FieldModel → ℕ → ℕ → ℕ → ℕ → ℕ
locator_power φ n r j i = cond (nat_lt j r && nat_lt i n) (power φ i j) 0

-- the code of n symbols and r checks, which can put half as many wrong symbols right as it has checks
abbrev pub power_code : FieldModel → ℕ → ℕ → CodeModel
power_code φ n r = record { field = φ; size = n; checks = r; coefficient = locator_power φ n r; radius = r / 2; fit = true }

-- what a value with any numbers means
abbrev pub reed_solomon : FieldModel → ℕ → ℕ → CodeModel
reed_solomon φ n r = cond (within_limits φ.order n r) (power_code φ n r) (no_code φ)
