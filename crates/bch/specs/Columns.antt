-- The checks of a seat together, as one number, and what the decoder works out of them.
use Rattle.std.specs.Prelude.{ℕ, zero, suc, ◌+◌, ◌*◌, ◌<◌, cond, ◌≢◌, List, length, ◌==◌, bit_xor, slice_index, slice_set}
use Rattle.field.specs.Polynomials.{scaled}
use Rattle.bch.specs.Bch.{cube}

-- the coefficients of all checks of a code of radius t at seat i: bit j is that of check j
unfoldable pub column : ℕ → ℕ → ℕ
column t i = 1 + 2 * i + cond (t == 2) (32 * cube i) 0

-- the sum of the columns at the seats below n that do not hold 0
unfoldable pub column_sum : (ℕ → ℕ) → ℕ → (ℕ → ℕ) → ℕ
column_sum col zero w = 0
column_sum col (suc n) w = bit_xor (column_sum col n w) (scaled (w n) (col n))

-- the sums of all checks over a word: bit j is that of check j
abbrev pub syndrome : ℕ → List ℕ → ℕ
syndrome t xs = column_sum (column t) (length xs) (λ i. slice_index xs i)

-- no seat below n has this column
abbrev pub NoSeat : ℕ → ℕ → ℕ → Type 0
NoSeat t s n = (a : ℕ) → a < n → column t a ≢ s

-- no two seats below n have columns with this sum
abbrev pub NoPair : ℕ → ℕ → ℕ → Type 0
NoPair t s n = (b : ℕ) → b < n → NoSeat t (bit_xor s (column t b)) b

-- a word of bits with the one at a seat turned
abbrev pub flipped : ℕ → List ℕ → List ℕ
flipped a xs = slice_set xs a (bit_xor (slice_index xs a) 1)
