-- Numbers of three digits to the base q.
use Rattle.std.specs.Prelude.{ℕ, ◌+◌, ◌*◌, ◌/◌, ◌%◌}

-- the first digit of a number, the second and the third
abbrev pub first : ℕ → ℕ → ℕ
first q n = n / q / q

abbrev pub second : ℕ → ℕ → ℕ
second q n = n / q % q

abbrev pub third : ℕ → ℕ → ℕ
third q n = n % q

-- the number with the digits x, y and z
abbrev pub number : ℕ → ℕ → ℕ → ℕ → ℕ
number q x y z = (x * q + y) * q + z
