-- Sums over a range, in a field.
use Rattle.std.specs.Prelude.{ℕ, zero, suc}
use Rattle.field.specs.Model.{FieldModel}

-- g 0 + .. + g (n - 1)
unfoldable pub field_sum : FieldModel → ℕ → (ℕ → ℕ) → ℕ
field_sum f zero g = 0
field_sum f (suc n) g = f.sum (field_sum f n g) (g n)
