-- The projection by formulas. Let e = a x - (y + b) and h = x b - (z + c) say how far the point (x, y, z) is from the two equations of the line [a, b, c].
-- The point of the line over x' and the line of slope a' through the given point are a joining pair if e is not 0, h = e x' and e = (a' - a) (x' - x).
use Rattle.std.specs.Prelude.{ℕ, ◌*◌, cond, Some, None, Option, nat_lt}
use Rattle.field.specs.Model.{FieldModel, minus, over}
use Rattle.radix.specs.Digits.{first, second, third}
use Rattle.quadrangle.specs.Formulas.{line_through, point_over}

-- a x - (y + b)
abbrev pub gap : FieldModel → (a b x y : ℕ) → ℕ
gap φ a b x y = minus φ (φ.prod a x) (φ.sum y b)

-- the pair at a place x', given e / (x' - x)
abbrev pub at_slope : FieldModel → (a b c x y z place : ℕ) → Option ℕ → Option (ℕ × ℕ)
at_slope φ a b c x y z place (Some rise) = Some (point_over φ a b c place, line_through φ x y z (φ.sum a rise))
at_slope φ a b c x y z place None = None

-- the pair, given h / e
abbrev pub at_place : FieldModel → (a b c x y z : ℕ) → Option ℕ → Option (ℕ × ℕ)
at_place φ a b c x y z (Some place) = at_slope φ a b c x y z place (over φ (gap φ a b x y) (minus φ place x))
at_place φ a b c x y z None = None

-- the pair that joins the line [a, b, c] to the point (x, y, z)
abbrev pub joining_pair : FieldModel → (a b c x y z : ℕ) → Option (ℕ × ℕ)
joining_pair φ a b c x y z = at_place φ a b c x y z (over φ (gap φ x c b z) (gap φ a b x y))

-- the pair that joins line l to point p
abbrev pub projected : FieldModel → ℕ → ℕ → Option (ℕ × ℕ)
projected φ l p = cond (nat_lt l (φ.order * φ.order * φ.order))
    (cond (nat_lt p (φ.order * φ.order * φ.order))
    (joining_pair φ (first φ.order l) (second φ.order l) (third φ.order l) (first φ.order p) (second φ.order p) (third φ.order p)) None) None
