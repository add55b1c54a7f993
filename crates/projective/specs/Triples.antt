-- Homogeneous coordinates. Points and lines of the projective plane are the triples (1, y, z), (0, 1, z) and (0, 0, 1).
use Rattle.std.specs.Prelude.{ℕ, ◌+◌, ◌*◌, ◌<◌}
use Rattle.field.specs.Model.{FieldModel}
use Rattle.projective.specs.declared.triple.Triple.{Triple}
use Rattle.projective.specs.declared.triple.Triple.TheVariants.{Affine, Ideal, Last}

-- the first coordinate, the second and the third: Affine y z is (1, y, z), Ideal z is (0, 1, z), and Last is (0, 0, 1)
abbrev pub x_of : Triple → ℕ
x_of (Affine y z) = 1
x_of (Ideal z) = 0
x_of Last = 0

abbrev pub y_of : Triple → ℕ
y_of (Affine y z) = y
y_of (Ideal z) = 1
y_of Last = 0

abbrev pub z_of : Triple → ℕ
z_of (Affine y z) = z
z_of (Ideal z) = z
z_of Last = 1

-- the coordinates are codes of a field of order q
abbrev pub Codes : ℕ → Triple → Type 0
Codes q (Affine y z) = (y < q) × (z < q)
Codes q (Ideal z) = z < q
Codes q Last = Unit {0}

-- the number of a triple
abbrev pub number_of : ℕ → Triple → ℕ
number_of q (Affine y z) = q * y + z
number_of q (Ideal z) = q * q + z
number_of q Last = q * q + q

-- a x + b y + c z
abbrev pub inner : FieldModel → (a b c x y z : ℕ) → ℕ
inner φ a b c x y z = φ.sum (φ.sum (φ.prod a x) (φ.prod b y)) (φ.prod c z)

-- the same of the line (a, b, c) and the point (x, y, z)
abbrev pub dot : FieldModel → Triple → Triple → ℕ
dot φ m p = inner φ (x_of m) (y_of m) (z_of m) (x_of p) (y_of p) (z_of p)
