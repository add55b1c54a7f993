-- The projective plane by formulas. Points and lines change places in them, as they do in a x + b y + c z = 0.
use Rattle.std.specs.Prelude.{ℕ, ◌+◌, ◌-◌, ◌*◌, ◌/◌, ◌%◌, cond, Some, None, Option, ◌==◌, nat_lt}
use Rattle.field.specs.Model.{FieldModel, over}
use Rattle.geometry.specs.Model.{GeometryModel}
use Rattle.geometry.specs.Layouts.{Layout, laid}
use Rattle.projective.specs.declared.triple.Triple.{Triple}
use Rattle.projective.specs.declared.triple.Triple.TheVariants.{Affine, Ideal, Last}
use Rattle.projective.specs.Triples.{number_of, x_of, y_of, z_of}

-- the triple of a number
abbrev pub triple_of : ℕ → ℕ → Triple
triple_of q n = cond (nat_lt n (q * q)) (Affine (n / q) (n % q)) (cond (nat_lt n (q * q + q)) (Ideal (n - q * q)) Last)

-- the vertex at seat i of (a, b, 0), given -a / b
abbrev pub by_second : ℕ → Option ℕ → Triple
by_second i (Some y) = Affine y i
by_second i None = Ideal i

-- the vertex at seat i of (a, b, c), given -(a + b i) / c
abbrev pub by_third : FieldModel → ℕ → ℕ → ℕ → Option ℕ → Triple
by_third φ a b i (Some z) = Affine i z
by_third φ a b i None = by_second i (over φ (φ.neg a) b)

-- the vertex at seat q of (a, b, c), given -b / c
abbrev pub by_last : Option ℕ → Triple
by_last (Some z) = Ideal z
by_last None = Last

-- the vertex at seat i of (a, b, c)
abbrev pub opposite : FieldModel → ℕ → ℕ → ℕ → ℕ → Triple
opposite φ a b c i = cond (nat_lt i φ.order) (by_third φ a b i (over φ (φ.neg (φ.sum a (φ.prod b i))) c)) (by_last (over φ (φ.neg b) c))

-- the seat at (a, b, c) of a vertex opposite, which c alone tells
abbrev pub seat_of : ℕ → ℕ → Triple → ℕ
seat_of q c (Affine y z) = cond (c == 0) z y
seat_of q c (Ideal z) = cond (c == 0) z q
seat_of q c Last = q

-- the number of the vertex at seat i of vertex v
abbrev pub vertex_at : FieldModel → ℕ → ℕ → ℕ
vertex_at φ v i = number_of φ.order (opposite φ (x_of (triple_of φ.order v)) (y_of (triple_of φ.order v)) (z_of (triple_of φ.order v)) i)

-- the seat at vertex v of vertex w
abbrev pub seat_between : FieldModel → ℕ → ℕ → ℕ
seat_between φ v w = seat_of φ.order (z_of (triple_of φ.order v)) (triple_of φ.order w)

abbrev pub projective_layout : FieldModel → Layout
projective_layout φ = record {
  order = φ.order;
  points = φ.order * φ.order + φ.order + 1;
  lines = φ.order * φ.order + φ.order + 1;
  point_degree = φ.order + 1;
  line_degree = φ.order + 1;
  line_at = vertex_at φ;
  seat_at = seat_between φ;
  point_on = vertex_at φ;
  seat_on = seat_between φ;
}

abbrev pub projective : FieldModel → GeometryModel
projective φ = laid (projective_layout φ)
