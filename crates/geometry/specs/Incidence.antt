-- Which points lie on which lines.
use Rattle.std.specs.Prelude.{◌≡◌, ℕ, ◌<◌, ◌≢◌}
use Rattle.geometry.specs.Model.{GeometryModel, edges, line_of}

-- point p lies on line l: some edge has both
abbrev pub On : GeometryModel → ℕ → ℕ → Type 0
On g p l = (e : ℕ) × (e < edges g) × (g.point e ≡ p) × (line_of g e ≡ l)

-- two different points have at most one line in common
abbrev pub OneLine : GeometryModel → Type 0
OneLine g = (p p' l l' : ℕ) → p ≢ p' → On g p l → On g p' l → On g p l' → On g p' l' → l ≡ l'

-- two different lines have at most one point in common
abbrev pub OnePoint : GeometryModel → Type 0
OnePoint g = (l l' p p' : ℕ) → l ≢ l' → On g p l → On g p l' → On g p' l → On g p' l' → p ≡ p'
