-- The projection of a point to a line that it is not on: the point of that line that is joined to it, and the joining line.
use Rattle.std.specs.Prelude.{◌≡◌, ℕ, Some, None, Option}
use Rattle.geometry.specs.Model.{GeometryModel}
use Rattle.geometry.specs.Incidence.{On}

-- for line l and point p off it: point q of l and line k through both points are a joining pair
pub record Joins (g : GeometryModel) (l p q k : ℕ) : Type 0 where
  pub off : On g p l → ⊥
  pub on_line : On g q l
  pub on_joining : On g q k
  pub through : On g p k

-- what an answer says: a joining pair, or that there is none
abbrev pub Joined : GeometryModel → ℕ → ℕ → Option (ℕ × ℕ) → Type 0
Joined g l p (Some pair) = Joins g l p pair.0 pair.1
Joined g l p None = (q k : ℕ) → Joins g l p q k → ⊥

-- the promise of a quadrangle: at most one joining pair for a line and a point off it
abbrev pub OnePair : GeometryModel → Type 0
OnePair g = (l p q k q' k' : ℕ) → Joins g l p q k → Joins g l p q' k' → (q ≡ q') × (k ≡ k')
