-- The locator polynomial by elimination: the rows are polynomials of rising degrees, each led by 1, and each check takes at most one row.
use Rattle.std.specs.Prelude.{◌≡◌, ℕ, zero, suc, ◌<◌, List, [], ◌∷◌, length}
use Rattle.field.specs.Model.{FieldModel}
use Rattle.reed_solomon_theory.specs.Decode.{reciprocal, against, Monic}

-- ys and c times xs, place by place
unfoldable pub plus : FieldModel → ℕ → List ℕ → List ℕ → List ℕ
plus φ c [] ys = ys
plus φ c (x ∷ xs) [] = []
plus φ c (x ∷ xs) (y ∷ ys) = φ.sum y (φ.prod c x) ∷ plus φ c xs ys

-- the row ys cleared at check j by the row xs, which is v there
unfoldable pub cleared : FieldModel → (ℕ → ℕ) → ℕ → ℕ → List ℕ → List ℕ → List ℕ
cleared φ s j v xs ys = plus φ (φ.neg (φ.prod (against φ ys s j) (reciprocal φ v))) xs ys

unfoldable pub zeros : ℕ → List ℕ
zeros zero = []
zeros (suc w) = 0 ∷ zeros w

-- the power z to the l, as w coefficients
unfoldable pub unit : ℕ → ℕ → List ℕ
unit zero l = []
unit (suc w) zero = 1 ∷ zeros w
unit (suc w) (suc l) = 0 ∷ unit w l

-- a row of w coefficients and degree l below top, which the first j checks do not tell from 0
pub record Row (φ : FieldModel) (s : ℕ → ℕ) (w top l j : ℕ) (xs : List ℕ) : Type 0 where
  pub monic : Monic l xs
  pub wide : length xs ≡ w
  pub below : l < top
  pub null : (i : ℕ) → i < j → against φ xs s i ≡ 0

-- so many such rows, of rising degrees
pub record Basis (φ : FieldModel) (s : ℕ → ℕ) (w top j count : ℕ) (row : ℕ → List ℕ) : Type 0 where
  pub degree : ℕ → ℕ
  pub rows : (l : ℕ) → l < count → Row φ s w top (degree l) j (row l)
  pub rising : (k l : ℕ) → k < l → l < count → degree k < degree l
