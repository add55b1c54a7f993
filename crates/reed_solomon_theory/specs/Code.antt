-- The checks of the extended Reed-Solomon code. A word is a function of the seat, and the locator of seat i is the code i.
use Rattle.std.specs.Prelude.{◌≡◌, ℕ, zero, suc, ◌<◌, ◌≤◌, Bool, cond, not, List, [], ◌∷◌, length, ◌==◌}
use Rattle.field.specs.Model.{FieldModel}
use Rattle.field.specs.Laws.{FieldLaws}
use Rattle.field.specs.Sums.{field_sum}

-- x to the power j; the zeroth power is 1, also that of 0
unfoldable pub power : FieldModel → ℕ → ℕ → ℕ
power φ x zero = 1
power φ x (suc j) = φ.prod x (power φ x j)

-- check j of a word of n symbols: the sum over the seats of the locator to the power j times the symbol
unfoldable pub check : FieldModel → ℕ → (ℕ → ℕ) → ℕ → ℕ
check φ n w j = field_sum φ n (λ i. φ.prod (power φ i j) (w i))

-- the seats below n at which the test is true, from the last to the first
unfoldable pub seats : ℕ → (ℕ → Bool) → List ℕ
seats zero f = []
seats (suc n) f = cond (f n) (n ∷ seats n f) (seats n f)

-- every seat of the list is below n
unfoldable pub Below : ℕ → List ℕ → Type 0
Below n [] = Unit {0}
Below n (k ∷ ks) = (k < n) × Below n ks

-- in how many seats below n two words differ
unfoldable pub differing : ℕ → (ℕ → ℕ) → (ℕ → ℕ) → ℕ
differing n u v = length (seats n (λ i. not (u i == v i)))

-- a code word of n symbols with r checks
pub record CodeWord (φ : FieldModel) (n r : ℕ) (w : ℕ → ℕ) : Type 0 where
  pub code : (i : ℕ) → i < n → w i < φ.order
  pub pass : (j : ℕ) → j < r → check φ n w j ≡ 0

-- code words that differ in at most r seats are equal
abbrev pub Distance : Type 0
Distance = (φ : FieldModel) (laws : FieldLaws φ) (n r : ℕ) → n ≤ φ.order → (u v : ℕ → ℕ) → CodeWord φ n r u → CodeWord φ n r v
    → differing n u v ≤ r → (i : ℕ) → i < n → u i ≡ v i
