-- What a component code means: linear checks over a field, and a radius within which a word can be decoded.
use Rattle.std.specs.Prelude.{◌≡◌, ℕ, ◌*◌, ◌≤◌, Bool, true, ◌&&◌, List, length, ◌==◌, nat_eq, nat_lt, slice_index}
use Rattle.field.specs.Model.{FieldModel}
use Rattle.field.specs.Laws.{FieldLaws}
use Rattle.field.specs.Sums.{field_sum}
use Rattle.ranges.specs.Ranges.{every, differ}

pub record CodeModel : Type 0 where
  -- the field of its symbols
  pub field : FieldModel
  -- how many symbols a word has
  pub size : ℕ
  -- how many checks there are, in order
  pub checks : ℕ
  -- the coefficient of a check at a seat
  pub coefficient : ℕ → ℕ → ℕ
  -- how many wrong symbols can be put right
  pub radius : ℕ
  -- whether its numbers are within the limits of its kind
  pub fit : Bool

-- the sum of coefficient times symbol over the seats
unfoldable pub check_sum : CodeModel → ℕ → List ℕ → ℕ
check_sum c j xs = field_sum c.field c.size (λ i. c.field.prod (c.coefficient j i) (slice_index xs i))

-- a word over the field: as many symbols as the code has seats, each a code of the field
abbrev pub over_field : CodeModel → List ℕ → Bool
over_field c xs = length xs == c.size && every c.size (λ i. nat_lt (slice_index xs i) c.field.order)

-- a code word: a word over the field for which each check sums to 0
unfoldable pub is_word : CodeModel → List ℕ → Bool
is_word c xs = over_field c xs && every c.checks (λ j. nat_eq (check_sum c j xs) 0)

pub record CodeLaws (c : CodeModel) : Type 0 where
  pub field_laws : FieldLaws c.field
  pub few_checks : c.checks ≤ 16
  pub small_radius : c.radius ≤ 7
  -- two code words that differ in at most twice the radius are equal
  pub distance : (xs ys : List ℕ) → is_word c xs ≡ true → is_word c ys ≡ true → differ c.size xs ys ≤ 2 * c.radius → xs ≡ ys
