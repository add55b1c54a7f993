-- What a layout has to keep to, one side at a time.
use Rattle.std.proofs.Common.{◌≡◌, ℕ, ◌*◌, ◌<◌, ◌≢◌}
use Rattle.geometry.specs.Layouts.{Layout}

-- n vertices of s seats, and m vertices opposite: `at v i` stands at seat i of v, and what stands at the seats of v rises;
-- `seat v w` is the seat at v of a vertex w that is incident with it
pub record Side (n m s : ℕ) (Inc : ℕ → ℕ → Type 0) (at seat : ℕ → ℕ → ℕ) : Type 0 where
  pub at_in : (v i : ℕ) → v < n → i < s → at v i < m
  pub at_inc : (v i : ℕ) → v < n → i < s → Inc v (at v i)
  pub at_rise : (v i j : ℕ) → v < n → i < j → j < s → at v i < at v j
  pub seat_in : (v w : ℕ) → v < n → w < m → Inc v w → seat v w < s
  pub at_seat : (v w : ℕ) → v < n → w < m → Inc v w → at v (seat v w) ≡ w

-- a layout keeps to a rule of incidence
pub record LayoutLaws (y : Layout) (Inc : ℕ → ℕ → Type 0) : Type 0 where
  pub some_points : 0 < y.points
  pub some_lines : 0 < y.lines
  pub some_point_degree : 0 < y.point_degree
  pub some_line_degree : 0 < y.line_degree
  pub count : y.points * y.point_degree ≡ y.lines * y.line_degree
  pub of_points : Side y.points y.lines y.point_degree Inc y.line_at y.seat_at
  pub of_lines : Side y.lines y.points y.line_degree (λ l p. Inc p l) y.point_on y.seat_on
  pub one_line : (p p' l l' : ℕ) → p < y.points → p' < y.points → l < y.lines → l' < y.lines → p ≢ p'
      → Inc p l → Inc p' l → Inc p l' → Inc p' l' → l ≡ l'
