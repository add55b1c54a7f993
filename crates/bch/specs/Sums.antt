-- Sums of columns.
use Rattle.std.specs.Prelude.{◌≡◌, ℕ, zero, suc, ◌+◌, ◌*◌, ◌^◌, ◌<◌, ◌≤◌, true, ◌||◌, ◌≢◌, ◌==◌}
use Rattle.std.proofs.Math.Path.{refl, sym, ap, ap₂}
use Rattle.std.proofs.Common.{◌∙◌, inl, inr, arith, eq-or-lt_of_le, lit<}
use Rattle.std.proofs.Math.Numerals.{add-one}
use Rattle.std.specs.Int.Bits.{bit_xor, xor_assoc, xor_zero_r, xor_lt}
use Rattle.std.proofs.Math.Pow.{pow_pos}
use Rattle.field.specs.Polynomials.{bit, scaled}
use Rattle.field.specs.Defined.{defined_sum, defined_prod, defined_field}
use Rattle.field.specs.Sums.{field_sum}
use Rattle.field_theory.proofs.Bits.{xor_four, xor_right_comm, scaled_lt, scaled_xor_bit, bit_lt, bit_of_xor}
use Rattle.ranges.specs.Ranges.{sum, apart}
use Rattle.bch.specs.Bch.{power_bit}
use Rattle.bch.specs.Columns.{column, column_sum}
use Rattle.bch.specs.Two.{sum_two, prod_two, xor_apart, bit_zero, bit_scaled}
use Rattle.bch.specs.Table.{column_bit, column_lt, power_bit_lt}

-- the first n symbols are bits
abbrev pub Binary : ℕ → (ℕ → ℕ) → Type 0
Binary n w = (i : ℕ) → i < n → w i < 2

pub sum_ext : (col : ℕ → ℕ) (n : ℕ) (u v : ℕ → ℕ) → ((i : ℕ) → i < n → u i ≡ v i) → column_sum col n u ≡ column_sum col n v
unfolding column_sum
sum_ext col zero u v h = refl
sum_ext col (suc n) u v h = ap₂ (λ x y. bit_xor x (scaled y (col n))) (sum_ext col n u v (λ i k. h i (omega arith))) (h n (omega arith))

-- the sum of two words' sums is the sum over the places where they differ
pub sum_apart : (col : ℕ → ℕ) (n : ℕ) (u v : ℕ → ℕ) → Binary n u → Binary n v
    → bit_xor (column_sum col n u) (column_sum col n v) ≡ column_sum col n (λ i. apart (u i) (v i))
unfolding column_sum
sum_apart col zero u v hu hv = refl
sum_apart col (suc n) u v hu hv =
    let bu = hu n (omega arith) in
    let bv = hv n (omega arith) in
    xor_four (column_sum col n u) (scaled (u n) (col n)) (column_sum col n v) (scaled (v n) (col n))
    ∙ ap₂ bit_xor (sum_apart col n u v (λ i k. hu i (omega arith)) (λ i k. hv i (omega arith)))
    (sym (scaled_xor_bit (col n) (u n) (v n) bu bv) ∙ ap (λ x. scaled x (col n)) (xor_apart (u n) (v n) bu bv))

-- turning one bit adds its column
pub sum_flip : (col : ℕ → ℕ) (n : ℕ) (u v : ℕ → ℕ) (a : ℕ) → a < n → u a < 2 → v a ≡ bit_xor (u a) 1 → ((i : ℕ) → i ≢ a → v i ≡ u i)
    → column_sum col n v ≡ bit_xor (column_sum col n u) (col a)
unfolding column_sum scaled
sum_flip col zero u v a l b e h = absurd (omega arith)
sum_flip col (suc n) u v a l b e h = elim (eq-or-lt_of_le l) [
  | inl q ↦
      let m : a ≡ n = omega arith in
      ap₂ (λ x y. bit_xor x (scaled y (col n))) (sum_ext col n v u (λ i k. h i (omega arith))) (ap v (sym m) ∙ e)
      ∙ ap (bit_xor (column_sum col n u)) (scaled_xor_bit (col n) (u a) 1 b (lit< tt) ∙ ap₂ (λ x y. bit_xor (scaled (u x) (col n)) (col y)) m (sym m))
      ∙ sym (xor_assoc (column_sum col n u) (scaled (u n) (col n)) (col a))
  | inr k ↦
      ap₂ (λ x y. bit_xor x (scaled y (col n))) (sum_flip col n u v a (omega arith) b e h) (h n (omega arith))
      ∙ xor_right_comm (column_sum col n u) (col a) (scaled (u n) (col n))
]

-- a word of zeros
pub sum_none : (col : ℕ → ℕ) (n : ℕ) (e : ℕ → ℕ) → sum n e ≡ 0 → column_sum col n e ≡ 0
unfolding column_sum scaled
sum_none col zero e h = refl
sum_none col (suc n) e h =
    let z : e n ≡ 0 = omega arith in
    ap₂ (λ x y. bit_xor x (scaled y (col n))) (sum_none col n e (omega arith)) z

-- for a code of radius t: the sums of its checks
module _ (t : ℕ) (ok : (t == 1 || t == 2) ≡ true) where
  pub sum_lt : (n : ℕ) (w : ℕ → ℕ) → n ≤ 16 → column_sum (column t) n w < 2 ^ (1 + 4 * t)
  unfolding column_sum
  sum_lt zero w h = pow_pos (1 + 4 * t)
  sum_lt (suc n) w h =
      xor_lt (1 + 4 * t) (column_sum (column t) n w) (scaled (w n) (column t n)) (sum_lt n w (omega arith))
      (scaled_lt (w n) (column t n) (2 ^ (1 + 4 * t)) (column_lt t ok n h))

  -- check j is bit j of the sum of the columns
  pub check_bit : (n : ℕ) (w : ℕ → ℕ) → n ≤ 16 → Binary n w → (j : ℕ) → j < 1 + 4 * t
      → field_sum (defined_field 2) n (λ i. defined_prod 2 (power_bit j i) (w i)) ≡ bit j (column_sum (column t) n w)
  unfolding column_sum field_sum
  check_bit zero w h b j k = sym (bit_zero j)
  check_bit (suc n) w h b j k =
      let c = column t n in
      let s = column_sum (column t) n w in
      let term : defined_prod 2 (power_bit j n) (w n) ≡ bit j (scaled (w n) c)
      = prod_two (power_bit j n) (w n) (power_bit_lt t ok n j h k) (b n (omega arith))
      ∙ ap (scaled (w n)) (sym (column_bit t ok n j h k)) ∙ sym (bit_scaled j (w n) c) in
      ap₂ (defined_sum 2) (check_bit n w (omega arith) (λ i l. b i (omega arith)) j k) term
      ∙ sum_two (bit j s) (bit j (scaled (w n) c)) (bit_lt j s) (bit_lt j (scaled (w n) c))
      ∙ sym (bit_of_xor j s (scaled (w n) c))

-- one seat more
module _ (col : ℕ → ℕ) (n : ℕ) (w : ℕ → ℕ) (total : ℕ) (so_far : total ≡ column_sum col n w) where
  sum_more : column_sum col (n + 1) w ≡ bit_xor (column_sum col n w) (scaled (w n) (col n))
  unfolding column_sum
  sum_more = rw add-one refl

  pub more_zero : w n ≡ 0 → total ≡ column_sum col (n + 1) w
  unfolding scaled
  more_zero z = so_far ∙ sym (sum_more ∙ ap (λ x. bit_xor (column_sum col n w) (scaled x (col n))) z ∙ xor_zero_r (column_sum col n w))

  scaled_some : (x a : ℕ) → x ≢ 0 → scaled x a ≡ a
  unfolding scaled
  scaled_some zero a d = absurd (d refl)
  scaled_some (suc x) a d = refl

  pub more_one : (c : ℕ) → c ≡ col n → w n ≢ 0 → bit_xor total c ≡ column_sum col (n + 1) w
  more_one c e d = ap₂ bit_xor so_far e ∙ sym (sum_more ∙ ap (bit_xor (column_sum col n w)) (scaled_some (w n) (col n) d))
