-- Sums over a range.
use Rattle.std.proofs.Common.{◌≡◌, ℕ, zero, suc, ◌<◌, ◌≢◌, sym, refl, ap, ◌∙◌, ap₂, arith}
use native.Mathlib.Decide.{ℕ_discrete}
use Rattle.field.specs.Model.{FieldModel}
use Rattle.field.specs.Laws.{FieldLaws}
use Rattle.field.specs.Sums.{field_sum}
use Rattle.field.proofs.Ring.{zero_code, zero_sum, prod_zero, sum_cancel}
use Rattle.field.proofs.Differences.{sum_cancel_right, sum_swap}

module _ (φ : FieldModel) (laws : FieldLaws φ) where
  open φ use {order, sum, prod}
  open laws use {sum_code, sum_comm, sum_assoc, sum_zero, prod_sum}

  pub range_ext : (n : ℕ) (f g : ℕ → ℕ) → ((i : ℕ) → i < n → f i ≡ g i) → field_sum φ n f ≡ field_sum φ n g
  unfolding field_sum
  range_ext zero f g h = refl
  range_ext (suc n) f g h = ap₂ sum (range_ext n f g (λ i l. h i (omega arith))) (h n (omega arith))

  pub range_zero : (n : ℕ) (f : ℕ → ℕ) → ((i : ℕ) → i < n → f i ≡ 0) → field_sum φ n f ≡ 0
  unfolding field_sum
  range_zero zero f h = refl
  range_zero (suc n) f h = ap₂ sum (range_zero n f (λ i l. h i (omega arith))) (h n (omega arith)) ∙ sum_zero 0 (zero_code φ laws)

  pub range_code : (n : ℕ) (f : ℕ → ℕ) → field_sum φ n f < order
  unfolding field_sum
  range_code zero f = zero_code φ laws
  range_code (suc n) f = sum_code (field_sum φ n f) (f n)

  pub range_sum : (n : ℕ) (f g : ℕ → ℕ) → field_sum φ n (λ i. sum (f i) (g i)) ≡ sum (field_sum φ n f) (field_sum φ n g)
  unfolding field_sum
  range_sum zero f g = sym (sum_zero 0 (zero_code φ laws))
  range_sum (suc n) f g =
      ap (λ x. sum x (sum (f n) (g n))) (range_sum n f g) ∙ sum_swap φ laws (field_sum φ n f) (field_sum φ n g) (f n) (g n)

  pub range_prod : (n c : ℕ) (f : ℕ → ℕ) → field_sum φ n (λ i. prod c (f i)) ≡ prod c (field_sum φ n f)
  unfolding field_sum
  range_prod zero c f = sym (prod_zero φ laws c)
  range_prod (suc n) c f = ap (λ x. sum x (prod c (f n))) (range_prod n c f) ∙ sym (prod_sum c (field_sum φ n f) (f n))

  -- all but one are 0
  pub range_one : (n k : ℕ) (f : ℕ → ℕ) → k < n → f k < order → ((i : ℕ) → i < n → i ≢ k → f i ≡ 0) → field_sum φ n f ≡ f k
  unfolding field_sum
  range_one zero k f l hk h = absurd (omega arith)
  range_one (suc n) k f l hk h = elim (ℕ_discrete n k) [
    | yes e ↦ ap₂ sum (range_zero n f (λ i j. h i (omega arith) (omega arith))) (ap f e) ∙ zero_sum φ laws (f k) hk
    | no d ↦ ap₂ sum (range_one n k f (omega arith) hk (λ i j. h i (omega arith))) (h n (omega arith) d) ∙ sum_zero (f k) hk
  ]

  -- two sums that are equal, and equal at all places but one, are equal there
  pub range_but : (n k : ℕ) (f g : ℕ → ℕ) → k < n → ((i : ℕ) → i < n → f i < order) → ((i : ℕ) → i < n → g i < order)
      → ((i : ℕ) → i < n → i ≢ k → f i ≡ g i) → field_sum φ n f ≡ field_sum φ n g → f k ≡ g k
  unfolding field_sum
  range_but zero k f g l hf hg h e = absurd (omega arith)
  range_but (suc n) k f g l hf hg h e = elim (ℕ_discrete n k) [
    | yes s ↦
        let p = range_ext n f g (λ i j. h i (omega arith) (omega arith)) in
        ap f (sym s) ∙ sum_cancel φ laws (field_sum φ n f) (f n) (g n) (hf n (omega arith)) (hg n (omega arith)) (e ∙ ap (λ x. sum x (g n)) (sym p)) ∙ ap g s
    | no d ↦
        range_but n k f g (omega arith) (λ i j. hf i (omega arith)) (λ i j. hg i (omega arith)) (λ i j. h i (omega arith))
        (sum_cancel_right φ laws (f n) (field_sum φ n f) (field_sum φ n g) (range_code n f) (range_code n g)
        (e ∙ ap (sum (field_sum φ n g)) (sym (h n (omega arith) d))))
  ]

  -- one place more
  pub range_more : (n k : ℕ) (f g : ℕ → ℕ) → k < n → f k ≡ 0 → g k < order → ((i : ℕ) → i < n → i ≢ k → g i ≡ f i) → field_sum φ n g ≡ sum (field_sum φ n f) (g k)
  unfolding field_sum
  range_more zero k f g l z hg h = absurd (omega arith)
  range_more (suc n) k f g l z hg h = elim (ℕ_discrete n k) [
    | yes s ↦
        ap₂ sum (range_ext n g f (λ i j. h i (omega arith) (omega arith)) ∙ sym (sum_zero (field_sum φ n f) (range_code n f)) ∙ ap (sum (field_sum φ n f)) (sym (ap f s ∙ z))) (ap g s)
    | no d ↦
        ap₂ sum (range_more n k f g (omega arith) z hg (λ i j. h i (omega arith))) (h n (omega arith) d)
        ∙ sum_assoc (field_sum φ n f) (g k) (f n) ∙ ap (sum (field_sum φ n f)) (sum_comm (g k) (f n)) ∙ sym (sum_assoc (field_sum φ n f) (f n) (g k))
  ]
