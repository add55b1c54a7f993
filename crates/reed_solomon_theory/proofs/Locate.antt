-- The error's seats are roots of any polynomial that the checks do not tell from 0.
use Rattle.std.proofs.Common.{◌≡◌, ℕ, suc, ◌<◌, ◌≤◌, List, [], ◌∷◌, length, sym, ap, ◌∙◌, ap₂}
use Rattle.field.specs.Model.{FieldModel}
use Rattle.field.specs.Laws.{FieldLaws}
use Rattle.reed_solomon_theory.specs.Code.{Below, power, check}
use Rattle.reed_solomon_theory.specs.Decode.{kill, value, against}
use Rattle.field.proofs.Ring.{zero_prod, prod_zero, prod_left_comm, sum_prod}
use Rattle.field.proofs.Ranges.{range_ext, range_zero, range_sum, range_prod}
use Rattle.reed_solomon_theory.proofs.Vander.{vander}

module _ (φ : FieldModel) (laws : FieldLaws φ) where
  open φ use {order, sum, neg, prod, inv}
  open laws use {more, sum_code, neg_code, prod_code, inv_code, sum_comm, sum_assoc, sum_zero, sum_neg, prod_comm, prod_assoc, prod_one, prod_sum, prod_inv}

  -- the word times the polynomial's values
  abbrev pub times : List ℕ → (ℕ → ℕ) → ℕ → ℕ
  times cs e i = prod (value φ cs i) (e i)

  pub check_times : (n : ℕ) (cs : List ℕ) (e : ℕ → ℕ) (j : ℕ) → check φ n (times cs e) j ≡ against φ cs (check φ n e) j
  unfolding check against value power
  check_times n [] e j = range_zero φ laws n (λ i. prod (power φ i j) (times [] e i)) (λ i _. ap (prod (power φ i j)) (zero_prod φ laws (e i)) ∙ prod_zero φ laws (power φ i j))
  check_times n (c ∷ cs) e j =
      range_ext φ laws n (λ i. prod (power φ i j) (times (c ∷ cs) e i)) (λ i. sum (prod c (prod (power φ i j) (e i))) (prod (power φ i (suc j)) (times cs e i)))
      (λ i _. ap (prod (power φ i j)) (sum_prod φ laws c (prod i (value φ cs i)) (e i)) ∙ prod_sum (power φ i j) (prod c (e i)) (prod (prod i (value φ cs i)) (e i))
      ∙ ap₂ sum (prod_left_comm φ laws (power φ i j) c (e i))
      (ap (prod (power φ i j)) (prod_assoc i (value φ cs i) (e i)) ∙ prod_left_comm φ laws (power φ i j) i (times cs e i) ∙ sym (prod_assoc i (power φ i j) (times cs e i))))
      ∙ range_sum φ laws n (λ i. prod c (prod (power φ i j) (e i))) (λ i. prod (power φ i (suc j)) (times cs e i))
      ∙ ap₂ sum (range_prod φ laws n c (λ i. prod (power φ i j) (e i))) (check_times n cs e (suc j))

  pub located : (n : ℕ) → n ≤ order → (ks : List ℕ) → Below n ks → (e : ℕ → ℕ) → ((i : ℕ) → i < n → prod (kill φ ks i) (e i) ≡ 0)
      → (cs : List ℕ) → ((j : ℕ) → j < length ks → against φ cs (check φ n e) j ≡ 0) → (i : ℕ) → i < n → prod (value φ cs i) (e i) ≡ 0
  located n hn ks b e hk cs ha =
      vander φ laws n hn ks b (times cs e) (λ i _. prod_code (value φ cs i) (e i)) (λ j l. check_times n cs e j ∙ ha j l)
      (λ i l. prod_left_comm φ laws (kill φ ks i) (value φ cs i) (e i) ∙ ap (prod (value φ cs i)) (hk i l) ∙ prod_zero φ laws (value φ cs i))
