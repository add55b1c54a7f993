-- The difference of two words, and the distance law.
use Rattle.std.proofs.Common.{◌≡◌, ℕ, false, not, eqb, sym, ap, ◌∙◌, ap₂, arith}
use Rattle.std.proofs.lemmas.Bool.{not-false, eqb-true}
use Rattle.field.specs.Model.{FieldModel}
use Rattle.field.specs.Laws.{FieldLaws}
use Rattle.reed_solomon_theory.specs.Code.{power, check, seats, differing, Distance}
use Rattle.field.proofs.Ring.{zero_code, prod_left_comm, minus_eq, minus_one, prod_zero}
use Rattle.field.proofs.Ranges.{range_ext, range_sum, range_prod}
use Rattle.reed_solomon_theory.proofs.Vander.{vander}
use Rattle.reed_solomon_theory.proofs.Seats.{seats_below, kill_word}

module _ (φ : FieldModel) (laws : FieldLaws φ) where
  open φ use {order, sum, neg, prod}
  open laws use {sum_neg, sum_code, sum_zero, prod_sum, prod_assoc}

  -- u less v, seat by seat
  abbrev pub word_minus : (ℕ → ℕ) → (ℕ → ℕ) → ℕ → ℕ
  word_minus u v i = sum (u i) (neg (v i))

  pub check_minus : (n j : ℕ) (u v : ℕ → ℕ) → check φ n (word_minus u v) j ≡ sum (check φ n u j) (prod (neg 1) (check φ n v j))
  unfolding check
  check_minus n j u v =
      range_ext φ laws n (λ i. prod (power φ i j) (word_minus u v i)) (λ i. sum (prod (power φ i j) (u i)) (prod (neg 1) (prod (power φ i j) (v i))))
      (λ i _. ap (λ x. prod (power φ i j) (sum (u i) x)) (minus_one φ laws (v i)) ∙ prod_sum (power φ i j) (u i) (prod (neg 1) (v i))
      ∙ ap (sum (prod (power φ i j) (u i))) (prod_left_comm φ laws (power φ i j) (neg 1) (v i)))
      ∙ range_sum φ laws n (λ i. prod (power φ i j) (u i)) (λ i. prod (neg 1) (prod (power φ i j) (v i)))
      ∙ ap (sum (check φ n u j)) (range_prod φ laws n (neg 1) (λ i. prod (power φ i j) (v i)))

  pub minus_same : (u v : ℕ → ℕ) (i : ℕ) → not (eqb (u i) (v i)) ≡ false → word_minus u v i ≡ 0
  minus_same u v i h = ap (λ x. sum (u i) (neg x)) (sym (eqb-true (u i) (v i) (not-false (eqb (u i) (v i)) h))) ∙ sum_neg (u i)

pub distance : Distance
unfolding differing
distance φ laws n r hn u v cu cv h i l =
    minus_eq φ laws (u i) (v i) (cu.code i l) (cv.code i l)
    (vander φ laws n hn (seats n (λ i. not (eqb (u i) (v i)))) (seats_below n (λ i. not (eqb (u i) (v i)))) (word_minus φ laws u v) (λ i _. laws.sum_code (u i) (φ.neg (v i)))
    (λ j lj. check_minus φ laws n j u v ∙ ap₂ φ.sum (cu.pass j (omega arith)) (ap (φ.prod (φ.neg 1)) (cv.pass j (omega arith)) ∙ prod_zero φ laws (φ.neg 1)) ∙ laws.sum_zero 0 (zero_code φ laws))
    (kill_word φ laws n (λ i. not (eqb (u i) (v i))) (word_minus φ laws u v) (λ i _ q. minus_same φ laws u v i q)) i l)
