-- Checks that vanish leave no error: the law of Vandermonde.
use Rattle.std.proofs.Common.{◌≡◌, ℕ, suc, ◌<◌, ◌≤◌, ◌≢◌, List, [], ◌∷◌, length, sym, ap, ◌∙◌, ap₂, arith}
use native.Mathlib.Decide.{ℕ_discrete}
use Rattle.field.specs.Model.{FieldModel}
use Rattle.field.specs.Laws.{FieldLaws}
use Rattle.reed_solomon_theory.specs.Code.{Below, power, check}
use Rattle.reed_solomon_theory.specs.Decode.{kill}
use Rattle.field.proofs.Ring.{zero_code, one_prod, prod_zero, prod_left_comm, sum_prod, prod_cancel, minus_eq}
use Rattle.field.proofs.Ranges.{range_ext, range_code, range_sum, range_prod, range_one}

module _ (φ : FieldModel) (laws : FieldLaws φ) where
  open φ use {order, sum, neg, prod, inv}
  open laws use {more, sum_code, neg_code, prod_code, inv_code, sum_comm, sum_assoc, sum_zero, sum_neg, prod_comm, prod_assoc, prod_one, prod_sum, prod_inv}

  -- the word with each symbol times its locator's difference from k
  abbrev pub less : ℕ → (ℕ → ℕ) → ℕ → ℕ
  less k e i = prod (sum i (neg k)) (e i)

  pub check_less : (n k j : ℕ) (e : ℕ → ℕ) → check φ n (less k e) j ≡ sum (check φ n e (suc j)) (prod (neg k) (check φ n e j))
  unfolding check power
  check_less n k j e =
      range_ext φ laws n (λ i. prod (power φ i j) (less k e i)) (λ i. sum (prod (power φ i (suc j)) (e i)) (prod (neg k) (prod (power φ i j) (e i))))
      (λ i _. ap (prod (power φ i j)) (sum_prod φ laws i (neg k) (e i)) ∙ prod_sum (power φ i j) (prod i (e i)) (prod (neg k) (e i))
      ∙ ap₂ sum (prod_left_comm φ laws (power φ i j) i (e i) ∙ sym (prod_assoc i (power φ i j) (e i))) (prod_left_comm φ laws (power φ i j) (neg k) (e i)))
      ∙ range_sum φ laws n (λ i. prod (power φ i (suc j)) (e i)) (λ i. prod (neg k) (prod (power φ i j) (e i)))
      ∙ ap (sum (check φ n e (suc j))) (range_prod φ laws n (neg k) (λ i. prod (power φ i j) (e i)))

  module _ (n : ℕ) (hn : n ≤ order) (k : ℕ) (hk : k < n) (e : ℕ → ℕ) (he : (i : ℕ) → i < n → e i < order) (rest : (i : ℕ) → i < n → less k e i ≡ 0) where
    other : (i : ℕ) → i < n → i ≢ k → e i ≡ 0
    other i l d = prod_cancel φ laws (sum i (neg k)) (e i) (sum_code i (neg k)) (he i l) (λ z. d (minus_eq φ laws i k (omega arith) (omega arith) z)) (rest i l)

    first : check φ n e 0 ≡ e k
    unfolding check power
    first = range_one φ laws n k (λ i. prod 1 (e i)) hk (prod_code 1 (e k)) (λ i l d. ap (prod 1) (other i l d) ∙ prod_zero φ laws 1) ∙ one_prod φ laws (e k) (he k hk)

    last : check φ n e 0 ≡ 0 → (i : ℕ) → i < n → Dec (i ≡ k) → e i ≡ 0
    last h i l (yes p) = ap e p ∙ sym first ∙ h
    last h i l (no d) = other i l d

  pub vander : (n : ℕ) → n ≤ order → (ks : List ℕ) → Below n ks → (e : ℕ → ℕ) → ((i : ℕ) → i < n → e i < order)
      → ((j : ℕ) → j < length ks → check φ n e j ≡ 0) → ((i : ℕ) → i < n → prod (kill φ ks i) (e i) ≡ 0) → (i : ℕ) → i < n → e i ≡ 0
  unfolding kill Below
  vander n hn [] b e he hs hk i l = sym (one_prod φ laws (e i) (he i l)) ∙ hk i l
  vander n hn (k ∷ ks) b e he hs hk i l =
      last n hn k b.0 e he
      (vander n hn ks b.1 (less k e) (λ i _. prod_code (sum i (neg k)) (e i))
      (λ j lj. check_less n k j e ∙ ap₂ sum (hs (suc j) (omega arith)) (ap (prod (neg k)) (hs j (omega arith)) ∙ prod_zero φ laws (neg k)) ∙ sum_zero 0 (zero_code φ laws))
      (λ i l. prod_left_comm φ laws (kill φ ks i) (sum i (neg k)) (e i) ∙ sym (prod_assoc (sum i (neg k)) (kill φ ks i) (e i)) ∙ hk i l))
      (hs 0 (omega arith)) i l (ℕ_discrete i k)

  pub check_code : (n : ℕ) (w : ℕ → ℕ) (j : ℕ) → check φ n w j < order
  unfolding check
  check_code n w j = range_code φ laws n (λ i. prod (power φ i j) (w i))
