-- The error at a seat, where the wrong seats are among those listed.
use Rattle.std.proofs.Common.{◌≡◌, ℕ, suc, ◌+◌, ◌<◌, ◌≤◌, Bool, true, false, cond, eqb, ◌≢◌, List, [], ◌∷◌, length, sym, refl, ap, ◌∙◌, subst, ap₂, add-zero, add-suc, arith}
use Rattle.std.proofs.lemmas.Bool.{eqb-true, eqb-false}
use Rattle.field.specs.Model.{FieldModel}
use Rattle.field.specs.Laws.{FieldLaws}
use Rattle.reed_solomon_theory.specs.Code.{Below, power, check}
use Rattle.reed_solomon_theory.specs.Decode.{reciprocal, kill, shed, shed_all, without, error}
use Rattle.field.proofs.Ring.{prod_zero, one_prod, prod_left_comm, prod_cancel, minus_eq}
use Rattle.field.proofs.Ranges.{range_ext, range_one}
use Rattle.reed_solomon_theory.proofs.Reciprocal.{prod_reciprocal}
use Rattle.reed_solomon_theory.proofs.Vander.{less, check_less}

module _ (φ : FieldModel) (laws : FieldLaws φ) where
  open φ use {order, sum, neg, prod, inv}
  open laws use {more, sum_code, neg_code, prod_code, inv_code, sum_comm, sum_assoc, sum_zero, sum_neg, prod_comm, prod_assoc, prod_one, prod_sum, prod_inv}

  pub check_ext : (n j : ℕ) (e f : ℕ → ℕ) → ((i : ℕ) → i < n → e i ≡ f i) → check φ n e j ≡ check φ n f j
  unfolding check
  check_ext n j e f h = range_ext φ laws n (λ i. prod (power φ i j) (e i)) (λ i. prod (power φ i j) (f i)) (λ i l. ap (prod (power φ i j)) (h i l))

  -- only the first checks count
  pub shed_ext : (ks : List ℕ) (s u : ℕ → ℕ) (j : ℕ) → ((i : ℕ) → i ≤ length ks → s (j + i) ≡ u (j + i)) → shed_all φ ks s j ≡ shed_all φ ks u j
  unfolding shed_all shed
  shed_ext [] s u j h = subst (λ x. s x ≡ u x) (add-zero j) (h 0 (omega arith))
  shed_ext (k ∷ ks) s u j h = shed_ext ks (shed φ k s) (shed φ k u) j (λ i l. ap₂ sum (subst (λ x. s x ≡ u x) (add-suc j i) (h (suc i) (omega arith))) (ap (prod (neg k)) (h i (omega arith))))

  check_shed_one : (n k j : ℕ) (e : ℕ → ℕ) → check φ n (less φ laws k e) j ≡ shed φ k (check φ n e) j
  unfolding shed
  check_shed_one n k j e = check_less φ laws n k j e

  pub check_shed : (n : ℕ) (ks : List ℕ) (e : ℕ → ℕ) → ((i : ℕ) → i < n → e i < order) → (j : ℕ) → check φ n (λ i. prod (kill φ ks i) (e i)) j ≡ shed_all φ ks (check φ n e) j
  unfolding kill shed_all
  check_shed n [] e h j = check_ext n j (λ i. prod 1 (e i)) e (λ i l. one_prod φ laws (e i) (h i l))
  check_shed n (k ∷ ks) e h j =
      check_ext n j (λ i. prod (kill φ (k ∷ ks) i) (e i)) (λ i. prod (kill φ ks i) (less φ laws k e i))
      (λ i l. prod_assoc (sum i (neg k)) (kill φ ks i) (e i) ∙ prod_left_comm φ laws (sum i (neg k)) (kill φ ks i) (e i))
      ∙ check_shed n ks (less φ laws k e) (λ i _. prod_code (sum i (neg k)) (e i)) j
      ∙ shed_ext ks (check φ n (less φ laws k e)) (shed φ k (check φ n e)) j (λ i _. check_shed_one n k (j + i) e)

  -- away from m, what kills with m kills without
  kill_without : (ks : List ℕ) (n m i x : ℕ) → Below n ks → n ≤ order → m < n → i < n → i ≢ m → x < order → prod (kill φ ks i) x ≡ 0 → prod (kill φ (without m ks) i) x ≡ 0
  unfolding kill without Below
  kill_without [] n m i x b hn hm hi d hx h = h
  kill_without (k ∷ ks) n m i x b hn hm hi d hx h = go (eqb k m) refl (kill_without ks n m i (prod (sum i (neg k)) x) b.1 hn hm hi d (prod_code (sum i (neg k)) x) swapped)
    where
      swapped : prod (kill φ ks i) (prod (sum i (neg k)) x) ≡ 0
      swapped = prod_left_comm φ laws (kill φ ks i) (sum i (neg k)) x ∙ sym (prod_assoc (sum i (neg k)) (kill φ ks i) x) ∙ h

      go : (t : Bool) → eqb k m ≡ t → prod (kill φ (without m ks) i) (prod (sum i (neg k)) x) ≡ 0 → prod (kill φ (cond t (without m ks) (k ∷ without m ks)) i) x ≡ 0
      go true q r =
          let e = eqb-true k m q in
          prod_cancel φ laws (sum i (neg k)) (prod (kill φ (without m ks) i) x) (sum_code i (neg k)) (prod_code (kill φ (without m ks) i) x)
          (λ z. d (minus_eq φ laws i k (omega arith) (omega arith) z ∙ e)) (prod_left_comm φ laws (sum i (neg k)) (kill φ (without m ks) i) x ∙ r)
      go false q r = prod_assoc (sum i (neg k)) (kill φ (without m ks) i) x ∙ prod_left_comm φ laws (sum i (neg k)) (kill φ (without m ks) i) x ∙ r

  kill_code : (ks : List ℕ) (i : ℕ) → kill φ ks i < order
  unfolding kill
  kill_code [] i = more
  kill_code (k ∷ ks) i = prod_code (sum i (neg k)) (kill φ ks i)

  kill_not_zero : (ks : List ℕ) (n m : ℕ) → Below n ks → n ≤ order → m < n → kill φ (without m ks) m ≢ 0
  unfolding kill without Below
  kill_not_zero [] n m b hn hm = λ h. omega arith
  kill_not_zero (k ∷ ks) n m b hn hm = go (eqb k m) refl (kill_not_zero ks n m b.1 hn hm)
    where
      go : (t : Bool) → eqb k m ≡ t → kill φ (without m ks) m ≢ 0 → kill φ (cond t (without m ks) (k ∷ without m ks)) m ≢ 0
      go true q r = r
      go false q r = λ z. r (prod_cancel φ laws (sum m (neg k)) (kill φ (without m ks) m) (sum_code m (neg k)) (kill_code (without m ks) m)
          (λ y. eqb-false k m q (sym (minus_eq φ laws m k (omega arith) (let h = b.0 in omega arith) y))) z)

  pub error_right : (n : ℕ) → n ≤ order → (ks : List ℕ) → Below n ks → (e : ℕ → ℕ) → ((i : ℕ) → i < n → e i < order) → ((i : ℕ) → i < n → prod (kill φ ks i) (e i) ≡ 0)
      → (m : ℕ) → m < n → error φ ks (check φ n e) m ≡ e m
  unfolding error check power
  error_right n hn ks b e he hk m hm =
      let rs = without m ks in
      let x = kill φ rs m in
      ap (λ y. prod y (reciprocal φ x)) (sym (check_shed n rs e he 0)
      ∙ range_one φ laws n m (λ i. prod 1 (prod (kill φ rs i) (e i))) hm (prod_code 1 (prod x (e m)))
      (λ i l d. ap (prod 1) (kill_without ks n m i (e i) b hn hm l d (he i l) (hk i l)) ∙ prod_zero φ laws 1)
      ∙ one_prod φ laws (prod x (e m)) (prod_code x (e m)) ∙ prod_comm x (e m))
      ∙ prod_assoc (e m) x (reciprocal φ x) ∙ ap (prod (e m)) (prod_reciprocal φ laws x (kill_code rs m) (kill_not_zero ks n m b hn hm)) ∙ prod_one (e m) (he m hm)
