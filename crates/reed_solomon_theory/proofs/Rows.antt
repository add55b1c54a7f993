-- Rows of the elimination: one cleared by another.
use Rattle.std.proofs.Common.{◌≡◌, ℕ, zero, suc, ◌<◌, ◌≢◌, List, [], ◌∷◌, length, sym, refl, ap, ◌∙◌, ap₂, arith}
use native.Mathlib.Nat.{suc_inj}
use Rattle.field.specs.Model.{FieldModel}
use Rattle.field.specs.Laws.{FieldLaws}
use Rattle.reed_solomon_theory.specs.Decode.{reciprocal, against, Zeros, Monic}
use Rattle.reed_solomon_theory.specs.Elimination.{plus, cleared, zeros, unit}
use Rattle.field.proofs.Ring.{zero_code, prod_zero, sum_left_comm, sum_prod, minus_one}
use Rattle.reed_solomon_theory.proofs.Reciprocal.{prod_reciprocal}

module _ (φ : FieldModel) (laws : FieldLaws φ) where
  open φ use {order, sum, neg, prod, inv}
  open laws use {more, sum_code, neg_code, prod_code, inv_code, sum_comm, sum_assoc, sum_zero, sum_neg, prod_comm, prod_assoc, prod_one, prod_sum, prod_inv}

  against_code : (xs : List ℕ) (s : ℕ → ℕ) (j : ℕ) → against φ xs s j < order
  unfolding against
  against_code [] s j = zero_code φ laws
  against_code (x ∷ xs) s j = sum_code (prod x (s j)) (against φ xs s (suc j))

  against_plus : (c : ℕ) (xs ys : List ℕ) (s : ℕ → ℕ) (j : ℕ) → length xs ≡ length ys → against φ (plus φ c xs ys) s j ≡ sum (against φ ys s j) (prod c (against φ xs s j))
  unfolding against plus
  against_plus c [] [] s j h = sym (ap (sum 0) (prod_zero φ laws c) ∙ sum_zero 0 (zero_code φ laws))
  against_plus c [] (y ∷ ys) s j h = absurd (omega arith)
  against_plus c (x ∷ xs) [] s j h = absurd (omega arith)
  against_plus c (x ∷ xs) (y ∷ ys) s j h =
      let a = against φ ys s (suc j) in
      let b = against φ xs s (suc j) in
      ap₂ sum (sum_prod φ laws y (prod c x) (s j) ∙ ap (sum (prod y (s j))) (prod_assoc c x (s j))) (against_plus c xs ys s (suc j) (suc_inj h))
      ∙ sum_assoc (prod y (s j)) (prod c (prod x (s j))) (sum a (prod c b))
      ∙ ap (sum (prod y (s j))) (sum_left_comm φ laws (prod c (prod x (s j))) a (prod c b) ∙ ap (sum a) (sym (prod_sum c (prod x (s j)) b)))
      ∙ sym (sum_assoc (prod y (s j)) a (prod c (sum (prod x (s j)) b)))

  pub plus_length : (c : ℕ) (xs ys : List ℕ) → length xs ≡ length ys → length (plus φ c xs ys) ≡ length ys
  unfolding plus
  plus_length c [] ys h = refl
  plus_length c (x ∷ xs) [] h = refl
  plus_length c (x ∷ xs) (y ∷ ys) h = ap suc (plus_length c xs ys (suc_inj h))

  plus_zeros : (c : ℕ) (xs ys : List ℕ) → Zeros xs → Zeros ys → Zeros (plus φ c xs ys)
  unfolding plus Zeros
  plus_zeros c [] ys zx zy = zy
  plus_zeros c (x ∷ xs) [] zx zy = tt
  plus_zeros c (x ∷ xs) (y ∷ ys) zx zy = (ap₂ sum zy.0 (ap (prod c) zx.0 ∙ prod_zero φ laws c) ∙ sum_zero 0 (zero_code φ laws), plus_zeros c xs ys zx.1 zy.1)

  -- a row of lower degree leaves the leader
  plus_monic : (c k l : ℕ) (xs ys : List ℕ) → length xs ≡ length ys → k < l → Monic k xs → Monic l ys → Monic l (plus φ c xs ys)
  unfolding plus Monic Zeros
  plus_monic c k l [] ys e h mx my = absurd mx
  plus_monic c k l (x ∷ xs) [] e h mx my = absurd my
  plus_monic c k zero (x ∷ xs) (y ∷ ys) e h mx my = absurd (omega arith)
  plus_monic c zero (suc l) (x ∷ xs) (y ∷ ys) e h mx my = low l xs ys (suc_inj e) mx.1 my
    where
      low : (l : ℕ) (xs ys : List ℕ) → length xs ≡ length ys → Zeros xs → Monic l ys → Monic l (plus φ c xs ys)
      low l [] ys e z m = m
      low l (x ∷ xs) [] e z m = absurd m
      low zero (x ∷ xs) (y ∷ ys) e z m = (ap₂ sum m.0 (ap (prod c) z.0 ∙ prod_zero φ laws c) ∙ sum_zero 1 more, plus_zeros c xs ys z.1 m.1)
      low (suc l) (x ∷ xs) (y ∷ ys) e z m = low l xs ys (suc_inj e) z.1 m
  plus_monic c (suc k) (suc l) (x ∷ xs) (y ∷ ys) e h mx my = plus_monic c k l xs ys (suc_inj e) (omega arith) mx my

  pub cleared_null : (s : ℕ → ℕ) (j : ℕ) (xs ys : List ℕ) → length xs ≡ length ys → against φ xs s j ≢ 0 → against φ (cleared φ s j (against φ xs s j) xs ys) s j ≡ 0
  unfolding cleared
  cleared_null s j xs ys e h =
      let v = against φ xs s j in
      let u = against φ ys s j in
      let q = prod u (reciprocal φ v) in
      against_plus (neg q) xs ys s j e
      ∙ ap (sum u) (ap (λ x. prod x v) (minus_one φ laws q) ∙ prod_assoc (neg 1) q v
      ∙ ap (prod (neg 1)) (prod_assoc u (reciprocal φ v) v ∙ ap (prod u) (prod_comm (reciprocal φ v) v ∙ prod_reciprocal φ laws v (against_code xs s j) h) ∙ prod_one u (against_code ys s j)) ∙ sym (minus_one φ laws u))
      ∙ sum_neg u

  pub cleared_kept : (s : ℕ → ℕ) (j i v : ℕ) (xs ys : List ℕ) → length xs ≡ length ys → against φ xs s i ≡ 0 → against φ ys s i ≡ 0 → against φ (cleared φ s j v xs ys) s i ≡ 0
  unfolding cleared
  cleared_kept s j i v xs ys e hx hy =
      let c = neg (prod (against φ ys s j) (reciprocal φ v)) in
      against_plus c xs ys s i e ∙ ap₂ sum hy (ap (prod c) hx ∙ prod_zero φ laws c) ∙ sum_zero 0 (zero_code φ laws)

  pub cleared_monic : (s : ℕ → ℕ) (j v k l : ℕ) (xs ys : List ℕ) → length xs ≡ length ys → k < l → Monic k xs → Monic l ys → Monic l (cleared φ s j v xs ys)
  unfolding cleared
  cleared_monic s j v k l xs ys e h mx my = plus_monic (neg (prod (against φ ys s j) (reciprocal φ v))) k l xs ys e h mx my

  pub cleared_length : (s : ℕ → ℕ) (j v : ℕ) (xs ys : List ℕ) → length xs ≡ length ys → length (cleared φ s j v xs ys) ≡ length ys
  unfolding cleared
  cleared_length s j v xs ys e = plus_length (neg (prod (against φ ys s j) (reciprocal φ v))) xs ys e

  zeros_zeros : (w : ℕ) → Zeros (zeros w)
  unfolding zeros Zeros
  zeros_zeros zero = tt
  zeros_zeros (suc w) = (refl, zeros_zeros w)

  zeros_length : (w : ℕ) → length (zeros w) ≡ w
  unfolding zeros
  zeros_length zero = refl
  zeros_length (suc w) = ap suc (zeros_length w)

  pub unit_monic : (w l : ℕ) → l < w → Monic l (unit w l)
  unfolding unit Monic
  unit_monic zero l h = absurd (omega arith)
  unit_monic (suc w) zero h = (refl, zeros_zeros w)
  unit_monic (suc w) (suc l) h = unit_monic w l (omega arith)

  pub unit_length : (w l : ℕ) → length (unit w l) ≡ w
  unfolding unit
  unit_length zero l = refl
  unit_length (suc w) zero = ap suc (zeros_length w)
  unit_length (suc w) (suc l) = ap suc (unit_length w l)
