-- What the folds over a list work out.
use Rattle.std.proofs.Common.{◌≡◌, ℕ, zero, suc, ◌+◌, ◌<◌, ◌≤◌, ◌≢◌, Bool, ◌&&◌, eqb, List, [], ◌∷◌, length, get_or, take, fold, reverse, sym, refl, ap, ◌∙◌, subst, add-one, arith, ap₂}
use native.Mathlib.Decide.{ℕ_discrete}
use denote.Param.Members.{Mut}
use Rattle.std.specs.Fn.{Called}
use Rattle.std.specs.Array.{IsFromFnResultFrom}
use Rattle.std.specs.List.{list_all, range_with_len, zip}
use Rattle.std.proofs.lemmas.List.{take_all}
use Rattle.std.proofs.lemmas.List.Folds.{list_all_more}
use Rattle.std.proofs.lemmas.List.Sums.{fold-append}
use Rattle.std.proofs.lemmas.Grind.{reverse_onto}
use Rattle.field.specs.Model.{FieldModel}
use Rattle.field.specs.Laws.{FieldLaws}
use Rattle.field.proofs.Ring.{zero_code, prod_zero}
use Rattle.reed_solomon_theory.specs.Code.{power}
use Rattle.reed_solomon_theory.specs.Decode.{value, against, passes}
use Rattle.reed_solomon.specs.Words.{at}

passes_upto : (xs : List ℕ) (k : ℕ) → k ≤ length xs → list_all (λ x. eqb x 0) (take k xs) ≡ passes k (at xs)
passes_upto xs zero h = refl
passes_upto xs (suc k) h =
    ap (λ i. list_all (λ x. eqb x 0) (take i xs)) (sym (add-one k)) ∙ list_all_more (λ x. eqb x 0) xs k 0 (omega arith)
    ∙ ap (λ (b : Bool). b && eqb (get_or xs k 0) 0) (passes_upto xs k (omega arith))

-- all are 0
pub passes_all : (xs : List ℕ) → list_all (λ x. eqb x 0) xs ≡ passes (length xs) (at xs)
passes_all xs = ap (list_all (λ x. eqb x 0)) (sym (take_all (length xs) xs (omega arith))) ∙ passes_upto xs (length xs) (omega arith)

-- what a closure makes of each index, where it stays as it is
pub made_by : {F : Type 0} (g : Mut F (ℕ × Unit {0}) ℕ) (f : F) (h : ℕ → ℕ) → ((i y : ℕ) (q : F) → Called g f (i, tt) y q → (q ≡ f) × (y ≡ h i))
    → (ys : List ℕ) (i n : ℕ) → IsFromFnResultFrom g f ys i n → (m : ℕ) → i ≤ m → m < i + n → get_or ys m 0 ≡ h m
made_by g f h k ys i zero r m a b = absurd (omega arith)
made_by g f h k ys i (suc n) (q, y, e, call, rest) m a b =
    let said = k i y q call in
    here said.1 (λ d. made_by g f h k ys (i + 1) n (subst (λ s. IsFromFnResultFrom g s ys (i + 1) n) said.0 rest) m (omega arith) (omega arith)) (ℕ_discrete m i)
  where
    here : y ≡ h i → (m ≢ i → get_or ys m 0 ≡ h m) → Dec (m ≡ i) → get_or ys m 0 ≡ h m
    here is later (yes p) = ap (λ j. get_or ys j 0) p ∙ e.1 0 ∙ is ∙ ap h (sym p)
    here is later (no d) = later d

module _ (φ : FieldModel) where
  power_on : (x k a n : ℕ) → fold (λ p _. φ.prod x p) (power φ x k) (range_with_len a n) ≡ power φ x (k + n)
  unfolding power
  power_on x k a zero = ap (power φ x) (omega arith)
  power_on x k a (suc n) = power_on x (suc k) (a + 1) n ∙ ap (power φ x) (omega arith)

  -- a product repeated is a power
  pub power_is : (x n : ℕ) → fold (λ p _. φ.prod x p) 1 (range_with_len 0 n) ≡ power φ x n
  unfolding power
  power_is x n = power_on x 0 0 n ∙ ap (power φ x) (omega arith)

  -- Horner's rule is the value
  pub value_is : (z : ℕ) (cs : List ℕ) → fold (λ v c. φ.sum c (φ.prod z v)) 0 (reverse cs) ≡ value φ cs z
  unfolding value
  value_is z [] = refl
  value_is z (c ∷ cs) =
      ap (fold (λ v c. φ.sum c (φ.prod z v)) 0) (reverse_onto cs c []) ∙ fold-append (λ v c. φ.sum c (φ.prod z v)) 0 (reverse cs) (c ∷ [])
      ∙ ap (λ v. φ.sum c (φ.prod z v)) (value_is z cs)

module _ (φ : FieldModel) (laws : FieldLaws φ) where
  against_code : (cs : List ℕ) (s : ℕ → ℕ) (j : ℕ) → against φ cs s j < φ.order
  unfolding against
  against_code [] s j = zero_code φ laws
  against_code (c ∷ cs) s j = laws.sum_code (φ.prod c (s j)) (against φ cs s (suc j))

  against_zeros : (cs : List ℕ) (j : ℕ) → against φ cs (at []) j ≡ 0
  unfolding against
  against_zeros [] j = refl
  against_zeros (c ∷ cs) j = ap₂ φ.sum (prod_zero φ laws c) (against_zeros cs (suc j)) ∙ laws.sum_zero 0 (zero_code φ laws)

  against_next : (cs s : List ℕ) (x j : ℕ) → against φ cs (at (x ∷ s)) (suc j) ≡ against φ cs (at s) j
  unfolding against
  against_next [] s x j = refl
  against_next (c ∷ cs) s x j = ap (φ.sum (φ.prod c (at s j))) (against_next cs s x (suc j))

  against_on : (cs s : List ℕ) (a : ℕ) → a < φ.order → fold (λ v (p : ℕ × ℕ). φ.sum v (φ.prod p.0 p.1)) a (zip cs s) ≡ φ.sum a (against φ cs (at s) 0)
  unfolding against
  against_on [] s a h = sym (laws.sum_zero a h)
  against_on (c ∷ cs) [] a h = sym (ap (φ.sum a) (against_zeros (c ∷ cs) 0) ∙ laws.sum_zero a h)
  against_on (c ∷ cs) (x ∷ s) a h =
      against_on cs s (φ.sum a (φ.prod c x)) (laws.sum_code a (φ.prod c x)) ∙ laws.sum_assoc a (φ.prod c x) (against φ cs (at s) 0)
      ∙ ap (λ t. φ.sum a (φ.sum (φ.prod c x) t)) (sym (against_next cs s x 0))

  -- the sum of the products is the polynomial against the checks
  pub against_is : (cs s : List ℕ) → fold (λ v (p : ℕ × ℕ). φ.sum v (φ.prod p.0 p.1)) 0 (zip cs s) ≡ against φ cs (at s) 0
  against_is cs s =
      against_on cs s 0 (zero_code φ laws) ∙ laws.sum_comm 0 (against φ cs (at s) 0) ∙ laws.sum_zero (against φ cs (at s) 0) (against_code cs (at s) 0)

  -- a polynomial of at most n coefficients reads n checks
  pub against_same : (cs : List ℕ) (s u : ℕ → ℕ) (i j n : ℕ) → length cs ≤ n → ((k : ℕ) → k < n → s (i + k) ≡ u (j + k)) → against φ cs s i ≡ against φ cs u j
  unfolding against
  against_same [] s u i j n h e = refl
  against_same (c ∷ cs) s u i j zero h e = absurd (omega arith)
  against_same (c ∷ cs) s u i j (suc n) h e =
      ap₂ (λ x t. φ.sum (φ.prod c x) t) (ap s (omega arith) ∙ e 0 (omega arith) ∙ ap u (omega arith))
      (against_same cs s u (suc i) (suc j) n (omega arith) (λ k l. ap s (omega arith) ∙ e (suc k) (omega arith) ∙ ap u (omega arith)))
