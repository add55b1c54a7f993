-- One symbol more is added to the checks; one check more is 0.
use Rattle.std.proofs.Common.{◌≡◌, ℕ, zero, suc, ◌+◌, ◌<◌, Bool, true, false, eqb, List, [], ◌∷◌, ◌++◌, length, Some, None, Option, sym, refl, ap, ◌∙◌, subst, ap₂, add-one, arith, length-append}
use native.Mathlib.Decide.{ℕ_discrete}
use Rattle.std.proofs.Math.ListN.{get_or-append}
use Rattle.std.proofs.Math.Seq.{get_or-append_seam}
use Rattle.reed_solomon.specs.Words.{at}
use Rattle.std.specs.Option.{unwrap_or}
use Rattle.std.proofs.lemmas.Bool.{eq-eqb, eqb-true, and_from}
use Rattle.field.specs.Model.{FieldModel, inverse}
use Rattle.field.specs.Laws.{FieldLaws}
use Rattle.field.specs.Sums.{field_sum}
use Rattle.field.proofs.Ring.{one_prod}
use Rattle.ranges.proofs.Tests.{every_at}
use Rattle.reed_solomon_theory.specs.Code.{power, check}
use Rattle.reed_solomon_theory.specs.Decode.{or_zero, reciprocal, added, passes}

module _ (φ : FieldModel) (laws : FieldLaws φ) where
  pub reciprocal_of : (a : ℕ) (o : Option ℕ) → o ≡ inverse φ a → unwrap_or o 0 ≡ reciprocal φ a
  unfolding reciprocal
  reciprocal_of a o e = go o ∙ ap or_zero e
    where
      go : (o : Option ℕ) → unwrap_or o 0 ≡ or_zero o
      go (Some x) = refl
      go None = refl

  pub term_none : (x d : ℕ) → d < φ.order → d ≡ φ.prod (power φ x 0) d
  unfolding power
  term_none x d h = sym (one_prod φ laws d h)

  pub term_next : (x d j a b : ℕ) → a ≡ φ.prod (power φ x j) d → b ≡ φ.prod x a → b ≡ φ.prod (power φ x (j + 1)) d
  unfolding power
  term_next x d j a b ea eb = eb ∙ ap (φ.prod x) ea ∙ sym (laws.prod_assoc x (power φ x j) d) ∙ ap (λ k. φ.prod (power φ x k) d) (sym (add-one j))

  pub added_is : (m d j a b v : ℕ) (s : ℕ → ℕ) → a ≡ s j → b ≡ φ.prod (power φ m j) d → v ≡ φ.sum a b → v ≡ added φ m d s j
  unfolding added
  added_is m d j a b v s ea eb ev = ev ∙ ap₂ φ.sum ea eb

  pub added_same : (m d j : ℕ) (s u : ℕ → ℕ) → s j ≡ u j → added φ m d s j ≡ added φ m d u j
  unfolding added
  added_same m d j s u e = ap (λ x. φ.sum x (φ.prod (power φ m j) d)) e

  -- the symbol is added to the last check too
  pub added_last : (m d : ℕ) (before xs sums : List ℕ) (last y : ℕ) → sums ≡ before ++ last ∷ [] → length xs ≡ length before
      → ((j : ℕ) → j < length before → at xs j ≡ added φ m d (at before) j) → y ≡ φ.sum last (φ.prod (power φ m (length before)) d)
      → (j : ℕ) → j < length sums → at (xs ++ y ∷ []) j ≡ added φ m d (at sums) j
  unfolding added
  added_last m d before xs sums last y e l low q j h =
      subst (λ s. at (xs ++ y ∷ []) j ≡ φ.sum (at s j) (φ.prod (power φ m j) d)) (sym e) (go (ℕ_discrete j (length before)))
    where
      go : Dec (j ≡ length before) → at (xs ++ y ∷ []) j ≡ φ.sum (at (before ++ last ∷ []) j) (φ.prod (power φ m j) d)
      go (yes p) =
          ap (at (xs ++ y ∷ [])) (p ∙ sym l) ∙ get_or-append_seam xs y [] 0 ∙ q
          ∙ sym (ap₂ φ.sum (ap (at (before ++ last ∷ [])) p ∙ get_or-append_seam before last [] 0) (ap (λ i. φ.prod (power φ m i) d) p))
      go (no n) =
          let inside : j < length before = omega (arith, ap length e, length-append before (last ∷ [])) in
          get_or-append xs (y ∷ []) 0 j (omega arith) ∙ low j inside ∙ added_same m d j (at before) (at (before ++ last ∷ [])) (sym (get_or-append before (last ∷ []) 0 j inside))

  pub check_none : (w : ℕ → ℕ) (j : ℕ) → 0 ≡ check φ 0 w j
  unfolding check field_sum
  check_none w j = refl

  pub check_more : (n j : ℕ) (s w : ℕ → ℕ) → s j ≡ check φ n w j → added φ n (w n) s j ≡ check φ (n + 1) w j
  unfolding added check field_sum
  check_more n j s w e = ap (λ x. φ.sum x (φ.prod (power φ n j) (w n))) e ∙ ap (λ k. field_sum φ k (λ i. φ.prod (power φ i j) (w i))) (sym (add-one n))

pub passes_more : (s : ℕ → ℕ) (j : ℕ) → passes j s ≡ true → s j ≡ 0 → passes (j + 1) s ≡ true
passes_more s j h e = ap (λ k. passes k s) (add-one j) ∙ and_from (passes j s) (eqb (s j) 0) h (eq-eqb (s j) 0 e)

pub passes_not : (s : ℕ → ℕ) (r j : ℕ) → j < r → (s j ≡ 0 → ⊥) → passes r s ≡ false
passes_not s r j l n = go (passes r s) refl
  where
    go : (b : Bool) → passes r s ≡ b → passes r s ≡ false
    go false e = e
    go true e = absurd (n (eqb-true (s j) 0 (every_at r (λ j. eqb (s j) 0) e j l)))

pub zero_checks : (j : ℕ) → j < 8 → at (0 ∷ 0 ∷ 0 ∷ 0 ∷ 0 ∷ 0 ∷ 0 ∷ 0 ∷ []) j ≡ 0
zero_checks zero h = refl
zero_checks (suc zero) h = refl
zero_checks (suc (suc zero)) h = refl
zero_checks (suc (suc (suc zero))) h = refl
zero_checks (suc (suc (suc (suc zero)))) h = refl
zero_checks (suc (suc (suc (suc (suc zero))))) h = refl
zero_checks (suc (suc (suc (suc (suc (suc zero)))))) h = refl
zero_checks (suc (suc (suc (suc (suc (suc (suc zero))))))) h = refl
zero_checks (suc (suc (suc (suc (suc (suc (suc (suc j)))))))) h = absurd (omega arith)
