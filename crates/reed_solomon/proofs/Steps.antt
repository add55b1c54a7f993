-- One turn of each loop.
use Rattle.std.proofs.Common.{◌≡◌, ℕ, zero, suc, ◌+◌, ◌-◌, ◌<◌, ◌≤◌, ◌≢◌, List, [], ◌∷◌, length, get_or, take, drop, sym, refl, inl, inr, ap, ◌∙◌, subst, ap₂, subst₂, add-one, arith, length-take-le, drop-cons}
use Rattle.std.proofs.lemmas.List.{get_or-take, get_or_past}
use Rattle.std.proofs.lemmas.Bool.{cases_lt}
use Rattle.field.specs.Model.{FieldModel}
use Rattle.field.specs.Laws.{FieldLaws}
use Rattle.reed_solomon_theory.specs.Code.{power}
use Rattle.reed_solomon_theory.specs.Decode.{value, against, shed, Locator}
use Rattle.reed_solomon_theory.specs.Elimination.{cleared, unit, zeros}
use Rattle.reed_solomon_theory.specs.Elimination.{Basis}
use Rattle.reed_solomon_theory.proofs.Basis.{basis_none, basis_pivot, basis_start, basis_locator}
use Rattle.field.proofs.Ring.{prod_zero, zero_code}

abbrev pub units : List (List ℕ)
units = (1 ∷ 0 ∷ 0 ∷ 0 ∷ 0 ∷ []) ∷ (0 ∷ 1 ∷ 0 ∷ 0 ∷ 0 ∷ []) ∷ (0 ∷ 0 ∷ 1 ∷ 0 ∷ 0 ∷ []) ∷ (0 ∷ 0 ∷ 0 ∷ 1 ∷ 0 ∷ []) ∷ (0 ∷ 0 ∷ 0 ∷ 0 ∷ 1 ∷ []) ∷ []

module _ (φ : FieldModel) (laws : FieldLaws φ) where
  pub pow_more : (x k : ℕ) → φ.prod x (power φ x k) ≡ power φ x (k + 1)
  unfolding power
  pow_more x k = ap (power φ x) (sym (add-one k))

  pub value_more : (cs : List ℕ) (z k : ℕ) → k < length cs → φ.sum (get_or cs k 0) (φ.prod z (value φ (drop (k + 1) cs) z)) ≡ value φ (drop k cs) z
  unfolding value
  value_more cs z k h = ap (λ n. φ.sum (get_or cs k 0) (φ.prod z (value φ (drop n cs) z))) (add-one k) ∙ sym (ap (λ l. value φ l z) (drop-cons cs k 0 h))

  pub against_more : (cs : List ℕ) (s : ℕ → ℕ) (j k : ℕ) → k < length cs → φ.sum (φ.prod (get_or cs k 0) (s (j + k))) (against φ (drop (k + 1) cs) s (j + (k + 1))) ≡ against φ (drop k cs) s (j + k)
  unfolding against
  against_more cs s j k h =
      ap₂ (λ n i. φ.sum (φ.prod (get_or cs k 0) (s (j + k))) (against φ (drop n cs) s i)) (add-one k) (omega arith) ∙ sym (ap (λ l. against φ l s (j + k)) (drop-cons cs k 0 h))

  pub none_j : (s : ℕ → ℕ) (w top j count : ℕ) (row : ℕ → List ℕ) → Basis φ s w top j count row → ((l : ℕ) → l < count → against φ (row l) s j ≡ 0) → Basis φ s w top (j + 1) count row
  none_j s w top j count row b z = subst (λ i. Basis φ s w top i count row) (sym (add-one j)) (basis_none φ laws s w top j count row b z)

  pub pivot_j : (s : ℕ → ℕ) (w top j count p v : ℕ) (row row' : ℕ → List ℕ) → Basis φ s w top j count row → p < count
      → ((l : ℕ) → l < p → against φ (row l) s j ≡ 0) → v ≡ against φ (row p) s j → v ≢ 0
      → ((l : ℕ) → l < p → row' l ≡ row l) → ((l : ℕ) → p ≤ l → l + 1 < count → row' l ≡ cleared φ s j v (row p) (row (l + 1)))
      → Basis φ s w top (j + 1) (count - 1) row'
  pivot_j s w top j count p v row row' b hp z e nz before after =
      subst (λ i. Basis φ s w top i (count - 1) row') (sym (add-one j))
      (basis_pivot φ laws s w top j count p row row' b hp z (λ q. nz (e ∙ q)) before (λ l h k. after l h k ∙ ap (λ x. cleared φ s j x (row p) (row (l + 1))) e))

  pub start_j : (s : ℕ → ℕ) (t : ℕ) (rows : List (List ℕ)) → t ≤ 4 → rows ≡ take (t + 1) units → Basis φ s 5 (t + 1) 0 (length rows) (λ l. get_or rows l [])
  unfolding unit zeros
  start_j s t rows h e =
      subst (λ c. Basis φ s 5 (t + 1) 0 c (λ l. get_or rows l [])) (sym (ap length e ∙ length-take-le (t + 1) units (omega arith)))
      (basis_start φ laws s 5 (t + 1) (λ l. get_or rows l []) (omega arith)
      (λ l k. ap (λ r. get_or r l []) e ∙ get_or-take (t + 1) units l [] k ∙ go l (omega arith)))
    where
      go : (l : ℕ) → l < 5 → get_or units l [] ≡ unit 5 l
      go zero k = refl
      go (suc zero) k = refl
      go (suc (suc zero)) k = refl
      go (suc (suc (suc zero))) k = refl
      go (suc (suc (suc (suc zero)))) k = refl
      go (suc (suc (suc (suc (suc l))))) k = absurd (omega arith)

  pub end_j : (s : ℕ → ℕ) (t j count : ℕ) (row : ℕ → List ℕ) → Basis φ s 5 (t + 1) j count row → t ≤ j → j ≤ t → t + 1 ≤ j + count → Locator φ t s (row 0)
  end_j s t j count row b h k e =
      let p : j ≡ t = omega arith in
      basis_locator φ laws s 5 t count row (subst₂ (λ i m. Basis φ s 5 m i count row) p (add-one t) b) (omega arith)

  pub shed_is : (k j c a b u v : ℕ) (s : ℕ → ℕ) → c ≡ φ.neg k → a ≡ s (j + 1) → b ≡ s j → u ≡ φ.prod c b → v ≡ φ.sum a u → v ≡ shed φ k s j
  unfolding shed
  shed_is k j c a b u v s ec ea eb eu ev = ev ∙ ap₂ φ.sum (ea ∙ ap s (add-one j)) (eu ∙ ap₂ φ.prod ec eb)

  -- past the end all is 0
  pub shed_past : (k : ℕ) (start x : List ℕ) (m : ℕ) → length start ≡ 8 → length x ≡ 8 → 8 ≤ m → get_or x m 0 ≡ shed φ k (λ i. get_or start i 0) m
  unfolding shed
  shed_past k start x m e f h =
      get_or_past x m 0 (omega arith)
      ∙ sym (ap₂ φ.sum (get_or_past start (suc m) 0 (omega arith)) (ap (φ.prod (φ.neg k)) (get_or_past start m 0 (omega arith)) ∙ prod_zero φ laws (φ.neg k)) ∙ laws.sum_zero 0 (zero_code φ laws))

  -- a seat is shed, place by place
  pub shed_from : (k c : ℕ) (start x : List ℕ) → c ≡ φ.neg k → length start ≡ 8 → length x ≡ 8
      → ((j : ℕ) → j < 8 → get_or x j 0 ≡ φ.sum (get_or start (j + 1) 0) (φ.prod c (get_or start j 0))) → (j : ℕ) → get_or x j 0 ≡ shed φ k (λ i. get_or start i 0) j
  shed_from k c start x ec e f made j = elim (cases_lt j 8) [
    | inl h ↦ shed_is k j c (get_or start (j + 1) 0) (get_or start j 0) (φ.prod c (get_or start j 0)) (get_or x j 0) (λ i. get_or start i 0) ec refl refl refl (made j h)
    | inr h ↦ shed_past k start x j e f h
  ]
