-- A step of the elimination, by place.
use Rattle.std.proofs.Common.{◌≡◌, ℕ, suc, ◌+◌, ◌-◌, ◌<◌, ◌≤◌, cond, ltb, ◌≢◌, ◌⊎◌, List, [], ◌∷◌, length, get_or, sym, refl, ap, ◌∙◌, subst, ap₂, inl, inr, arith}
use native.Mathlib.Nat.{suc_inj}
use native.Mathlib.Decide.{ℕ_discrete}
use Rattle.std.proofs.lemmas.Bool.{cases_lt, lt-ltb, le-ltb}
use Rattle.field.specs.Model.{FieldModel}
use Rattle.field.specs.Laws.{FieldLaws}
use Rattle.reed_solomon_theory.specs.Decode.{against, Locator}
use Rattle.reed_solomon_theory.specs.Elimination.{plus, cleared, unit}
use Rattle.reed_solomon_theory.specs.Elimination.{Row, Basis}
use Rattle.reed_solomon_theory.proofs.Rows.{cleared_null, cleared_kept, cleared_monic, cleared_length, unit_monic, unit_length}

module _ (φ : FieldModel) (laws : FieldLaws φ) where
  row_same : (s : ℕ → ℕ) (w top l j : ℕ) (xs ys : List ℕ) → ys ≡ xs → Row φ s w top l j xs → Row φ s w top l j ys
  row_same s w top l j xs ys e r = subst (λ zs. Row φ s w top l j zs) (sym e) r

  pub row_more : (s : ℕ → ℕ) (w top l j : ℕ) (xs : List ℕ) → Row φ s w top l j xs → against φ xs s j ≡ 0 → Row φ s w top l (suc j) xs
  row_more s w top l j xs r z = record { monic = r.monic; wide = r.wide; below = r.below; null = λ i hi. go i hi (ℕ_discrete i j) }
    where
      go : (i : ℕ) → i < suc j → Dec (i ≡ j) → against φ xs s i ≡ 0
      go i hi (yes p) = ap (against φ xs s) p ∙ z
      go i hi (no d) = r.null i (omega arith)

  row_cleared : (s : ℕ → ℕ) (w top j k l : ℕ) (xs ys : List ℕ) → k < l → Row φ s w top k j xs → Row φ s w top l j ys → against φ xs s j ≢ 0
      → Row φ s w top l (suc j) (cleared φ s j (against φ xs s j) xs ys)
  row_cleared s w top j k l xs ys h rx ry nz =
      let e : length xs ≡ length ys = rx.wide ∙ sym ry.wide in
      record {
        monic = cleared_monic φ laws s j (against φ xs s j) k l xs ys e h rx.monic ry.monic;
        wide = cleared_length φ laws s j (against φ xs s j) xs ys e ∙ ry.wide;
        below = ry.below;
        null = λ i hi. go i hi e (ℕ_discrete i j);
      }
    where
      go : (i : ℕ) → i < suc j → length xs ≡ length ys → Dec (i ≡ j) → against φ (cleared φ s j (against φ xs s j) xs ys) s i ≡ 0
      go i hi e (yes p) = ap (λ x. against φ (cleared φ s j (against φ xs s j) xs ys) s x) p ∙ cleared_null φ laws s j xs ys e nz
      go i hi e (no d) = cleared_kept φ laws s j i (against φ xs s j) xs ys e (rx.null i (omega arith)) (ry.null i (omega arith))

  -- no row is told from 0
  pub basis_none : (s : ℕ → ℕ) (w top j count : ℕ) (row : ℕ → List ℕ) → Basis φ s w top j count row → ((l : ℕ) → l < count → against φ (row l) s j ≡ 0) → Basis φ s w top (suc j) count row
  basis_none s w top j count row b z = record {
    degree = b.degree;
    rows = λ l h. row_more s w top (b.degree l) j (row l) (b.rows l h) (z l h);
    rising = b.rising;
  }

  -- row p is, and goes
  module _ (s : ℕ → ℕ) (w top j count p : ℕ) (row row' : ℕ → List ℕ) (b : Basis φ s w top j count row) (hp : p < count)
      (z : (l : ℕ) → l < p → against φ (row l) s j ≡ 0) (nz : against φ (row p) s j ≢ 0)
      (before : (l : ℕ) → l < p → row' l ≡ row l)
      (after : (l : ℕ) → p ≤ l → l + 1 < count → row' l ≡ cleared φ s j (against φ (row p) s j) (row p) (row (l + 1))) where
    degree' : ℕ → ℕ
    degree' l = cond (ltb l p) (b.degree l) (b.degree (l + 1))

    low : (l : ℕ) → l < p → degree' l ≡ b.degree l
    unfolding degree'
    low l h = ap (λ t. cond t (b.degree l) (b.degree (l + 1))) (lt-ltb l p h)

    high : (l : ℕ) → p ≤ l → degree' l ≡ b.degree (l + 1)
    unfolding degree'
    high l h = ap (λ t. cond t (b.degree l) (b.degree (l + 1))) (le-ltb l p h)

    rows' : (l : ℕ) → l < count - 1 → Row φ s w top (degree' l) (suc j) (row' l)
    rows' l h = go (cases_lt l p)
      where
        go : (l < p) ⊎ (p ≤ l) → Row φ s w top (degree' l) (suc j) (row' l)
        go (inl k) = subst (λ d. Row φ s w top d (suc j) (row' l)) (sym (low l k))
            (row_same s w top (b.degree l) (suc j) (row l) (row' l) (before l k) (row_more s w top (b.degree l) j (row l) (b.rows l (omega arith)) (z l k)))
        go (inr k) = subst (λ d. Row φ s w top d (suc j) (row' l)) (sym (high l k))
            (row_same s w top (b.degree (l + 1)) (suc j) (cleared φ s j (against φ (row p) s j) (row p) (row (l + 1))) (row' l) (after l k (omega arith))
            (row_cleared s w top j (b.degree p) (b.degree (l + 1)) (row p) (row (l + 1)) (b.rising p (l + 1) (omega arith) (omega arith)) (b.rows p hp) (b.rows (l + 1) (omega arith)) nz))

    rising' : (k l : ℕ) → k < l → l < count - 1 → degree' k < degree' l
    rising' k l h hl = go (cases_lt k p) (cases_lt l p)
      where
        go : (k < p) ⊎ (p ≤ k) → (l < p) ⊎ (p ≤ l) → degree' k < degree' l
        go (inl a) (inl c) = omega (arith, low k a, low l c, b.rising k l h (omega arith))
        go (inl a) (inr c) = omega (arith, low k a, high l c, b.rising k (l + 1) (omega arith) (omega arith))
        go (inr a) (inl c) = absurd (omega arith)
        go (inr a) (inr c) = omega (arith, high k a, high l c, b.rising (k + 1) (l + 1) (omega arith) (omega arith))

    pub basis_pivot : Basis φ s w top (suc j) (count - 1) row'
    basis_pivot = record { degree = degree'; rows = rows'; rising = rising' }

  -- the rows of the start
  pub basis_start : (s : ℕ → ℕ) (w top : ℕ) (row : ℕ → List ℕ) → top ≤ w → ((l : ℕ) → l < top → row l ≡ unit w l) → Basis φ s w top 0 top row
  basis_start s w top row h e = record {
    degree = λ l. l;
    rows = λ l k. row_same s w top l 0 (unit w l) (row l) (e l k) (record { monic = unit_monic φ laws w l (omega arith); wide = unit_length φ laws w l; below = k; null = λ i hi. absurd (omega arith) });
    rising = λ k l a c. a;
  }

  -- any row at the end is a locator
  pub basis_locator : (s : ℕ → ℕ) (w t count : ℕ) (row : ℕ → List ℕ) → Basis φ s w (suc t) t count row → 0 < count → Locator φ t s (row 0)
  basis_locator s w t count row b h =
      let r = b.rows 0 h in
      let k = r.below in
      record { degree = b.degree 0; small = omega arith; monic = r.monic; null = r.null }

  pub plus_by_places : (c : ℕ) (xs ys out : List ℕ) → length xs ≡ length ys → length out ≡ length ys
      → ((m : ℕ) → m < length ys → get_or out m 0 ≡ φ.sum (get_or ys m 0) (φ.prod c (get_or xs m 0))) → out ≡ plus φ c xs ys
  unfolding plus
  plus_by_places c [] [] [] e f h = refl
  plus_by_places c [] [] (o ∷ out) e f h = absurd (omega arith)
  plus_by_places c [] (y ∷ ys) out e f h = absurd (omega arith)
  plus_by_places c (x ∷ xs) [] out e f h = absurd (omega arith)
  plus_by_places c (x ∷ xs) (y ∷ ys) [] e f h = absurd (omega arith)
  plus_by_places c (x ∷ xs) (y ∷ ys) (o ∷ out) e f h = ap₂ ◌∷◌ (h 0 (omega arith)) (plus_by_places c xs ys out (suc_inj e) (suc_inj f) (λ m l. h (suc m) (omega arith)))
