-- The rows after the pivot goes.
use Rattle.std.proofs.Common.{◌≡◌, ℕ, ◌+◌, ◌-◌, ◌<◌, ◌≤◌, ◌≢◌, Bool, true, false, cond, not, eqb, List, [], ◌++◌, map, length, get_or, set, take, drop, Option, Some, None, inl, inr, sym, refl, subst, ap, ◌∙◌, append-nil, arith, length-set, length-append, length-take, length-drop}
use native.Mathlib.Decide.{ℕ_discrete}
use mathlib.Core.Bool.{true≢false}
use Rattle.std.specs.List.{refill, remove, position, position_or_len}
use Rattle.std.proofs.lemmas.Bool.{lt-ltb, cases_lt, eqb-true, eq-eqb}
use Rattle.std.proofs.lemmas.List.Sums.{fails_before_first}
use Rattle.std.proofs.lemmas.List.{take_all, drop_all, get_or_append_left, get_or-append_right, get_or-take, get_or-drop, get_or-map, length-map, get_or_default, get_or-set_same, get_or-set_other}
use Rattle.std.proofs.lemmas.List.Edits.{get_or-remove_below, get_or-remove_above}
use Rattle.std.proofs.lemmas.List.Quantifiers.{position-Some}
use Rattle.field.specs.Model.{FieldModel}
use Rattle.field.specs.Laws.{FieldLaws}
use Rattle.reed_solomon_theory.specs.Decode.{against, reciprocal}
use Rattle.reed_solomon_theory.specs.Elimination.{Basis, plus, cleared}
use Rattle.reed_solomon.specs.Words.{at}
use Rattle.reed_solomon.proofs.Folds.{against_same}
use Rattle.reed_solomon.proofs.Steps.{pivot_j, none_j}

-- of the rows xs, the p-th has gone, and those after it are changed by f
pub record Shifted (xs : List (List ℕ)) (p : ℕ) (f : List ℕ → List ℕ) (rows : List (List ℕ)) : Type 0 where
  pub long : length rows + 1 ≡ length xs
  pub before : (l : ℕ) → l < p → get_or rows l [] ≡ get_or xs l []
  pub after : (l : ℕ) → p ≤ l → l + 1 < length xs → get_or rows l [] ≡ f (get_or xs (l + 1) [])

-- of the rows start, those from p + 1 to l have moved up, changed by f
abbrev pub ShiftedTo : List (List ℕ) → ℕ → (List ℕ → List ℕ) → ℕ → List (List ℕ) → Type 0
ShiftedTo start p f l rows =
    (length rows ≡ 5)
    × ((m : ℕ) → m < p → get_or rows m [] ≡ get_or start m [])
    × ((m : ℕ) → p ≤ m → m + 1 < l → get_or rows m [] ≡ f (get_or start (m + 1) []))
    × ((m : ℕ) → l ≤ m → get_or rows m [] ≡ get_or start m [])

pub shifted_more : (start : List (List ℕ)) (p : ℕ) (f : List ℕ → List ℕ) (l : ℕ) (rows : List (List ℕ)) (y : List ℕ) → p + 1 ≤ l → l < 5 → ShiftedTo start p f l rows
    → y ≡ f (get_or rows l []) → ShiftedTo start p f (l + 1) (set rows (l - 1) y)
shifted_more start p f l rows y hp hl inv e =
    let five = inv.0 in (
      length-set rows (l - 1) y ∙ inv.0,
      (λ m h. other m (omega arith) ∙ inv.1 m h),
      (λ m h k. go m h k (ℕ_discrete m (l - 1))),
      (λ m h. other m (omega arith) ∙ inv.3 m (omega arith)),
    )
  where
    other : (m : ℕ) → m ≢ l - 1 → get_or (set rows (l - 1) y) m [] ≡ get_or rows m []
    other m d = get_or-set_other rows (l - 1) m y [] d

    go : (m : ℕ) → p ≤ m → m + 1 < l + 1 → Dec (m ≡ l - 1) → get_or (set rows (l - 1) y) m [] ≡ f (get_or start (m + 1) [])
    go m h k (yes q) =
        let five = inv.0 in
        let n : m + 1 ≡ l = omega arith in
        ap (λ i. get_or (set rows (l - 1) y) i []) q ∙ get_or-set_same rows (l - 1) y [] (omega arith) ∙ e ∙ ap f (inv.3 l (omega arith) ∙ ap (λ i. get_or start i []) (sym n))
    go m h k (no d) = other m d ∙ inv.2 m h (omega arith)

-- a write of the whole list
filled : (ys rs : List (List ℕ)) → length rs ≡ length ys → refill (length ys) ys rs ≡ rs
filled ys rs e =
    ap (λ t. take (length ys) (rs ++ t)) (drop_all (length rs) ys (omega arith)) ∙ ap (take (length ys)) (append-nil rs) ∙ take_all (length ys) rs (omega arith)

joined : (f : List ℕ → List ℕ) (ys zs : List (List ℕ)) (p : ℕ) → p ≤ length ys → zs ≡ map f (take (length ys - p) (drop p ys))
    → refill (length ys) ys (take p ys ++ (zs ++ drop (length ys - p) (drop p ys))) ≡ take p ys ++ map f (drop p ys)
joined f ys zs p h e =
    let n : length (drop p ys) ≡ length ys - p = length-drop p ys in
    let rest : zs ++ drop (length ys - p) (drop p ys) ≡ map f (drop p ys)
    = ap (λ t. zs ++ t) (drop_all (length ys - p) (drop p ys) (omega arith)) ∙ append-nil zs ∙ e ∙ ap (map f) (take_all (length ys - p) (drop p ys) (omega arith)) in
    ap (λ t. refill (length ys) ys (take p ys ++ t)) rest
    ∙ filled ys (take p ys ++ map f (drop p ys)) (omega (arith, length-append (take p ys) (map f (drop p ys)), length-take p ys, length-map (drop p ys) f))

pub shifted : (f : List ℕ → List ℕ) (xs ys zs : List (List ℕ)) (p : ℕ) → p < length xs → ys ≡ remove xs p → length ys + 1 ≡ length xs → zs ≡ map f (take (length ys - p) (drop p ys))
    → Shifted xs p f (refill (length ys) ys (take p ys ++ (zs ++ drop (length ys - p) (drop p ys))))
shifted f xs ys zs p h e m q =
    let whole = joined f ys zs p (omega arith) q in
    let front : length (take p ys) ≡ p = omega (arith, length-take p ys) in
    let back : length (drop p ys) ≡ length ys - p = length-drop p ys in
    record {
      long = omega (arith, ap length whole, length-append (take p ys) (map f (drop p ys)), length-map (drop p ys) f);
      before = λ l k. ap (λ r. get_or r l []) whole ∙ get_or_append_left (take p ys) (map f (drop p ys)) [] l (omega arith) ∙ get_or-take p ys l [] k
          ∙ ap (λ r. get_or r l []) e ∙ get_or-remove_below xs p [] l k h;
      after = λ l a k. ap (λ r. get_or r l []) whole ∙ get_or-append_right (take p ys) (map f (drop p ys)) p l [] front a
          ∙ get_or-map f (drop p ys) (l - p) [] [] (omega arith)
          ∙ ap f (get_or-drop p ys (l - p) [] ∙ ap (λ i. get_or ys i []) (omega arith) ∙ ap (λ r. get_or r l []) e ∙ get_or-remove_above xs p [] l a h);
    }

-- where no first place is found, each row fails the test
pub no_place : (t : List ℕ → Bool) (xs : List (List ℕ)) → position t xs ≡ None → (k : ℕ) → k < length xs → t (get_or xs k []) ≡ false
no_place t xs e k h = elim (cases_lt (position_or_len t xs) (length xs)) [
  | inl l ↦ absurd (none l)
  | inr l ↦ fails_before_first t xs k [] (omega arith)
]
  where
    none : position_or_len t xs < length xs → ⊥
    none l =
        let is : position t xs ≡ Some (position_or_len t xs) = ap (λ b. cond b (Some (position_or_len t xs)) None) (lt-ltb (position_or_len t xs) (length xs) l) in
        cc

module _ (φ : FieldModel) (laws : FieldLaws φ) (from : List ℕ) where
  -- whether a row is not 0 against the checks
  abbrev told : List ℕ → Bool
  told row = not (eqb (against φ row (at from) 0) 0)

  told_zero : (row : List ℕ) → told row ≡ false → against φ row (at from) 0 ≡ 0
  told_zero row e = go (eqb (against φ row (at from) 0) 0) refl
    where
      go : (b : Bool) → eqb (against φ row (at from) 0) 0 ≡ b → against φ row (at from) 0 ≡ 0
      go true q = eqb-true (against φ row (at from) 0) 0 q
      go false q = absurd (true≢false (sym (ap not q) ∙ e))

  told_other : (row : List ℕ) → told row ≡ true → against φ row (at from) 0 ≢ 0
  told_other row e z = true≢false (sym e ∙ ap not (eq-eqb (against φ row (at from) 0) 0 z))

  -- the checks from j on
  module _ (s : ℕ → ℕ) (top j : ℕ) (part : (k : ℕ) → k < 5 → s (j + k) ≡ at from k) where
    same_check : (row : List ℕ) → length row ≡ 5 → against φ row (at from) 0 ≡ against φ row s j
    same_check row wide = against_same φ laws row (at from) s 0 j 5 (omega arith) (λ k h. ap (at from) (omega arith) ∙ sym (part k h))

    same_cleared : (v : ℕ) (pivot row : List ℕ) → length row ≡ 5 → cleared φ (at from) 0 v pivot row ≡ cleared φ s j v pivot row
    unfolding cleared
    same_cleared v pivot row wide = ap (λ x. plus φ (φ.neg (φ.prod x (reciprocal φ v))) pivot row) (same_check row wide)

    -- where each row is 0 there, all stay
    pub all_stay : (xs rs : List (List ℕ)) (o : Option ℕ) → rs ≡ xs → o ≡ position told rs → o ≡ None
        → Basis φ s 5 top j (length xs) (λ l. get_or xs l []) → Basis φ s 5 top (j + 1) (length xs) (λ l. get_or xs l [])
    all_stay xs rs o r e n b =
        none_j φ laws s 5 top j (length xs) (λ l. get_or xs l []) b
        (λ l h. sym (same_check (get_or xs l []) (b.rows l h).wide) ∙ told_zero (get_or xs l []) (no_place told xs (sym (ap (position told) r) ∙ sym e ∙ n) l h))

    -- otherwise the first that is not goes
    pub one_goes : (xs rs ys ds zs : List (List ℕ)) (o : Option ℕ) (p : ℕ) (pivot : List ℕ) → rs ≡ xs → o ≡ position told rs → o ≡ Some p
        → pivot ≡ get_or xs p pivot → ys ≡ remove xs p → length ys + 1 ≡ length xs → ds ≡ ys
        → zs ≡ map (cleared φ (at from) 0 (against φ pivot (at from) 0) pivot) (take (length ds - p) (drop p ds))
        → Basis φ s 5 top j (length xs) (λ l. get_or xs l [])
        → Basis φ s 5 top (j + 1) (length (refill (length ys) ys (take p ds ++ (zs ++ drop (length ds - p) (drop p ds)))))
        (λ l. get_or (refill (length ys) ys (take p ds ++ (zs ++ drop (length ds - p) (drop p ds)))) l [])
    one_goes xs rs ys ds zs o p pivot r e n pe ye m de ze b =
        let found = position-Some told xs p [] (sym (ap (position told) r) ∙ sym e ∙ n) in
        let inside : p < length xs = found.0 in
        let same : pivot ≡ get_or xs p [] = pe ∙ get_or_default xs p pivot [] inside in
        let v = against φ pivot (at from) 0 in
        let f : List ℕ → List ℕ = cleared φ (at from) 0 v pivot in
        let value : v ≡ against φ (get_or xs p []) s j = ap (λ x. against φ x (at from) 0) same ∙ same_check (get_or xs p []) (b.rows p inside).wide in
        let moved = subst (λ ds. Shifted xs p f (refill (length ys) ys (take p ds ++ (zs ++ drop (length ds - p) (drop p ds))))) (sym de)
        (shifted f xs ys zs p inside ye m (subst (λ ds. zs ≡ map f (take (length ds - p) (drop p ds))) de ze)) in
        let rows = refill (length ys) ys (take p ds ++ (zs ++ drop (length ds - p) (drop p ds))) in
        subst (λ c. Basis φ s 5 top (j + 1) c (λ l. get_or rows l [])) (omega (arith, moved.long))
        (pivot_j φ laws s 5 top j (length xs) p v (λ l. get_or xs l []) (λ l. get_or rows l []) b inside
        (λ l h. sym (same_check (get_or xs l []) (b.rows l (omega arith)).wide) ∙ told_zero (get_or xs l []) (found.2 l h)) value
        (λ z. told_other (get_or xs p []) found.1 (ap (λ x. against φ x (at from) 0) (sym same) ∙ z))
        moved.before
        (λ l h k. moved.after l h k ∙ same_cleared v pivot (get_or xs (l + 1) []) (b.rows (l + 1) k).wide ∙ ap (λ x. cleared φ s j v x (get_or xs (l + 1) [])) same))
