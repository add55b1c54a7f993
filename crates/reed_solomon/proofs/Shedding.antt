-- One seat more is shed; one symbol more is written.
use Rattle.std.proofs.Common.{◌≡◌, ℕ, suc, ◌+◌, ◌<◌, ◌≤◌, Bool, true, false, cond, eqb, List, [], ◌∷◌, ◌++◌, length, get_or, take, set, sym, refl, ap, ◌∙◌, ap₂, arith}
use native.Mathlib.Decide.{ℕ_discrete}
use Rattle.std.proofs.lemmas.List.{take_more, get_or-set_same, get_or-set_other}
use Rattle.std.proofs.lemmas.Bool.{eq-eqb, ne_eqb}
use Rattle.field.specs.Model.{FieldModel}
use Rattle.field.specs.Laws.{FieldLaws}
use Rattle.reed_solomon_theory.specs.Decode.{kill, shed, shed_all, without, error, reciprocal}
use Rattle.field.proofs.Ring.{prod_left_comm}

without_push : (m k : ℕ) (ks : List ℕ) → without m (ks ++ (k ∷ [])) ≡ cond (eqb k m) (without m ks) (without m ks ++ (k ∷ []))
unfolding without
without_push m k [] = refl
without_push m k (x ∷ ks) = ap (λ r. cond (eqb x m) r (x ∷ r)) (without_push m k ks) ∙ go (eqb x m) (eqb k m)
  where
    go : (a b : Bool) → cond a (cond b (without m ks) (without m ks ++ (k ∷ []))) (x ∷ cond b (without m ks) (without m ks ++ (k ∷ [])))
        ≡ cond b (cond a (without m ks) (x ∷ without m ks)) (cond a (without m ks) (x ∷ without m ks) ++ (k ∷ []))
    go true true = refl
    go true false = refl
    go false true = refl
    go false false = refl

-- the next seat is m, or is another
pub next_same : (m k : ℕ) (seats : List ℕ) → k < length seats → get_or seats k 0 ≡ m → without m (take (k + 1) seats) ≡ without m (take k seats)
next_same m k seats h e = ap (without m) (take_more seats k 0 h) ∙ without_push m (get_or seats k 0) (take k seats)
    ∙ ap (λ b. cond b (without m (take k seats)) (without m (take k seats) ++ (get_or seats k 0 ∷ []))) (eq-eqb (get_or seats k 0) m e)

pub next_other : (m k : ℕ) (seats : List ℕ) → k < length seats → (get_or seats k 0 ≡ m → ⊥) → without m (take (k + 1) seats) ≡ without m (take k seats) ++ (get_or seats k 0 ∷ [])
next_other m k seats h e = ap (without m) (take_more seats k 0 h) ∙ without_push m (get_or seats k 0) (take k seats)
    ∙ ap (λ b. cond b (without m (take k seats)) (without m (take k seats) ++ (get_or seats k 0 ∷ []))) (ne_eqb (get_or seats k 0) m e)

module _ (φ : FieldModel) (laws : FieldLaws φ) where
  pub shed_push : (ks : List ℕ) (k : ℕ) (s : ℕ → ℕ) (j : ℕ) → shed_all φ (ks ++ (k ∷ [])) s j ≡ shed φ k (shed_all φ ks s) j
  unfolding shed_all
  shed_push [] k s j = refl
  shed_push (x ∷ ks) k s j = shed_push ks k (shed φ x s) j

  pub shed_same : (k : ℕ) (s u : ℕ → ℕ) (j : ℕ) → ((i : ℕ) → s i ≡ u i) → shed φ k s j ≡ shed φ k u j
  unfolding shed
  shed_same k s u j h = ap₂ φ.sum (h (suc j)) (ap (φ.prod (φ.neg k)) (h j))

  pub kill_push : (ks : List ℕ) (k i : ℕ) → φ.prod (φ.sum i (φ.neg k)) (kill φ ks i) ≡ kill φ (ks ++ (k ∷ [])) i
  unfolding kill
  kill_push [] k i = refl
  kill_push (x ∷ ks) k i = prod_left_comm φ laws (φ.sum i (φ.neg k)) (φ.sum i (φ.neg x)) (kill φ ks i) ∙ ap (φ.prod (φ.sum i (φ.neg x))) (kill_push ks k i)

  pub none_shed : (m : ℕ) (s : ℕ → ℕ) (j : ℕ) → s j ≡ shed_all φ (without m []) s j
  unfolding shed_all without
  none_shed m s j = refl

  pub none_killed : (m : ℕ) → 1 ≡ kill φ (without m []) m
  unfolding kill without
  none_killed m = refl

  pub error_is : (ks : List ℕ) (s : ℕ → ℕ) (m x d i r : ℕ) → x ≡ shed_all φ (without m ks) s 0 → d ≡ kill φ (without m ks) m → i ≡ reciprocal φ d → r ≡ φ.prod x i → r ≡ error φ ks s m
  unfolding error
  error_is ks s m x d i r ex ed ei er = er ∙ ap₂ φ.prod ex (ei ∙ ap (reciprocal φ) ed)

-- a list that agrees with f below j, and after a write at j too
pub set_turn : (f : ℕ → ℕ) (xs : List ℕ) (j y : ℕ) → j < length xs → ((m : ℕ) → m < j → get_or xs m 0 ≡ f m) → y ≡ f j → (m : ℕ) → m < j + 1 → get_or (set xs j y) m 0 ≡ f m
set_turn f xs j y h low e m k = go (ℕ_discrete m j)
  where
    go : Dec (m ≡ j) → get_or (set xs j y) m 0 ≡ f m
    go (yes p) = ap (λ i. get_or (set xs j y) i 0) p ∙ get_or-set_same xs j y 0 h ∙ e ∙ ap f (sym p)
    go (no d) = get_or-set_other xs j m y 0 d ∙ low m (omega arith)

-- a list that agrees with f below j and with w from j on, after its turn at j
pub write_turn : (f w : ℕ → ℕ) (xs : List ℕ) (j y : ℕ) → j < length xs → ((m : ℕ) → m < j → get_or xs m 0 ≡ f m) → ((m : ℕ) → j ≤ m → get_or xs m 0 ≡ w m) → y ≡ f j
    → ((m : ℕ) → m < j + 1 → get_or (set xs j y) m 0 ≡ f m) × ((m : ℕ) → j + 1 ≤ m → get_or (set xs j y) m 0 ≡ w m)
write_turn f w xs j y h low high e = (set_turn f xs j y h low e, λ m k. get_or-set_other xs j m y 0 (omega arith) ∙ high m (omega arith))
