-- The list of the seats that pass a test.
use Rattle.std.proofs.Common.{◌≡◌, ℕ, zero, suc, ◌<◌, ◌≤◌, Bool, true, false, cond, ◌≢◌, List, [], ◌∷◌, length, sym, refl, ap, ◌∙◌, arith}
use native.Mathlib.Decide.{ℕ_discrete}
use Rattle.std.proofs.lemmas.Bool.{both_ways}
use Rattle.field.specs.Model.{FieldModel}
use Rattle.field.specs.Laws.{FieldLaws}
use Rattle.reed_solomon_theory.specs.Code.{Below, seats}
use Rattle.reed_solomon_theory.specs.Decode.{kill}
use Rattle.field.proofs.Ring.{zero_prod, prod_zero}

pub below_more : (ks : List ℕ) (n : ℕ) → Below n ks → Below (suc n) ks
unfolding Below
below_more [] n b = tt
below_more (k ∷ ks) n b = (let h = b.0 in omega arith, below_more ks n b.1)

pub seats_below : (n : ℕ) (f : ℕ → Bool) → Below n (seats n f)
unfolding Below seats
seats_below zero f = tt
seats_below (suc n) f = go (f n) (below_more (seats n f) n (seats_below n f))
  where
    go : (b : Bool) → Below (suc n) (seats n f) → Below (suc n) (cond b (n ∷ seats n f) (seats n f))
    go true h = (omega arith, h)
    go false h = h

-- no test that fails wherever f does has fewer
pub seats_le : (n : ℕ) (f g : ℕ → Bool) → ((i : ℕ) → i < n → f i ≡ true → g i ≡ true) → length (seats n f) ≤ length (seats n g)
unfolding seats
seats_le zero f g h = omega arith
seats_le (suc n) f g h = go (f n) (g n) (h n (omega arith)) (seats_le n f g (λ i l. h i (omega arith)))
  where
    go : (a b : Bool) → (a ≡ true → b ≡ true) → length (seats n f) ≤ length (seats n g)
        → length (cond a (n ∷ seats n f) (seats n f)) ≤ length (cond b (n ∷ seats n g) (seats n g))
    go true true k l = omega arith
    go true false k l = absurd (both_ways false refl (k refl))
    go false true k l = omega arith
    go false false k l = l

module _ (φ : FieldModel) (laws : FieldLaws φ) where
  open φ use {order, sum, neg, prod}
  open laws use {sum_neg, prod_assoc}

  pub kill_seat : (n : ℕ) (f : ℕ → Bool) (i : ℕ) → i < n → f i ≡ true → kill φ (seats n f) i ≡ 0
  unfolding seats kill
  kill_seat zero f i l h = absurd (omega arith)
  kill_seat (suc n) f i l h = go (f n) (ℕ_discrete i n) (λ e. sym (ap f e) ∙ h) (λ d. kill_seat n f i (omega arith) h)
    where
      go : (b : Bool) → Dec (i ≡ n) → (i ≡ n → b ≡ true) → (i ≢ n → kill φ (seats n f) i ≡ 0) → kill φ (cond b (n ∷ seats n f) (seats n f)) i ≡ 0
      go true (yes e) t r = ap (λ x. prod x (kill φ (seats n f) i)) (ap (λ x. sum i (neg x)) (sym e) ∙ sum_neg i) ∙ zero_prod φ laws (kill φ (seats n f) i)
      go true (no d) t r = ap (prod (sum i (neg n))) (r d) ∙ prod_zero φ laws (sum i (neg n))
      go false (yes e) t r = absurd (both_ways false refl (t e))
      go false (no d) t r = r d

  -- a word that is 0 where the test fails is killed by the seats that pass
  pub kill_word : (n : ℕ) (f : ℕ → Bool) (e : ℕ → ℕ) → ((i : ℕ) → i < n → f i ≡ false → e i ≡ 0) → (i : ℕ) → i < n → prod (kill φ (seats n f) i) (e i) ≡ 0
  kill_word n f e h i l = go (f i) refl
    where
      go : (b : Bool) → f i ≡ b → prod (kill φ (seats n f) i) (e i) ≡ 0
      go true q = ap (λ x. prod x (e i)) (kill_seat n f i l q) ∙ zero_prod φ laws (e i)
      go false q = ap (prod (kill φ (seats n f) i)) (h i l q) ∙ prod_zero φ laws (kill φ (seats n f) i)
