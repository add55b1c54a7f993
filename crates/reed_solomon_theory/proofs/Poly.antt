-- A polynomial has no more roots than its degree.
use Rattle.std.proofs.Common.{◌≡◌, ℕ, zero, suc, ◌<◌, ◌≤◌, Bool, true, false, cond, eqb, ◌≢◌, List, [], ◌∷◌, length, sym, refl, ap, ◌∙◌, ap₂, arith}
use Rattle.std.proofs.lemmas.Bool.{eqb-true, eq-eqb}
use Rattle.field.specs.Model.{FieldModel}
use Rattle.field.specs.Laws.{FieldLaws}
use Rattle.reed_solomon_theory.specs.Code.{seats}
use Rattle.reed_solomon_theory.specs.Decode.{value, Zeros, Monic, roots, FewRoots}
use Rattle.field.proofs.Ring.{zero_code, zero_sum, prod_zero, prod_left_comm, sum_left_comm, sum_prod, minus_eq, prod_cancel}
use Rattle.reed_solomon_theory.proofs.Seats.{seats_le}

module _ (φ : FieldModel) (laws : FieldLaws φ) where
  open φ use {order, sum, neg, prod, inv}
  open laws use {more, sum_code, neg_code, prod_code, inv_code, sum_comm, sum_assoc, sum_zero, sum_neg, prod_comm, prod_assoc, prod_one, prod_sum, prod_inv}

  -- what a division by (z - a) leaves
  quot : ℕ → List ℕ → List ℕ
  quot a [] = []
  quot a (c ∷ cs) = value φ cs a ∷ quot a cs

  pub value_code : (cs : List ℕ) (z : ℕ) → value φ cs z < order
  unfolding value
  value_code [] z = zero_code φ laws
  value_code (c ∷ cs) z = sum_code c (prod z (value φ cs z))

  cross : (a z g : ℕ) → sum (prod a g) (prod (sum z (neg a)) g) ≡ prod z g
  cross a z g =
      sym (sum_prod φ laws a (sum z (neg a)) g) ∙ ap (λ x. prod x g) (sum_left_comm φ laws a z (neg a) ∙ ap (sum z) (sum_neg a))
      ∙ sum_prod φ laws z 0 g ∙ ap (sum (prod z g)) (prod_comm 0 g ∙ prod_zero φ laws g) ∙ sum_zero (prod z g) (prod_code z g)

  -- f(z) = f(a) + (z - a) q(z)
  divided : (cs : List ℕ) (a z : ℕ) → value φ cs z ≡ sum (value φ cs a) (prod (sum z (neg a)) (value φ (quot a cs) z))
  unfolding value quot
  divided [] a z = sym (ap (sum 0) (prod_zero φ laws (sum z (neg a))) ∙ sum_zero 0 (zero_code φ laws))
  divided (c ∷ cs) a z =
      let g = value φ cs a in
      let q = value φ (quot a cs) z in
      let d = sum z (neg a) in
      let left : prod z (value φ cs z) ≡ sum (prod z g) (prod z (prod d q)) = ap (prod z) (divided cs a z) ∙ prod_sum z g (prod d q) in
      let right : prod d (sum g (prod z q)) ≡ sum (prod d g) (prod z (prod d q)) = prod_sum d g (prod z q) ∙ ap (sum (prod d g)) (prod_left_comm φ laws d z q) in
      ap (sum c) (left ∙ ap (λ x. sum x (prod z (prod d q))) (sym (cross a z g)) ∙ sum_assoc (prod a g) (prod d g) (prod z (prod d q)) ∙ ap (sum (prod a g)) (sym right))
      ∙ sym (sum_assoc c (prod a g) (prod d (sum g (prod z q))))

  zeros_value : (cs : List ℕ) (z : ℕ) → Zeros cs → value φ cs z ≡ 0
  unfolding value Zeros
  zeros_value [] z h = refl
  zeros_value (c ∷ cs) z h = ap₂ sum h.0 (ap (prod z) (zeros_value cs z h.1) ∙ prod_zero φ laws z) ∙ sum_zero 0 (zero_code φ laws)

  zeros_quot : (cs : List ℕ) (a : ℕ) → Zeros cs → Zeros (quot a cs)
  unfolding quot Zeros
  zeros_quot [] a h = tt
  zeros_quot (c ∷ cs) a h = (zeros_value cs a h.1, zeros_quot cs a h.1)

  monic_value : (cs : List ℕ) (z : ℕ) → Monic 0 cs → value φ cs z ≡ 1
  unfolding value Monic
  monic_value [] z h = absurd h
  monic_value (c ∷ cs) z h = ap₂ sum h.0 (ap (prod z) (zeros_value cs z h.1) ∙ prod_zero φ laws z) ∙ sum_zero 1 more

  monic_quot : (l : ℕ) (cs : List ℕ) (a : ℕ) → Monic (suc l) cs → Monic l (quot a cs)
  unfolding quot Monic Zeros
  monic_quot l [] a h = absurd h
  monic_quot zero (c ∷ cs) a h = (monic_value cs a h, low cs h)
    where
      low : (cs : List ℕ) → Monic 0 cs → Zeros (quot a cs)
      low [] k = absurd k
      low (d ∷ ds) k = (zeros_value ds a k.1, zeros_quot ds a k.1)
  monic_quot (suc l) (c ∷ cs) a h = monic_quot l cs a h

  -- with a root at a, another root is a root of what the division leaves
  other_root : (cs : List ℕ) (a z : ℕ) → a < order → z < order → z ≢ a → value φ cs a ≡ 0 → value φ cs z ≡ 0 → value φ (quot a cs) z ≡ 0
  other_root cs a z ha hz d ea ez =
      prod_cancel φ laws (sum z (neg a)) (value φ (quot a cs) z) (sum_code z (neg a)) (value_code (quot a cs) z) (λ q. d (minus_eq φ laws z a hz ha q))
      (sym (zero_sum φ laws (prod (sum z (neg a)) (value φ (quot a cs) z)) (prod_code (sum z (neg a)) (value φ (quot a cs) z)))
      ∙ ap (λ x. sum x (prod (sum z (neg a)) (value φ (quot a cs) z))) (sym ea) ∙ sym (divided cs a z) ∙ ez)

  few : (n l : ℕ) (cs : List ℕ) → n ≤ order → Monic l cs → length (seats n (λ i. eqb (value φ cs i) 0)) ≤ l
  unfolding seats
  few zero l cs hn m = omega arith
  few (suc n) l cs hn m = go (eqb (value φ cs n) 0) refl l m (few n l cs (omega arith) m) (λ k m'. few n k (quot n cs) (omega arith) m')
    where
      go : (b : Bool) → eqb (value φ cs n) 0 ≡ b → (l : ℕ) → Monic l cs → length (seats n (λ i. eqb (value φ cs i) 0)) ≤ l
          → ((k : ℕ) → Monic k (quot n cs) → length (seats n (λ i. eqb (value φ (quot n cs) i) 0)) ≤ k)
          → length (cond b (n ∷ seats n (λ i. eqb (value φ cs i) 0)) (seats n (λ i. eqb (value φ cs i) 0))) ≤ l
      go false q l m h r = h
      go true q zero m h r = let e : ◌≡◌ {A = ℕ} 1 0 = sym (monic_value cs n m) ∙ eqb-true (value φ cs n) 0 q in absurd (omega arith)
      go true q (suc l) m h r =
          let s : length (seats n (λ i. eqb (value φ cs i) 0)) ≤ length (seats n (λ i. eqb (value φ (quot n cs) i) 0)) =
          seats_le n (λ i. eqb (value φ cs i) 0) (λ i. eqb (value φ (quot n cs) i) 0)
          (λ i l t. eq-eqb (value φ (quot n cs) i) 0 (other_root cs n i (omega arith) (omega arith) (omega arith) (eqb-true (value φ cs n) 0 q) (eqb-true (value φ cs i) 0 t))) in
          let u = r l (monic_quot l cs n m) in
          omega arith

pub few_roots : FewRoots
unfolding roots
few_roots φ laws n l cs hn m = few φ laws n l cs hn m
