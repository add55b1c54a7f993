-- The decoder keeps its promise.
use Rattle.std.proofs.Common.{◌≡◌, ℕ, zero, suc, ◌+◌, ◌<◌, ◌≤◌, Bool, true, false, cond, not, eqb, List, [], ◌∷◌, map, length, sym, refl, ap, ◌∙◌, subst, ap₂, arith}
use native.Mathlib.Decide.{ℕ_discrete}
use Rattle.ranges.proofs.Tests.{every_at, every_from}
use Rattle.std.proofs.lemmas.Bool.{eqb-true, eqb-false, eq-eqb, ne_eqb, both_ways, not-true}
use Rattle.field.specs.Model.{FieldModel}
use Rattle.field.specs.Laws.{FieldLaws}
use Rattle.field.specs.Sums.{field_sum}
use Rattle.reed_solomon_theory.specs.Code.{Below, power, check, seats, differing, CodeWord}
use Rattle.reed_solomon_theory.specs.Decode.{value, roots, error, mended, Locator, added, remaining, taken, corrected, errors, passes}
use Rattle.reed_solomon_theory.specs.Promise.{Decoded, Only, Finishes, Stays}
use Rattle.field.proofs.Ring.{zero_code, prod_zero, prod_left_comm, minus_one}
use Rattle.reed_solomon_theory.proofs.Vander.{check_code}
use Rattle.reed_solomon_theory.proofs.Seats.{seats_below, seats_le}
use Rattle.reed_solomon_theory.proofs.Apart.{distance, word_minus, check_minus}
use Rattle.reed_solomon_theory.proofs.Poly.{few_roots}
use Rattle.reed_solomon_theory.proofs.Solve.{check_ext}
use Rattle.reed_solomon_theory.proofs.Mend.{mends}

differing_three : (n : ℕ) (w c d : ℕ → ℕ) → differing n c d ≤ differing n w c + differing n w d
unfolding differing seats
differing_three zero w c d = omega arith
differing_three (suc n) w c d = go (eqb (c n) (d n)) (eqb (w n) (c n)) (eqb (w n) (d n)) (λ p q. eq-eqb (c n) (d n) (sym (eqb-true (w n) (c n) p) ∙ eqb-true (w n) (d n) q)) (differing_three n w c d)
  where
    S : (ℕ → ℕ) → (ℕ → ℕ) → List ℕ
    S u v = seats n (λ i. not (eqb (u i) (v i)))

    go : (x y z : Bool) → (y ≡ true → z ≡ true → x ≡ true) → length (S c d) ≤ length (S w c) + length (S w d)
        → length (cond (not x) (n ∷ S c d) (S c d)) ≤ length (cond (not y) (n ∷ S w c) (S w c)) + length (cond (not z) (n ∷ S w d) (S w d))
    go true true true k h = h
    go true true false k h = omega arith
    go true false true k h = omega arith
    go true false false k h = omega arith
    go false true true k h = absurd (both_ways false refl (k refl refl))
    go false true false k h = omega arith
    go false false true k h = omega arith
    go false false false k h = omega arith

pub only : Only
only φ laws n r t hn two w c d hc nc hd nd = distance φ laws n r hn c d hc hd (omega (arith, differing_three n w c d))

seats_same : (n : ℕ) (f g : ℕ → Bool) → ((i : ℕ) → i < n → f i ≡ g i) → seats n f ≡ seats n g
unfolding seats
seats_same zero f g h = refl
seats_same (suc n) f g h = ap₂ (λ b ks. cond b (n ∷ ks) ks) (h n (omega arith)) (seats_same n f g (λ i l. h i (omega arith)))

differing_same : (n : ℕ) (w u v : ℕ → ℕ) → ((i : ℕ) → i < n → u i ≡ v i) → differing n w u ≡ differing n w v
unfolding differing
differing_same n w u v h = ap length (seats_same n (λ i. not (eqb (w i) (u i))) (λ i. not (eqb (w i) (v i))) (λ i l. ap (λ x. not (eqb (w i) x)) (h i l)))

-- checks that pass are 0
passes_all : (r : ℕ) (s : ℕ → ℕ) → passes r s ≡ true → (j : ℕ) → j < r → s j ≡ 0
passes_all r s h j l = eqb-true (s j) 0 (every_at r (λ j. eqb (s j) 0) h j l)

all_passes : (r : ℕ) (s : ℕ → ℕ) → ((j : ℕ) → j < r → s j ≡ 0) → passes r s ≡ true
all_passes r s h = every_from r (λ j. eqb (s j) 0) (λ j l. eq-eqb (s j) 0 (h j l))

module _ (φ : FieldModel) (laws : FieldLaws φ) where
  open φ use {order, sum, neg, prod, inv}
  open laws use {more, sum_code, neg_code, prod_code, inv_code, sum_comm, sum_assoc, sum_zero, sum_neg, prod_comm, prod_assoc, prod_one, prod_sum, prod_inv}

  -- the word that is e where the test passes, and 0 elsewhere
  abbrev only_at : (ℕ → Bool) → (ℕ → ℕ) → ℕ → ℕ
  only_at f e i = cond (f i) (e i) 0

  -- check j of the word that is e at the seats listed and 0 elsewhere
  sparse : List ℕ → (ℕ → ℕ) → ℕ → ℕ
  sparse [] e j = 0
  sparse (m ∷ ks) e j = sum (prod (power φ m j) (e m)) (sparse ks e j)

  sparse_code : (ks : List ℕ) (e : ℕ → ℕ) (j : ℕ) → sparse ks e j < order
  unfolding sparse
  sparse_code [] e j = zero_code φ laws
  sparse_code (m ∷ ks) e j = sum_code (prod (power φ m j) (e m)) (sparse ks e j)

  sparse_check : (n : ℕ) (f : ℕ → Bool) (e : ℕ → ℕ) (j : ℕ) → field_sum φ n (λ i. prod (power φ i j) (only_at f e i)) ≡ sparse (seats n f) e j
  unfolding field_sum seats sparse
  sparse_check zero f e j = refl
  sparse_check (suc n) f e j = ap (λ x. sum x (prod (power φ n j) (only_at f e n))) (sparse_check n f e j) ∙ go (f n)
    where
      go : (b : Bool) → sum (sparse (seats n f) e j) (prod (power φ n j) (cond b (e n) 0)) ≡ sparse (cond b (n ∷ seats n f) (seats n f)) e j
      go true = sum_comm (sparse (seats n f) e j) (prod (power φ n j) (e n))
      go false = ap (sum (sparse (seats n f) e j)) (prod_zero φ laws (power φ n j)) ∙ sum_zero (sparse (seats n f) e j) (sparse_code (seats n f) e j)

  remaining_is : (ks : List ℕ) (e s : ℕ → ℕ) (j : ℕ) → s j < order → remaining φ ks (map e ks) s j ≡ sum (s j) (prod (neg 1) (sparse ks e j))
  unfolding remaining added sparse
  remaining_is [] e s j h = sym (ap (sum (s j)) (prod_zero φ laws (neg 1)) ∙ sum_zero (s j) h)
  remaining_is (m ∷ ks) e s j h =
      let p = power φ m j in
      remaining_is ks e (added φ m (neg (e m)) s) j (sum_code (s j) (prod p (neg (e m))))
      ∙ sum_assoc (s j) (prod p (neg (e m))) (prod (neg 1) (sparse ks e j))
      ∙ ap (λ x. sum (s j) (sum x (prod (neg 1) (sparse ks e j)))) (ap (prod p) (minus_one φ laws (e m)) ∙ prod_left_comm φ laws p (neg 1) (e m))
      ∙ ap (sum (s j)) (sym (prod_sum (neg 1) (prod p (e m)) (sparse ks e j)))

  corrected_past : (ks vs : List ℕ) (w : ℕ → ℕ) (n i : ℕ) → Below n ks → n ≤ i → corrected φ ks vs w i ≡ w i
  unfolding corrected taken Below
  corrected_past [] vs w n i b h = refl
  corrected_past (m ∷ ks) [] w n i b h = refl
  corrected_past (m ∷ ks) (v ∷ vs) w n i b h =
      let l = b.0 in
      corrected_past ks vs (taken φ m v w) n i b.1 h ∙ ap (λ t. cond t (sum (w i) (neg v)) (w i)) (ne_eqb i m (λ e. omega arith))

  corrected_is : (n : ℕ) (f : ℕ → Bool) (e w : ℕ → ℕ) (i : ℕ) → i < n → corrected φ (seats n f) (map e (seats n f)) w i ≡ cond (f i) (sum (w i) (neg (e i))) (w i)
  unfolding seats corrected taken
  corrected_is zero f e w i h = absurd (omega arith)
  corrected_is (suc n) f e w i h = go (f n) refl (ℕ_discrete i n) (λ u l. corrected_is n f e u i l)
    where
      go : (b : Bool) → f n ≡ b → Dec (i ≡ n) → ((u : ℕ → ℕ) → i < n → corrected φ (seats n f) (map e (seats n f)) u i ≡ cond (f i) (sum (u i) (neg (e i))) (u i))
          → corrected φ (cond b (n ∷ seats n f) (seats n f)) (map e (cond b (n ∷ seats n f) (seats n f))) w i ≡ cond (f i) (sum (w i) (neg (e i))) (w i)
      go true q (yes p) r =
          corrected_past (seats n f) (map e (seats n f)) (taken φ n (e n) w) n i (seats_below n f) (omega arith)
          ∙ ap (λ t. cond t (sum (w i) (neg (e n))) (w i)) (eq-eqb i n p) ∙ ap (λ k. sum (w i) (neg (e k))) (sym p)
          ∙ sym (ap (λ t. cond t (sum (w i) (neg (e i))) (w i)) (ap f p ∙ q))
      go true q (no d) r =
          r (taken φ n (e n) w) (omega arith)
          ∙ ap (λ x. cond (f i) (sum x (neg (e i))) x) (ap (λ t. cond t (sum (w i) (neg (e n))) (w i)) (ne_eqb i n d))
      go false q (yes p) r =
          corrected_past (seats n f) (map e (seats n f)) w n i (seats_below n f) (omega arith) ∙ sym (ap (λ t. cond t (sum (w i) (neg (e i))) (w i)) (ap f p ∙ q))
      go false q (no d) r = r w (omega arith)

module _ (φ : FieldModel) (laws : FieldLaws φ) (n r t : ℕ) (hn : n ≤ φ.order) (two : t + t ≤ r) (some : 0 < r) (w : ℕ → ℕ) (hw : (i : ℕ) → i < n → w i < φ.order)
    (s : ℕ → ℕ) (hs : (j : ℕ) → j < r → s j ≡ check φ n w j) (cs : List ℕ) (σ : Locator φ t s cs) where
  root : ℕ → Bool
  root i = eqb (value φ cs i) 0

  err : ℕ → ℕ
  err = error φ (roots φ n cs) s

  mended_minus : (i : ℕ) → i < n → mended φ n cs s w i ≡ word_minus φ laws w (only_at φ laws root err) i
  unfolding mended root err
  mended_minus i l = go (eqb (value φ cs i) 0)
    where
      go : (b : Bool) → cond b (φ.sum (w i) (φ.neg (error φ (roots φ n cs) s i))) (w i) ≡ φ.sum (w i) (φ.neg (cond b (error φ (roots φ n cs) s i) 0))
      go true = refl
      go false = sym (ap (φ.sum (w i)) (minus_one φ laws 0 ∙ prod_zero φ laws (φ.neg 1)) ∙ laws.sum_zero (w i) (hw i l))

  mended_code : (i : ℕ) → i < n → mended φ n cs s w i < φ.order
  mended_code i l = subst (λ x. x < φ.order) (sym (mended_minus i l)) (laws.sum_code (w i) (φ.neg (only_at φ laws root err i)))

  mended_check : (j : ℕ) → j < r → check φ n (mended φ n cs s w) j ≡ remaining φ (roots φ n cs) (errors φ (roots φ n cs) s) s j
  unfolding roots root check err
  mended_check j l =
      check_ext φ laws n j (mended φ n cs s w) (word_minus φ laws w (only_at φ laws root err)) mended_minus ∙ check_minus φ laws n j w (only_at φ laws root err)
      ∙ ap₂ φ.sum (sym (hs j l)) (ap (φ.prod (φ.neg 1)) (sparse_check φ laws n root err j))
      ∙ sym (remaining_is φ laws (roots φ n cs) err s j (subst (λ x. x < φ.order) (sym (hs j l)) (check_code φ laws n w j)))

  corrects : (i : ℕ) → i < n → corrected φ (roots φ n cs) (errors φ (roots φ n cs) s) w i ≡ mended φ n cs s w i
  unfolding roots mended err
  corrects i l = corrected_is φ laws n (λ i. eqb (value φ cs i) 0) err w i l

  -- mending touches roots alone
  mended_near : differing n w (mended φ n cs s w) ≤ t
  unfolding differing mended roots
  mended_near =
      let small = σ.small in
      let few : length (seats n (λ i. eqb (value φ cs i) 0)) ≤ σ.degree = few_roots φ laws n σ.degree cs hn σ.monic in
      let less = seats_le n (λ i. not (eqb (w i) (mended φ n cs s w i))) (λ i. eqb (value φ cs i) 0) (λ i l h. go i (eqb (value φ cs i) 0) h) in
      omega arith
    where
      go : (i : ℕ) (b : Bool) → not (eqb (w i) (cond b (φ.sum (w i) (φ.neg (error φ (roots φ n cs) s i))) (w i))) ≡ true → b ≡ true
      go i true h = refl
      go i false h = absurd (eqb-false (w i) (w i) (not-true (eqb (w i) (w i)) h) refl)

  Rest : ℕ → ℕ
  Rest = remaining φ (roots φ n cs) (errors φ (roots φ n cs) s) s

  finds : (c : ℕ → ℕ) → CodeWord φ n r c → differing n w c ≤ t → passes r Rest ≡ true
  unfolding Rest
  finds c hc near = all_passes r Rest (λ j l.
      sym (mended_check j l) ∙ check_ext φ laws n j (mended φ n cs s w) c (mends φ laws n r t hn two some w c hw hc near s hs cs σ) ∙ hc.pass j l)

  clears : passes r Rest ≡ true → (j : ℕ) → j < r → check φ n (mended φ n cs s w) j ≡ 0
  unfolding Rest
  clears f j l = mended_check j l ∙ passes_all r Rest f j l

  keeps : (done : Bool) → done ≡ passes r Rest
      → (w' : ℕ → ℕ) → ((i : ℕ) → i < n → w' i ≡ cond done (corrected φ (roots φ n cs) (errors φ (roots φ n cs) s) w i) (w i)) → Decoded φ n r t w w' done
  keeps true q w' e =
      let is : (i : ℕ) → i < n → w' i ≡ mended φ n cs s w i = λ i l. e i l ∙ corrects i l in
      record {
        word = λ _. record {
          code = λ i l. subst (λ x. x < φ.order) (sym (is i l)) (mended_code i l);
          pass = λ j l. check_ext φ laws n j w' (mended φ n cs s w) is ∙ clears (sym q) j l;
        };
        near = λ _. subst (λ x. x ≤ t) (sym (differing_same n w w' (mended φ n cs s w) is)) mended_near;
        kept = λ f. absurd (both_ways true f refl);
        none = λ f. absurd (both_ways true f refl);
      }
  keeps false q w' e = record {
    word = λ f. absurd (both_ways false refl f);
    near = λ f. absurd (both_ways false refl f);
    kept = λ _. e;
    none = λ _ c hc near. both_ways (passes r Rest) (sym q) (finds c hc near);
  }

pub finishes : Finishes
unfolding err Rest
finishes = keeps

differing_self : (n : ℕ) (w : ℕ → ℕ) → differing n w w ≡ 0
unfolding differing seats
differing_self zero w = refl
differing_self (suc n) w = go (eqb (w n) (w n)) (eq-eqb (w n) (w n) refl) (differing_self n w)
  where
    go : (b : Bool) → b ≡ true → length (seats n (λ i. not (eqb (w i) (w i)))) ≡ 0
        → length (cond (not b) (n ∷ seats n (λ i. not (eqb (w i) (w i)))) (seats n (λ i. not (eqb (w i) (w i))))) ≡ 0
    go true p h = h
    go false p h = absurd (both_ways false refl p)

pub stays : Stays
stays φ n r t w hw s hs h = record {
  word = λ _. record { code = hw; pass = λ j l. sym (hs j l) ∙ passes_all r s h j l };
  near = λ _. subst (λ x. x ≤ t) (sym (differing_self n w)) (omega arith);
  kept = λ f. absurd (both_ways true f refl);
  none = λ f. absurd (both_ways true f refl);
}
