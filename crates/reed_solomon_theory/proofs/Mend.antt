-- Mending finds the code word within t seats, if there is one.
use Rattle.std.proofs.Common.{◌≡◌, ℕ, zero, suc, ◌+◌, ◌<◌, ◌≤◌, Bool, true, false, cond, not, eqb, List, [], ◌∷◌, length, sym, refl, ap, ◌∙◌, subst, ap₂, zero-add, arith}
use Rattle.std.proofs.lemmas.Bool.{eqb-false}
use Rattle.field.specs.Model.{FieldModel}
use Rattle.field.specs.Laws.{FieldLaws}
use Rattle.reed_solomon_theory.specs.Code.{check, seats, differing, CodeWord}
use Rattle.reed_solomon_theory.specs.Decode.{reciprocal, value, against, Zeros, Monic, roots, kill, without, error, mended, Locator, Mends}
use Rattle.field.proofs.Ring.{zero_code, zero_prod, prod_zero, prod_cancel, minus_eq}
use Rattle.reed_solomon_theory.proofs.Vander.{check_code}
use Rattle.reed_solomon_theory.proofs.Seats.{seats_below, kill_word}
use Rattle.reed_solomon_theory.proofs.Apart.{word_minus, check_minus, minus_same}
use Rattle.reed_solomon_theory.proofs.Poly.{value_code, few_roots}
use Rattle.reed_solomon_theory.proofs.Locate.{located}
use Rattle.reed_solomon_theory.proofs.Solve.{shed_ext, error_right}

pub without_length : (m : ℕ) (ks : List ℕ) → length (without m ks) ≤ length ks
unfolding without
without_length m [] = omega arith
without_length m (k ∷ ks) = go (eqb k m) (without_length m ks)
  where
    go : (b : Bool) → length (without m ks) ≤ length ks → length (cond b (without m ks) (k ∷ without m ks)) ≤ suc (length ks)
    go true h = omega arith
    go false h = omega arith

module _ (φ : FieldModel) (laws : FieldLaws φ) where
  open φ use {order, sum, neg, prod, inv}
  open laws use {more, sum_code, neg_code, prod_code, inv_code, sum_comm, sum_assoc, sum_zero, sum_neg, prod_comm, prod_assoc, prod_one, prod_sum, prod_inv}

  zeros_against : (cs : List ℕ) (s : ℕ → ℕ) (j : ℕ) → Zeros cs → against φ cs s j ≡ 0
  unfolding against Zeros
  zeros_against [] s j h = refl
  zeros_against (c ∷ cs) s j h = ap₂ sum (ap (λ x. prod x (s j)) h.0 ∙ zero_prod φ laws (s j)) (zeros_against cs s (suc j) h.1) ∙ sum_zero 0 (zero_code φ laws)

  -- only the checks up to the degree count
  against_ext : (l : ℕ) (cs : List ℕ) (s u : ℕ → ℕ) (j : ℕ) → Monic l cs → ((i : ℕ) → i ≤ l + j → s i ≡ u i) → against φ cs s j ≡ against φ cs u j
  unfolding against Monic
  against_ext l [] s u j m h = absurd m
  against_ext zero (c ∷ cs) s u j m h = ap₂ sum (ap (prod c) (h j (omega arith))) (zeros_against cs s (suc j) m.1 ∙ sym (zeros_against cs u (suc j) m.1))
  against_ext (suc l) (c ∷ cs) s u j m h = ap₂ sum (ap (prod c) (h j (omega arith))) (against_ext l cs s u (suc j) m (λ i k. h i (omega arith)))

  -- a less (a less b) is b
  back : (a b : ℕ) → a < order → b < order → sum a (neg (sum a (neg b))) ≡ b
  back a b ha hb =
      let x = sum a (neg b) in
      let p : sum b x ≡ a = sum_comm b x ∙ sum_assoc a (neg b) b ∙ ap (sum a) (sum_comm (neg b) b ∙ sum_neg b) ∙ sum_zero a ha in
      ap (λ y. sum y (neg x)) (sym p) ∙ sum_assoc b x (neg x) ∙ ap (sum b) (sum_neg x) ∙ sum_zero b hb

  module _ (n r t : ℕ) (hn : n ≤ order) (two : t + t ≤ r) (some : 0 < r) (w c : ℕ → ℕ) (hw : (i : ℕ) → i < n → w i < order) (hc : CodeWord φ n r c)
      (near : differing n w c ≤ t) (s : ℕ → ℕ) (hs : (j : ℕ) → j < r → s j ≡ check φ n w j) (cs : List ℕ) (σ : Locator φ t s cs) where
    same : (j : ℕ) → j < r → s j ≡ check φ n (word_minus φ laws w c) j
    same j l = hs j l ∙ sym (check_minus φ laws n j w c ∙ ap (λ x. sum (check φ n w j) x) (ap (prod (neg 1)) (hc.pass j l) ∙ prod_zero φ laws (neg 1)) ∙ sum_zero (check φ n w j) (check_code φ laws n w j))

    locates : (i : ℕ) → i < n → prod (value φ cs i) (word_minus φ laws w c i) ≡ 0
    unfolding differing
    locates = located φ laws n hn (seats n (λ i. not (eqb (w i) (c i)))) (seats_below n (λ i. not (eqb (w i) (c i)))) (word_minus φ laws w c)
        (kill_word φ laws n (λ i. not (eqb (w i) (c i))) (word_minus φ laws w c) (λ i _ q. minus_same φ laws w c i q)) cs
        (λ j l. sym (against_ext σ.degree cs s (check φ n (word_minus φ laws w c)) j σ.monic (λ i k. same i (let h = σ.small in omega arith))) ∙ σ.null j (omega arith))

    right_away : (i : ℕ) → i < n → eqb (value φ cs i) 0 ≡ false → word_minus φ laws w c i ≡ 0
    right_away i l q = prod_cancel φ laws (value φ cs i) (word_minus φ laws w c i) (value_code φ laws cs i) (sum_code (w i) (neg (c i))) (λ z. eqb-false (value φ cs i) 0 q z) (locates i l)

    error_is : (i : ℕ) → i < n → error φ (roots φ n cs) s i ≡ word_minus φ laws w c i
    unfolding error roots
    error_is i l =
        let ks = seats n (λ i. eqb (value φ cs i) 0) in
        let few : length (seats n (λ i. eqb (value φ cs i) 0)) ≤ σ.degree = few_roots φ laws n σ.degree cs hn σ.monic in
        let fewer = without_length i (seats n (λ i. eqb (value φ cs i) 0)) in
        let small = σ.small in
        ap (λ x. prod x (reciprocal φ (kill φ (without i ks) i)))
        (shed_ext φ laws (without i ks) s (check φ n (word_minus φ laws w c)) 0 (λ j k. subst (λ x. s x ≡ check φ n (word_minus φ laws w c) x) (sym (zero-add j)) (same j (omega arith))))
        ∙ error_right φ laws n hn ks (seats_below n (λ i. eqb (value φ cs i) 0)) (word_minus φ laws w c) (λ i _. sum_code (w i) (neg (c i)))
        (kill_word φ laws n (λ i. eqb (value φ cs i) 0) (word_minus φ laws w c) right_away) i l

    found : (i : ℕ) → i < n → mended φ n cs s w i ≡ c i
    unfolding mended
    found i l = go (eqb (value φ cs i) 0) refl
      where
        go : (b : Bool) → eqb (value φ cs i) 0 ≡ b → cond b (sum (w i) (neg (error φ (roots φ n cs) s i))) (w i) ≡ c i
        go true q = ap (λ x. sum (w i) (neg x)) (error_is i l) ∙ back (w i) (c i) (hw i l) (hc.code i l)
        go false q = minus_eq φ laws (w i) (c i) (hw i l) (hc.code i l) (right_away i l q)

pub mends : Mends
mends = found
