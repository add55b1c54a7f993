-- The laws of decoding.
use Rattle.std.proofs.Common.{◌≡◌, ℕ, zero, suc, ◌+◌, ◌<◌, ◌≤◌, Bool, true, false, ◌&&◌, eqb, ltb, leb, List, [], ◌∷◌, ◌++◌, map, length, get_or, Some, None, Option, inl, inr, eq-or-lt_of_le, sym, refl, ap, ◌∙◌, arith}
use Rattle.std.proofs.lemmas.Bool.{and_parts, and_from, eqb-true, ltb-true, leb-true, le-leb}
use Rattle.std.proofs.lemmas.List.Folds.{find-append}
use Rattle.std.specs.List.{range_with_len, find, flat_map}
use Rattle.std.specs.Option.{option_or}
use Rattle.ranges.specs.Ranges.{every, apart, differ}
use Rattle.ranges.proofs.Sums.{sum_lin}
use Rattle.component.specs.Model.{CodeModel, is_word, check_sum}
use Rattle.component.specs.Decoding.{all_words, near, decoded, DecodedNear, RefusedFar, DecodedOnly}
use Rattle.ranges.proofs.Tests.{every_at, apart_zero, apart_le}

-- what is found passes the test
found_passes : (f : List ℕ → Bool) (ws : List (List ℕ)) (w : List ℕ) → find f ws ≡ Some w → f w ≡ true
found_passes f [] w h = grind arith
found_passes f (v ∷ ws) w h = go (f v) refl (found_passes f ws w)
  where
    go : (b : Bool) → f v ≡ b → (find f ws ≡ Some w → f w ≡ true) → f w ≡ true
    go true e r = let k : Some v ≡ Some w = rw e at h in let m : v ≡ w = cc in rw m at e
    go false e r = r (rw e at h)

none_both : (f : List ℕ → Bool) (us vs : List (List ℕ)) → find f (us ++ vs) ≡ None → (find f us ≡ None) × (find f vs ≡ None)
none_both f us vs h = go (find f us) refl
  where
    go : (o : Option (List ℕ)) → find f us ≡ o → (find f us ≡ None) × (find f vs ≡ None)
    go None e = (e, sym (find-append f us vs ∙ ap (λ o. option_or o (find f vs)) e) ∙ h)
    go (Some w) e = grind (arith, find-append f us vs)

-- the test of the longer word is a test of the shorter one
none_after : (f : List ℕ → Bool) (x : ℕ) (ws : List (List ℕ)) → find f (map (λ (w : List ℕ). x ∷ w) ws) ≡ None → find (λ w. f (x ∷ w)) ws ≡ None
none_after f x [] h = refl
none_after f x (w ∷ ws) h = go (f (x ∷ w)) refl (none_after f x ws)
  where
    go : (b : Bool) → f (x ∷ w) ≡ b → (find f (map (λ (v : List ℕ). x ∷ v) ws) ≡ None → find (λ v. f (x ∷ v)) ws ≡ None) → find (λ v. f (x ∷ v)) (w ∷ ws) ≡ None
    go true e r = let k : Some (x ∷ w) ≡ None = rw e at h in grind arith
    go false e r = rw e (r (rw e at h))

none_each : (f : List ℕ → Bool) (ws : List (List ℕ)) (a n : ℕ) → find f (flat_map (λ x. map (λ (w : List ℕ). x ∷ w) ws) (range_with_len a n)) ≡ None
    → (x : ℕ) → a ≤ x → x < a + n → find (λ w. f (x ∷ w)) ws ≡ None
none_each f ws a zero h x l k = absurd (omega arith)
none_each f ws a (suc n) h x l k =
    let p = none_both f (map (λ (w : List ℕ). a ∷ w) ws) (flat_map (λ x. map (λ (w : List ℕ). x ∷ w) ws) (range_with_len (a + 1) n)) h in
    elim (eq-or-lt_of_le l) [
      | inl m ↦ rw (← m) (none_after f a ws p.0)
      | inr q ↦ none_each f ws (a + 1) n p.1 x (omega arith) (omega arith)
    ]

-- a word over the field is among all words
pub none_word : (q n : ℕ) (f : List ℕ → Bool) → find f (all_words q n) ≡ None
    → (w : List ℕ) → length w ≡ n → ((i : ℕ) → i < n → get_or w i 0 < q) → f w ≡ true → ⊥
none_word q zero f h [] e k t = let g : Some [] ≡ None = rw t at h in grind arith
none_word q zero f h (x ∷ w) e k t = omega arith
none_word q (suc n) f h [] e k t = omega arith
none_word q (suc n) f h (x ∷ w) e k t =
    none_word q n (λ v. f (x ∷ v)) (none_each f (all_words q n) 0 q h x (omega arith) (omega (arith, k 0 (omega arith)))) w (omega arith) (λ i j. k (suc i) (omega arith)) t

-- the parts of a code word
pub word_length : (c : CodeModel) (xs : List ℕ) → is_word c xs ≡ true → length xs ≡ c.size
unfolding is_word
word_length c xs h =
    eqb-true (length xs) c.size (and_parts (eqb (length xs) c.size) (every c.size (λ i. ltb (get_or xs i 0) c.field.order))
    (and_parts (eqb (length xs) c.size && every c.size (λ i. ltb (get_or xs i 0) c.field.order)) (every c.checks (λ j. eqb (check_sum c j xs) 0)) h).0).0

pub word_codes : (c : CodeModel) (xs : List ℕ) → is_word c xs ≡ true → (i : ℕ) → i < c.size → get_or xs i 0 < c.field.order
unfolding is_word
word_codes c xs h i k =
    ltb-true (get_or xs i 0) c.field.order (every_at c.size (λ j. ltb (get_or xs j 0) c.field.order)
    (and_parts (eqb (length xs) c.size) (every c.size (λ j. ltb (get_or xs j 0) c.field.order))
    (and_parts (eqb (length xs) c.size && every c.size (λ j. ltb (get_or xs j 0) c.field.order)) (every c.checks (λ j. eqb (check_sum c j xs) 0)) h).0).1 i k)

pub decoded_near : DecodedNear
unfolding decoded
decoded_near c xs ys h =
    let p = and_parts (is_word c ys) (leb (differ c.size xs ys) c.radius) (found_passes (near c xs) (all_words c.field.order c.size) ys h) in
    (p.0, leb-true (differ c.size xs ys) c.radius p.1)

pub refused_far : RefusedFar
unfolding decoded
refused_far c xs ys h w l =
    none_word c.field.order c.size (near c xs) h ys (word_length c ys w) (word_codes c ys w)
    (and_from (is_word c ys) (leb (differ c.size xs ys) c.radius) w (le-leb (differ c.size xs ys) c.radius l))

-- the triangle: places that differ from a third
apart_three : (a b c : ℕ) → apart a b ≤ apart c a + apart c b
apart_three a b c = go (eqb c a) (eqb c b) refl refl
  where
    go : (s t : Bool) → eqb c a ≡ s → eqb c b ≡ t → apart a b ≤ apart c a + apart c b
    go true true e f = let p = eqb-true c a e in let q = eqb-true c b f in let z = Rattle.ranges.proofs.Tests.apart_same a b (sym p ∙ q) in omega arith
    go true false e f = let k : apart c b ≡ 1 = rw f refl in omega (arith, apart_le a b)
    go false t e f = let k : apart c a ≡ 1 = rw e refl in omega (arith, apart_le a b)

differ_three : (n : ℕ) (xs ys zs : List ℕ) → differ n ys zs ≤ differ n xs ys + differ n xs zs
differ_three n xs ys zs =
    omega (
      arith,
      sum_lin n 1 0 1 1 0 (λ i. apart (get_or ys i 0) (get_or zs i 0)) (λ i. 0) (λ i. apart (get_or xs i 0) (get_or ys i 0)) (λ i. apart (get_or xs i 0) (get_or zs i 0)) (λ i. 0)
          (λ i k. omega (arith, apart_three (get_or ys i 0) (get_or zs i 0) (get_or xs i 0))),
    )

pub decoded_only : DecodedOnly
decoded_only c laws xs ys w l = go (decoded c xs) refl
  where
    go : (o : Option (List ℕ)) → decoded c xs ≡ o → decoded c xs ≡ Some ys
    go None e = absurd (refused_far c xs ys e w l)
    go (Some zs) e =
        let p = decoded_near c xs zs e in
        let m = laws.distance zs ys p.0 w (omega (arith, differ_three c.size xs zs ys, p.1)) in
        e ∙ ap Some m
