-- What the decoder finds is what decoding is defined to be.
use Rattle.std.proofs.Common.{◌≡◌, ℕ, ◌<◌, ◌≤◌, Bool, true, false, cond, ◌||◌, T, eqb, ltb, ◌≢◌, List, length, Some, None, Option, sym, refl, ap, ◌∙◌, subst, arith, lit≤}
use native.Mathlib.Decide.{ℕ_discrete}
use lib.Bits.{bit_xor, xor_assoc, xor_self, xor_zero_r}
use Rattle.std.proofs.lemmas.Bool.{and_parts, and_from, eqb-true, ltb-true}
use Rattle.ranges.specs.Ranges.{every, apart, differ}
use Rattle.ranges.proofs.Tests.{every_at, apart_le}
use Rattle.component.specs.Model.{CodeModel, is_word, over_field}
use Rattle.component.specs.Decoding.{decoded}
use Rattle.component.proofs.Search.{decoded_near, decoded_only, word_codes}
use Rattle.bch.specs.Bch.{code_if, bch, within_limits}
use Rattle.bch.specs.Columns.{column, column_sum, syndrome, flipped, NoSeat, NoPair}
use Rattle.bch.specs.Table.{by_radius}
use Rattle.bch.specs.Sums.{Binary, sum_none, sum_apart}
use Rattle.bch.specs.Distance.{free, not_sum, free_one, free_two}
use Rattle.bch.specs.Words.{at, limits, word_from, sum_of_word, code_laws, no_code_laws}
use Rattle.bch.proofs.Flips.{flip_length, flip_binary, flip_sum, flip_near, differ_self}

-- a word of bits, as long as a code within the limits has seats
module _ (n t : ℕ) (small : n ≤ 16) (ok : (eqb t 1 || eqb t 2) ≡ true) (xs : List ℕ) (len : length xs ≡ n) (bits : Binary n (at xs)) where
  abbrev code : CodeModel
  code = code_if true n t

  abbrev s : ℕ
  s = column_sum (column t) n (at xs)

  -- a code word within the radius is what is decoded
  found : (ys : List ℕ) → length ys ≡ n → Binary n (at ys) → column_sum (column t) n (at ys) ≡ 0 → differ n xs ys ≤ t → decoded code xs ≡ Some ys
  found ys l b z near = decoded_only code (code_laws n t small ok) xs ys (word_from n t small ok ys l b z) near

  stays : s ≡ 0 → decoded code xs ≡ Some xs
  stays z = found xs len bits z (omega (arith, differ_self n xs))

  -- one bit turned
  one : (a : ℕ) → a < n → column t a ≡ s → decoded code xs ≡ Some (flipped a xs)
  one a l e =
      found (flipped a xs) (flip_length n xs a len l) (flip_binary n xs a len l bits)
      (flip_sum n xs a len l (column t) bits ∙ ap (bit_xor s) e ∙ xor_self s)
      (omega (arith, flip_near n xs a len l xs, differ_self n xs, by_radius (λ t. 1 ≤ t) (lit≤ tt) (lit≤ tt) t ok))

  -- two bits turned
  two : (a b : ℕ) → t ≡ 2 → a < n → b < n → column t a ≡ bit_xor s (column t b) → decoded code xs ≡ Some (flipped b (flipped a xs))
  two a b r la lb e =
      let ys = flipped a xs in
      let len' = flip_length n xs a len la in
      let bits' = flip_binary n xs a len la bits in
      let sum' : column_sum (column t) n (at ys) ≡ column t b
      = flip_sum n xs a len la (column t) bits ∙ ap (bit_xor s) e ∙ sym (xor_assoc s s (column t b)) ∙ ap (λ x. bit_xor x (column t b)) (xor_self s) in
      found (flipped b ys) (flip_length n ys b len' lb) (flip_binary n ys b len' lb bits')
      (flip_sum n ys b len' lb (column t) bits' ∙ ap (λ x. bit_xor x (column t b)) sum' ∙ xor_self (column t b))
      (omega (arith, flip_near n ys b len' lb xs, flip_near n xs a len la xs, differ_self n xs))

  -- a code word that is near differs where columns have the sum s
  none_near : s ≢ 0 → T (free (column t) t s n) → (ys : List ℕ) → is_word code ys ≡ true → differ n xs ys ≤ t → ⊥
  none_near nz f ys w l = go (ℕ_discrete (differ n xs ys) 0)
    where
      parts : column_sum (column t) n (λ i. apart (at xs i) (at ys i)) ≡ s
      parts = sym (sum_apart (column t) n (at xs) (at ys) bits (word_codes code ys w)) ∙ ap (bit_xor s) (sum_of_word n t small ok ys w) ∙ xor_zero_r s

      go : Dec (differ n xs ys ≡ 0) → ⊥
      go (yes z) = nz (sym parts ∙ sum_none (column t) n (λ i. apart (at xs i) (at ys i)) z)
      go (no d) =
          not_sum (column t) t s n (λ i. apart (at xs i) (at ys i)) f (λ i k. omega (arith, apart_le (at xs i) (at ys i))) l (omega arith) parts

  -- nothing near
  none : s ≢ 0 → T (free (column t) t s n) → decoded code xs ≡ None
  none nz f = go (decoded code xs) refl
    where
      go : (o : Option (List ℕ)) → decoded code xs ≡ o → decoded code xs ≡ None
      go None e = e
      go (Some ys) e = let p = decoded_near code xs ys e in absurd (none_near nz f ys p.0 p.1)

  none_1 : t ≢ 2 → s ≢ 0 → NoSeat t s n → decoded code xs ≡ None
  none_1 d nz h = let e : t ≡ 1 = by_radius (λ t. t ≢ 2 → t ≡ 1) (λ _. refl) (λ f. absurd (f refl)) t ok d in
      none nz (subst (λ (k : ℕ). T (free (column t) k s n)) (sym e) (free_one t s n h))

  none_2 : t ≡ 2 → s ≢ 0 → NoSeat t s n → NoPair t s n → decoded code xs ≡ None
  none_2 e nz h p = none nz (subst (λ (k : ℕ). T (free (column t) k s n)) (sym e) (free_two t s n h p))

-- a word over the field
word_size : (b : Bool) (n t : ℕ) (xs : List ℕ) → over_field (code_if b n t) xs ≡ true → length xs ≡ cond b n 0
word_size b n t xs h = eqb-true (length xs) (cond b n 0) (and_parts (eqb (length xs) (cond b n 0)) (every (cond b n 0) (λ i. ltb (at xs i) 2)) h).0

word_bits : (b : Bool) (n t : ℕ) (xs : List ℕ) → over_field (code_if b n t) xs ≡ true → Binary (cond b n 0) (at xs)
word_bits b n t xs h i k =
    ltb-true (at xs i) 2 (every_at (cond b n 0) (λ i. ltb (at xs i) 2)
    (and_parts (eqb (length xs) (cond b n 0)) (every (cond b n 0) (λ i. ltb (at xs i) 2)) h).1 i k)

-- a word over the field, for any size and radius
module _ (n t : ℕ) (xs : List ℕ) (over : over_field (bch n t) xs ≡ true) where
  few : length xs ≤ 16
  few = go (within_limits n t) refl over
    where
      go : (b : Bool) → within_limits n t ≡ b → over_field (code_if b n t) xs ≡ true → length xs ≤ 16
      go true e h = omega (arith, word_size true n t xs h, (limits n t e).0)
      go false e h = omega (arith, word_size false n t xs h)

  -- to show it within the limits is enough where the word has a seat
  by_limits : (o : Option (List ℕ)) → 0 < length xs
      → ((small : length xs ≤ 16) (ok : (eqb t 1 || eqb t 2) ≡ true) → Binary (length xs) (at xs) → decoded (code_if true (length xs) t) xs ≡ o)
      → decoded (bch n t) xs ≡ o
  by_limits o p f = go (within_limits n t) refl over
    where
      go : (b : Bool) → within_limits n t ≡ b → over_field (code_if b n t) xs ≡ true → decoded (code_if b n t) xs ≡ o
      go true e h =
          let q = word_size true n t xs h in
          subst (λ (m : ℕ). decoded (code_if true m t) xs ≡ o) q (f few (limits n t e).1 (subst (λ (m : ℕ). Binary m (at xs)) (sym q) (word_bits true n t xs h)))
      go false e h = absurd (omega (arith, word_size false n t xs h))

  some_seat : syndrome t xs ≢ 0 → 0 < length xs
  unfolding column_sum
  some_seat nz = go (ℕ_discrete (length xs) 0)
    where
      go : Dec (length xs ≡ 0) → 0 < length xs
      go (yes e) = absurd (nz (ap (λ m. column_sum (column t) m (at xs)) e))
      go (no d) = omega arith

  -- by the sum that the code works out
  pub settle_stays : syndrome t xs ≡ 0 → decoded (bch n t) xs ≡ Some xs
  unfolding is_word
  settle_stays z = go (within_limits n t) refl over
    where
      go : (b : Bool) → within_limits n t ≡ b → over_field (code_if b n t) xs ≡ true → decoded (code_if b n t) xs ≡ Some xs
      go true e h =
          let q = word_size true n t xs h in
          let p = limits n t e in
          stays n t p.0 p.1 xs q (word_bits true n t xs h) (ap (λ m. column_sum (column t) m (at xs)) (sym q) ∙ z)
      go false e h = decoded_only (code_if false n t) (no_code_laws n t) xs xs (and_from (over_field (code_if false n t) xs) true h refl) (lit≤ tt)

  pub settle_one : (a : ℕ) → a < length xs → column t a ≡ syndrome t xs → decoded (bch n t) xs ≡ Some (flipped a xs)
  settle_one a l e = by_limits (Some (flipped a xs)) (omega arith) (λ small ok bits. one (length xs) t small ok xs refl bits a l e)

  pub settle_two : (a b : ℕ) → t ≡ 2 → a < b → b < length xs → column t a ≡ bit_xor (syndrome t xs) (column t b) → decoded (bch n t) xs ≡ Some (flipped b (flipped a xs))
  settle_two a b two_of l k e =
      by_limits (Some (flipped b (flipped a xs))) (omega arith) (λ small ok bits. two (length xs) t small ok xs refl bits a b two_of (omega arith) k e)

  pub refuse_one : t ≢ 2 → syndrome t xs ≢ 0 → NoSeat t (syndrome t xs) (length xs) → decoded (bch n t) xs ≡ None
  refuse_one d nz h = by_limits None (some_seat nz) (λ small ok bits. none_1 (length xs) t small ok xs refl bits d nz h)

  pub refuse_two : t ≡ 2 → syndrome t xs ≢ 0 → NoSeat t (syndrome t xs) (length xs) → NoPair t (syndrome t xs) (length xs) → decoded (bch n t) xs ≡ None
  refuse_two two_of nz h p = by_limits None (some_seat nz) (λ small ok bits. none_2 (length xs) t small ok xs refl bits two_of nz h p)

-- the ends of the decoder
pub ruleset settles = (settle_stays, settle_one, settle_two, refuse_one, refuse_two)
