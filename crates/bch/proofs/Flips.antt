-- A word with one bit turned.
use Rattle.std.proofs.Common.{◌≡◌, ℕ, ◌+◌, ◌<◌, ◌≤◌, ◌≢◌, ◌⊎◌, List, length, sym, refl, ap, ◌∙◌, subst, inl, inr, arith, lit<, length-set, get_or-set_other, get_or-set_same}
use lib.Bits.{bit_xor, xor_lt}
use Rattle.std.proofs.lemmas.Bool.{cases_eq}
use Rattle.ranges.specs.Ranges.{apart, differ}
use Rattle.ranges.proofs.Sums.{sum_eq, sum_zero, sum_except}
use Rattle.ranges.proofs.Tests.{apart_same, apart_le}
use Rattle.bch.specs.Columns.{column_sum, flipped}
use Rattle.bch.specs.Sums.{Binary, sum_flip}
use Rattle.bch.specs.Words.{at}

module _ (n : ℕ) (xs : List ℕ) (a : ℕ) (len : length xs ≡ n) (l : a < n) where
  pub flip_length : length (flipped a xs) ≡ n
  flip_length = length-set xs a (bit_xor (at xs a) 1) ∙ len

  flip_same : at (flipped a xs) a ≡ bit_xor (at xs a) 1
  flip_same = get_or-set_same xs a (bit_xor (at xs a) 1) 0 (omega arith)

  flip_other : (i : ℕ) → i ≢ a → at (flipped a xs) i ≡ at xs i
  flip_other i d = get_or-set_other xs a i (bit_xor (at xs a) 1) 0 d

  pub flip_binary : Binary n (at xs) → Binary n (at (flipped a xs))
  flip_binary b i k = go (cases_eq i a)
    where
      go : (i ≡ a) ⊎ (i ≢ a) → at (flipped a xs) i < 2
      go (inl e) = subst (λ x. x < 2) (sym (ap (at (flipped a xs)) e ∙ flip_same)) (xor_lt 1 (at xs a) 1 (b a l) (lit< tt))
      go (inr d) = subst (λ x. x < 2) (sym (flip_other i d)) (b i k)

  pub flip_sum : (col : ℕ → ℕ) → Binary n (at xs) → column_sum col n (at (flipped a xs)) ≡ bit_xor (column_sum col n (at xs)) (col a)
  flip_sum col b = sum_flip col n (at xs) (at (flipped a xs)) a l (b a l) flip_same flip_other

  -- it differs from another word in one more place at most
  pub flip_near : (ws : List ℕ) → differ n ws (flipped a xs) ≤ differ n ws xs + 1
  flip_near ws =
      let f : ℕ → ℕ = λ i. apart (at ws i) (at (flipped a xs) i) in
      let g : ℕ → ℕ = λ i. apart (at ws i) (at xs i) in
      let h = sum_except n f g a l (λ i k d. let e : f i ≡ g i = ap (apart (at ws i)) (flip_other i d) in omega arith) in
      let one = apart_le (at ws a) (at (flipped a xs) a) in
      omega arith

pub differ_self : (n : ℕ) (xs : List ℕ) → differ n xs xs ≡ 0
differ_self n xs = sum_eq n (λ i. apart (at xs i) (at xs i)) (λ i. 0) (λ i k. apart_same (at xs i) (at xs i) refl) ∙ sum_zero n
