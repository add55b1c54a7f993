-- Code words by their sums of columns.
use Rattle.std.specs.Prelude.{◌≡◌, ℕ, ◌+◌, ◌*◌, ◌≤◌, Bool, true, false, ◌&&◌, ◌||◌, ltb, List, length, ◌==◌, bit_xor, nat_eq, nat_lt, slice_index, refl}
use Rattle.std.proofs.Math.Path.{sym, ap}
use Rattle.std.proofs.Common.{ap₂, ◌∙◌, ext_get_or, arith, lit≤}
use Rattle.std.proofs.Math.Decide.{ℕ_discrete}
use Rattle.std.proofs.lemmas.List.{same_lists}
use Rattle.std.proofs.lemmas.Bool.{and_parts, and_from, eq-eqb, eqb-true, lt-ltb, ltb-true}
use Rattle.field.specs.Polynomials.{bit}
use Rattle.field_theory.proofs.Lawful.{prime_lawful}
use Rattle.ranges.specs.Ranges.{every, apart, differ}
use Rattle.ranges.proofs.Sums.{sum_pick}
use Rattle.ranges.proofs.Tests.{every_at, every_from, apart_zero, apart_le}
use Rattle.component.specs.Model.{CodeModel, CodeLaws, is_word, over_field, check_sum}
use Rattle.component.proofs.Search.{word_length, word_codes}
use Rattle.bch.specs.Bch.{code_if, bch, within_limits}
use Rattle.bch.specs.Columns.{column, column_sum}
use Rattle.bch.specs.Two.{bit_zero, zero_by_bits}
use Rattle.bch.specs.Table.{by_radius}
use Rattle.bch.specs.Sums.{Binary, sum_lt, check_bit, sum_apart}
use Rattle.bch.specs.Distance.{not_sum, apart_below}

-- the symbols of a word, by seat
abbrev pub at : List ℕ → ℕ → ℕ
at xs i = slice_index xs i

module _ (n t : ℕ) (small : n ≤ 16) (ok : (t == 1 || t == 2) ≡ true) where
  abbrev code : CodeModel
  code = code_if true n t

  pub word_from : (xs : List ℕ) → length xs ≡ n → Binary n (at xs) → column_sum (column t) n (at xs) ≡ 0 → is_word code xs ≡ true
  unfolding is_word check_sum
  word_from xs l b z =
      and_from (over_field code xs) (every (1 + 4 * t) (λ j. nat_eq (check_sum code j xs) 0))
      (and_from (length xs == n) (every n (λ i. ltb (at xs i) 2)) (eq-eqb (length xs) n l)
      (every_from n (λ i. ltb (at xs i) 2) (λ i k. lt-ltb (at xs i) 2 (b i k))))
      (every_from (1 + 4 * t) (λ j. nat_eq (check_sum code j xs) 0)
      (λ j k. eq-eqb (check_sum code j xs) 0 (check_bit t ok n (at xs) small b j k ∙ ap (bit j) z ∙ bit_zero j)))

  pub sum_of_word : (xs : List ℕ) → is_word code xs ≡ true → column_sum (column t) n (at xs) ≡ 0
  unfolding is_word check_sum
  sum_of_word xs h =
      let checks = (and_parts (over_field code xs) (every (1 + 4 * t) (λ j. nat_eq (check_sum code j xs) 0)) h).1 in
      zero_by_bits (1 + 4 * t) (column_sum (column t) n (at xs)) (sum_lt t ok n (at xs) small)
      (λ j k. sym (check_bit t ok n (at xs) small (word_codes code xs h) j k)
      ∙ eqb-true (check_sum code j xs) 0 (every_at (1 + 4 * t) (λ j. nat_eq (check_sum code j xs) 0) checks j k))

  -- words that differ nowhere are equal
  same_words : (xs ys : List ℕ) → length xs ≡ n → length ys ≡ n → differ n xs ys ≡ 0 → xs ≡ ys
  same_words xs ys lx ly z =
      ext_get_or 0 xs ys (lx ∙ sym ly) (λ k h. apart_zero (at xs k) (at ys k) (omega (arith, sum_pick n (λ i. apart (at xs i) (at ys i)) k (omega arith))))

  pub code_distance : (xs ys : List ℕ) → is_word code xs ≡ true → is_word code ys ≡ true → differ n xs ys ≤ 2 * t → xs ≡ ys
  code_distance xs ys hx hy l = go (ℕ_discrete (differ n xs ys) 0)
    where
      go : Dec (differ n xs ys ≡ 0) → xs ≡ ys
      go (yes z) = same_words xs ys (word_length code xs hx) (word_length code ys hy) z
      go (no d) =
          absurd (not_sum (column t) (2 * t) 0 n (λ i. apart (at xs i) (at ys i)) (apart_below t n ok small) (λ i k. omega (arith, apart_le (at xs i) (at ys i))) l (omega arith)
          (sym (sum_apart (column t) n (at xs) (at ys) (word_codes code xs hx) (word_codes code ys hy)) ∙ ap₂ bit_xor (sum_of_word xs hx) (sum_of_word ys hy)))

  pub code_laws : CodeLaws code
  code_laws = record {
    field_laws = prime_lawful 2 tt;
    few_checks = by_radius (λ t. 1 + 4 * t ≤ 16) (lit≤ tt) (lit≤ tt) t ok;
    small_radius = by_radius (λ t. t ≤ 7) (lit≤ tt) (lit≤ tt) t ok;
    distance = code_distance;
  }

-- no code has the laws too
pub no_code_laws : (n t : ℕ) → CodeLaws (code_if false n t)
no_code_laws n t = record {
  field_laws = prime_lawful 2 tt;
  few_checks = lit≤ tt;
  small_radius = lit≤ tt;
  distance = λ xs ys hx hy l.
      let lx = word_length (code_if false n t) xs hx in
      let ly = word_length (code_if false n t) ys hy in
      same_lists xs ys (lx ∙ sym ly) (λ k d h. absurd (omega arith));
}

-- what is within the limits
pub limits : (n t : ℕ) → within_limits n t ≡ true → (n ≤ 16) × ((t == 1 || t == 2) ≡ true)
limits n t h =
    let p = and_parts (nat_lt 0 n && nat_lt n 17) (t == 1 || t == 2) h in
    (omega (arith, ltb-true n 17 (and_parts (nat_lt 0 n) (nat_lt n 17) p.0).1), p.1)

pub lawful : (n t : ℕ) → CodeLaws (bch n t)
lawful n t = go (within_limits n t) refl
  where
    go : (b : Bool) → within_limits n t ≡ b → CodeLaws (code_if b n t)
    go true e = let p = limits n t e in code_laws n t p.0 p.1
    go false e = no_code_laws n t
