-- Which numbers are no sum of few columns.
use Rattle.std.specs.Prelude.{◌≡◌, ℕ, zero, suc, ◌*◌, ◌<◌, ◌≤◌, Bool, true, false, ◌||◌, T, ◌≢◌, ◌==◌, bit_xor, refl}
use Rattle.std.proofs.Common.{sym, ap, ◌∙◌, subst, inl, inr, arith, eq-or-lt_of_le}
use Rattle.std.proofs.Math.Decide.{ℕ_discrete}
use Rattle.std.specs.Int.Bits.{xor_assoc, xor_self, xor_zero_l, xor_zero_r}
use Rattle.std.proofs.lemmas.Bool.{eqb-false, ne_eqb}
use Rattle.field.specs.Polynomials.{bit, scaled, poly_product, remainder}
use Rattle.field.specs.Defined.{degree, modulus, defined_prod}
use Rattle.ranges.specs.Ranges.{sum}
use Rattle.bch.specs.Bch.{cube}
use Rattle.bch.specs.Columns.{column, column_sum, NoSeat, NoPair}
use Rattle.bch.specs.Sums.{Binary, sum_none}
use Rattle.bch.specs.Table.{by_radius}

-- not a, and b, and c: each is computed only where it matters
abbrev unless : Bool → Bool → Bool → Bool
unless a b c = elim a [ true ↦ false | false ↦ elim b [ true ↦ c | false ↦ false ] ]

-- no 1 to k of the columns below n have the sum s
unfoldable pub free : (ℕ → ℕ) → ℕ → ℕ → ℕ → Bool
free col k s zero = true
free col zero s (suc n) = true
free col (suc k) s (suc n) = unless (s == col n) (free col k (bit_xor s (col n)) n) (free col (suc k) s n)

parts : (a b c : Bool) → T (unless a b c) → (a ≡ false) × T b × T c
parts true b c t = absurd t
parts false true c t = (refl, tt, t)
parts false false c t = absurd t

joined : (a b c : Bool) → a ≡ false → T b → T c → T (unless a b c)
joined true b c e tb tc = absurd (mathlib.Core.Bool.true≢false e)
joined false true c e tb tc = tc
joined false false c e tb tc = tb

free_shorter : (col : ℕ → ℕ) (k s n : ℕ) → T (free col k s (suc n)) → T (free col k s n)
unfolding free
free_shorter col zero s zero h = tt
free_shorter col zero s (suc n) h = tt
free_shorter col (suc k) s n h = (parts (s == col n) (free col k (bit_xor s (col n)) n) (free col (suc k) s n) h).2

free_below : (col : ℕ → ℕ) (k s m n : ℕ) → n ≤ m → T (free col k s m) → T (free col k s n)
free_below col k s zero n l h = let e : 0 ≡ n = omega arith in subst (λ (x : ℕ). T (free col k s x)) e h
free_below col k s (suc m) n l h = elim (eq-or-lt_of_le l) [
  | inl e ↦ subst (λ (x : ℕ). T (free col k s x)) (sym e) h
  | inr q ↦ free_below col k s m n (omega arith) (free_shorter col k s m h)
]

-- so a word of 1 to k ones has another sum
pub not_sum : (col : ℕ → ℕ) (k s n : ℕ) (e : ℕ → ℕ) → T (free col k s n) → Binary n e → sum n e ≤ k → 0 < sum n e → column_sum col n e ≢ s
unfolding free column_sum scaled
not_sum col k s zero e h b l p = absurd (omega arith)
not_sum col zero s (suc n) e h b l p = absurd (omega arith)
not_sum col (suc k) s (suc n) e h b l p =
    let q = parts (s == col n) (free col k (bit_xor s (col n)) n) (free col (suc k) s n) h in
    go (e n) refl (b n (omega arith)) q.0
    (λ z. not_sum col (suc k) s n e q.2 (λ i j. b i (omega arith)) (omega arith) (omega arith))
    (λ z d. not_sum col k (bit_xor s (col n)) n e q.1 (λ i j. b i (omega arith)) (omega arith) (omega arith))
  where
    go : (x : ℕ) → e n ≡ x → x < 2 → (s == col n) ≡ false
        → (e n ≡ 0 → column_sum col n e ≢ s) → (e n ≡ 1 → sum n e ≢ 0 → column_sum col n e ≢ bit_xor s (col n))
        → bit_xor (column_sum col n e) (scaled (e n) (col n)) ≢ s
    go zero z lt f without within = λ y. without z (sym (ap (λ x. bit_xor (column_sum col n e) (scaled x (col n))) z ∙ xor_zero_r (column_sum col n e)) ∙ y)
    go (suc zero) z lt f without within = λ y.
        let y1 : bit_xor (column_sum col n e) (col n) ≡ s = sym (ap (λ x. bit_xor (column_sum col n e) (scaled x (col n))) z) ∙ y in
        last y1 (ℕ_discrete (sum n e) 0)
      where
        last : bit_xor (column_sum col n e) (col n) ≡ s → Dec (sum n e ≡ 0) → ⊥
        last y1 (yes none) = eqb-false s (col n) f (sym y1 ∙ ap (λ x. bit_xor x (col n)) (sum_none col n e none) ∙ xor_zero_l (col n))
        last y1 (no d) =
            within z d (sym (xor_assoc (column_sum col n e) (col n) (col n) ∙ ap (bit_xor (column_sum col n e)) (xor_self (col n)) ∙ xor_zero_r (column_sum col n e))
            ∙ ap (λ x. bit_xor x (col n)) y1)
    go (suc (suc x)) z lt f without within = absurd (omega arith)

-- no sum of 1 to 2 columns of radius 1, or of 1 to 4 columns of radius 2, is 0
abbrev Apart : ℕ → Type 0
Apart t = T (free (column t) (2 * t) 0 16)

apart_1 : Apart 1
unfolding free column
apart_1 = tt

apart_2 : Apart 2
unfolding free column cube defined_prod degree modulus remainder poly_product bit scaled
apart_2 = tt

pub apart_below : (t n : ℕ) → (t == 1 || t == 2) ≡ true → n ≤ 16 → T (free (column t) (2 * t) 0 n)
apart_below t n ok l = free_below (column t) (2 * t) 0 16 n l (by_radius Apart apart_1 apart_2 t ok)

-- where no seat, or no two seats, have the sum s
free_none : (col : ℕ → ℕ) (s n : ℕ) → T (free col 0 s n)
unfolding free
free_none col s zero = tt
free_none col s (suc n) = tt

pub free_one : (t s n : ℕ) → NoSeat t s n → T (free (column t) 1 s n)
unfolding free
free_one t s zero h = tt
free_one t s (suc n) h =
    joined (s == column t n) (free (column t) 0 (bit_xor s (column t n)) n) (free (column t) 1 s n)
    (ne_eqb s (column t n) (λ e. h n (omega arith) (sym e))) (free_none (column t) (bit_xor s (column t n)) n)
    (free_one t s n (λ a l. h a (omega arith)))

pub free_two : (t s n : ℕ) → NoSeat t s n → NoPair t s n → T (free (column t) 2 s n)
unfolding free
free_two t s zero h p = tt
free_two t s (suc n) h p =
    joined (s == column t n) (free (column t) 1 (bit_xor s (column t n)) n) (free (column t) 2 s n)
    (ne_eqb s (column t n) (λ e. h n (omega arith) (sym e))) (free_one t (bit_xor s (column t n)) n (p n (omega arith)))
    (free_two t s n (λ a l. h a (omega arith)) (λ b l. p b (omega arith)))
