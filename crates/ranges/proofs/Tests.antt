-- Tests over a range.
use Rattle.std.proofs.Common.{◌≡◌, ℕ, zero, suc, ◌+◌, ◌<◌, ◌≤◌, Bool, true, false, length, get_or, Some, None, Option, refl, inl, inr, eq-or-lt_of_le, add-one, arith}
use Rattle.std.proofs.lemmas.Bool.Decides.{nat_tests}
use Rattle.std.proofs.lemmas.Bool.{and_parts, and_from}
use Rattle.std.proofs.lemmas.List.FromFn.{length-map-range_with_len, get_or-map-range_with_len}
use Rattle.ranges.specs.Ranges.{tabulate, every, or_else, when, first_below, apart, over}

pub length_tabulate : {X : Type 0} (n : ℕ) (f : ℕ → X) → length (tabulate n f) ≡ n
length_tabulate n f = length-map-range_with_len f 0 n

pub get_d_tabulate : {X : Type 0} (n : ℕ) (f : ℕ → X) (i : ℕ) (d : X) → i < n → get_or (tabulate n f) i d ≡ f i
get_d_tabulate n f i d h = get_or-map-range_with_len f 0 n i i d h (omega arith)

pub every_at : (n : ℕ) (f : ℕ → Bool) → every n f ≡ true → (i : ℕ) → i < n → f i ≡ true
every_at zero f h i k = absurd (omega arith)
every_at (suc n) f h i k =
    let p = and_parts (every n f) (f n) h in
    elim (eq-or-lt_of_le k) [
      | inl e ↦ let m : i ≡ n = omega arith in rw m p.1
      | inr l ↦ every_at n f p.0 i (omega arith)
    ]

pub every_from : (n : ℕ) (f : ℕ → Bool) → ((i : ℕ) → i < n → f i ≡ true) → every n f ≡ true
every_from zero f h = refl
every_from (suc n) f h = and_from (every n f) (f n) (every_from n f (λ i k. h i (omega arith))) (h n (omega arith))

-- nothing is first where the test fails everywhere
pub or_none : {X : Type 0} (a b : Option X) → or_else a b ≡ None → (a ≡ None) × (b ≡ None)
or_none None b h = (refl, h)
or_none (Some x) b h = cc

pub when_none : {X : Type 0} (b : Bool) (x : X) → when b x ≡ None → b ≡ false
when_none false x h = refl
when_none true x h = cc

pub first_none : (n : ℕ) (f : ℕ → Bool) → first_below n f ≡ None → (i : ℕ) → i < n → f i ≡ false
first_none zero f h i k = absurd (omega arith)
first_none (suc n) f h i k =
    let p = or_none (first_below n f) (when (f n) n) h in
    elim (eq-or-lt_of_le k) [
      | inl e ↦ let m : i ≡ n = omega arith in rw m (when_none (f n) n p.1)
      | inr l ↦ first_none n f p.0 i (omega arith)
    ]

pub none_first : (n : ℕ) (f : ℕ → Bool) → ((i : ℕ) → i < n → f i ≡ false) → first_below n f ≡ None
none_first zero f h = refl
none_first (suc n) f h = rw (none_first n f (λ i k. h i (omega arith)), h n (omega arith)) refl

-- a search that found nothing so far
pub first_found : (n : ℕ) (f : ℕ → Bool) (e : ℕ) → e < n → first_below e f ≡ None → f e ≡ true → first_below n f ≡ Some e
first_found zero f e l h t = absurd (omega arith)
first_found (suc n) f e l h t = elim (eq-or-lt_of_le l) [
  | inl q ↦ let m : n ≡ e = omega arith in rw (m, h, t) refl
  | inr q ↦ rw (first_found n f e (omega arith) h t) refl
]

pub first_more : (f : ℕ → Bool) (e : ℕ) → first_below e f ≡ None → f e ≡ false → first_below (e + 1) f ≡ None
first_more f e h t = rw add-one (rw (h, t) refl)

pub apart_le : (a b : ℕ) → apart a b ≤ 1
apart_le a b = grind (arith, nat_tests)

pub apart_zero : (a b : ℕ) → apart a b ≡ 0 → a ≡ b
apart_zero a b h = grind (arith, nat_tests)

pub apart_same : (a b : ℕ) → a ≡ b → apart a b ≡ 0
apart_same a b e = grind (arith, nat_tests)

pub over_le : (t n : ℕ) → over t n ≤ 1
over_le t n = grind (arith, nat_tests)

pub over_one : (t n : ℕ) → t < n → over t n ≡ 1
over_one t n h = grind (arith, nat_tests)

pub over_more : (t n : ℕ) → over t n ≡ 1 → t < n
over_more t n h = grind (arith, nat_tests)
