-- A text that decodes and has no capital digit is the text of its bytes in lower case.
use Rattle.std.proofs.Common.{◌≡◌, ℕ, zero, suc, ◌+◌, ◌*◌, ◌/◌, ◌%◌, ◌<◌, ◌==◌, nat_lt, Bool, true, ◌&&◌, if◌then◌else◌, List, [], ◌∷◌, length, slice_index, Some, None, Option, Ok, Err, Result, refl, ap, ◌∙◌, arith, inl, inr}
use Rattle.std.proofs.lemmas.Bool.{and_parts, cases_lt, eqb-true}
use Rattle.std.specs.Prelude.{IsOk, MatchResult, OnOk}
use Rattle.std.specs.Result.{result_unwrap_or}
use Rattle.hex.specs.Hex.{decode_pairs, decode_sized, digit_or_error, encode_lower, encode_with, hex_digit_value, lower_digits, pair_value, value_at, ◌>>=◌}
use Rattle.hex.specs.declared.error.FromHexError.{FromHexError}
use Rattle.replay.specs.Bytes.{NoCapital, written}

-- the digit of each value, by its code
abbrev digit_code : ℕ → ℕ
digit_code d = if nat_lt d 10 then d + 48 else d + 87

abbrev all_digits : ℕ → Bool
all_digits zero = true
all_digits (suc n) = (slice_index lower_digits n == digit_code n) && all_digits n

all_digits-at : (n d : ℕ) → all_digits n ≡ true → d < n → slice_index lower_digits d ≡ digit_code d
all_digits-at zero d h lt = absurd (omega arith)
all_digits-at (suc n) d h lt =
    let parts = and_parts (slice_index lower_digits n == digit_code n) (all_digits n) h in
    elim (cases_lt d n) [
      | inl below ↦ all_digits-at n d parts.1 below
      | inr top ↦
          let e : d ≡ n = omega arith in
          rw e (eqb-true (slice_index lower_digits n) (digit_code n) parts.0)
    ]

lower_at : (d : ℕ) → d < 16 → slice_index lower_digits d ≡ digit_code d
lower_at d lt = all_digits-at 16 d refl lt

-- a digit that is no capital is that of its value
digit_back : (c v : ℕ) → NoCapital c → hex_digit_value c ≡ Some v → (v < 16) × (slice_index lower_digits v ≡ c)
digit_back c v h e =
    let small : v < 16 = grind arith in
    let code : digit_code v ≡ c = grind arith in
    (small, lower_at v small ∙ code)

-- what an Ok after >>= shows
bind_ok : {A B : Type 0} (r : Result A FromHexError) (f : A → Result B FromHexError) (y : B)
    → (r >>= f) ≡ Ok y → (x : A) × (r ≡ Ok x) × (f x ≡ Ok y)
bind_ok (Ok x) f y h = (x, refl, h)
bind_ok (Err e) f y h = cc h

digit_read : (c i : ℕ) (o : Option ℕ) (v : ℕ) → digit_or_error c i o ≡ Ok v → o ≡ Some v
digit_read c i (Some w) v h = ap Some (ap (λ (r : Result ℕ FromHexError). result_unwrap_or r 0) h)
digit_read c i None v h = cc h

-- pairs of digits with no capital are the digits of what they decode to
pairs_back : (i : ℕ) (text bytes : List ℕ) → ((k : ℕ) → k < length text → NoCapital (slice_index text k))
    → decode_pairs i text ≡ Ok bytes → text ≡ encode_lower bytes
unfolding encode_with decode_pairs
pairs_back i [] bytes h e =
    let none : [] ≡ bytes = ap (λ (r : Result (List ℕ) FromHexError). result_unwrap_or r []) e in
    rw (← none) refl
pairs_back i (a ∷ []) bytes h e = cc e
pairs_back i (a ∷ b ∷ rest) bytes h e =
    let p0 = bind_ok (pair_value a b i) _ bytes e in
    let p1 = bind_ok (value_at a i) _ p0.0 p0.1 in
    let p2 = bind_ok (value_at b (i + 1)) _ p0.0 p1.2 in
    let p3 = bind_ok (decode_pairs (i + 2) rest) _ bytes p0.2 in
    let ih = pairs_back (i + 2) rest p3.0 (λ k lt. h (suc (suc k)) (omega arith)) p3.1 in
    let all : p0.0 ∷ p3.0 ≡ bytes = ap (λ (r : Result (List ℕ) FromHexError). result_unwrap_or r []) p3.2 in
    let da = digit_back a p1.0 (h 0 (omega arith)) (digit_read a i (hex_digit_value a) p1.0 p1.1) in
    let db = digit_back b p2.0 (h 1 (omega arith)) (digit_read b (i + 1) (hex_digit_value b) p2.0 p2.1) in
    let byte : p1.0 * 16 + p2.0 ≡ p0.0 = ap (λ (r : Result ℕ FromHexError). result_unwrap_or r 0) p2.2 in
    let small_a = da.0 in
    let small_b = db.0 in
    let high : p0.0 / 16 ≡ p1.0 = omega arith in
    let low : p0.0 % 16 ≡ p2.0 = omega arith in
    rw (← all) (rw (high, low, da.1, db.1) (ap (λ (t : List ℕ). a ∷ b ∷ t) ih))

sized_pairs : (text bytes : List ℕ) (n : ℕ) → decode_sized text n ≡ Ok bytes → decode_pairs 0 text ≡ Ok bytes
sized_pairs text bytes n e = grind arith

written_lower : (text bytes : List ℕ) → 0 < length text → text ≡ encode_lower bytes → text ≡ written bytes
unfolding encode_with
written_lower text [] some e = absurd (let l = ap length e in omega arith)
written_lower text (b ∷ bytes) some e = e

-- what a call of decoding leaves where it succeeds, by what decoding gives
read_back_at : {E : Type 0} (text left : List ℕ) (n : ℕ) (r : Result (List ℕ) FromHexError) (d : Result (Unit {0}) FromHexError) (m : Result (Unit {0}) E)
    → decode_sized text n ≡ r
    → ((k : ℕ) → k < length text → NoCapital (slice_index text k)) → 0 < length text
    → MatchResult r (λ bytes. (d ≡ Ok tt) × (left ≡ bytes)) (λ e. d ≡ Err e)
    → (IsOk m → IsOk d) → OnOk m (text ≡ written left)
read_back_at text left n (Ok bytes) d (Ok x) sized h some value ok =
    rw value.1 (written_lower text bytes some (pairs_back 0 text bytes h (sized_pairs text bytes n sized)))
read_back_at text left n (Err e) d (Ok x) sized h some value ok = let t = ok refl in cc (rw value at t)
read_back_at text left n r d (Err x) sized h some value ok = tt

pub read_back : {E : Type 0} (text left : List ℕ) (n : ℕ) (d : Result (Unit {0}) FromHexError) (m : Result (Unit {0}) E)
    → ((k : ℕ) → k < length text → NoCapital (slice_index text k)) → 0 < length text
    → MatchResult (decode_sized text n) (λ bytes. (d ≡ Ok tt) × (left ≡ bytes)) (λ e. d ≡ Err e)
    → (IsOk m → IsOk d) → OnOk m (text ≡ written left)
read_back text left n d m = read_back_at text left n (decode_sized text n) d m refl
