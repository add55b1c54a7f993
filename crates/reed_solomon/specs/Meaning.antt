-- The code's words, its laws, and what decoding means.
use Rattle.std.specs.Prelude.{◌≡◌, ℕ, zero, suc, ◌+◌, ◌/◌, ◌<◌, ◌≤◌, Bool, true, false, cond, not, ◌&&◌, ltb, List, [], ◌∷◌, length, Some, None, Option, ◌==◌, nat_eq, nat_le, nat_lt, slice_index, refl}
use Rattle.std.proofs.Math.Path.{sym, ap}
use Rattle.std.proofs.Common.{◌∙◌, subst, arith}
use Rattle.std.proofs.lemmas.List.{ext_get_or}
use Rattle.std.proofs.lemmas.Bool.{and_parts, and_from, eqb-true, eq-eqb, ltb-true, lt-ltb, leb-true}
use Rattle.field.specs.Model.{FieldModel}
use Rattle.field.specs.Laws.{FieldLaws}
use Rattle.field.proofs.Ranges.{range_ext}
use Rattle.ranges.specs.Ranges.{every, differ}
use Rattle.ranges.proofs.Tests.{every_at, every_from}
use Rattle.component.specs.Model.{CodeModel, CodeLaws, is_word, check_sum, over_field}
use Rattle.component.specs.Decoding.{decoded}
use Rattle.component.proofs.Search.{decoded_near, decoded_only, word_length, word_codes}
use Rattle.reed_solomon_theory.specs.Code.{power, check, seats, differing, CodeWord}
use Rattle.reed_solomon_theory.specs.Promise.{Decoded}
use Rattle.reed_solomon_theory.proofs.Apart.{distance}
use Rattle.reed_solomon.specs.Words.{at}
use Rattle.reed_solomon.specs.Model.{within_limits, no_code, locator_power, power_code, reed_solomon}

-- the limits, one by one
pub record Limits (q n r : ℕ) : Type 0 where
  pub filled : 0 < n
  pub held : n ≤ q
  pub some : 0 < r
  pub few : r ≤ 8
  pub fewer : r ≤ n

pub limits : (q n r : ℕ) → within_limits q n r ≡ true → Limits q n r
limits q n r h =
    let p = and_parts (nat_lt 0 n && nat_le n q) ((nat_lt 0 r && nat_le r 8) && nat_le r n) h in
    let a = and_parts (nat_lt 0 n) (nat_le n q) p.0 in
    let b = and_parts (nat_lt 0 r && nat_le r 8) (nat_le r n) p.1 in
    let d = and_parts (nat_lt 0 r) (nat_le r 8) b.0 in
    record { filled = ltb-true 0 n a.0; held = leb-true n q a.1; some = ltb-true 0 r d.0; few = leb-true r 8 d.1; fewer = leb-true r n b.1 }

pub fit_is : (φ : FieldModel) (n r : ℕ) → (reed_solomon φ n r).fit ≡ within_limits φ.order n r
fit_is φ n r = go (within_limits φ.order n r)
  where
    go : (b : Bool) → (cond b (power_code φ n r) (no_code φ)).fit ≡ b
    go true = refl
    go false = refl

pub model_is : (φ : FieldModel) (n r : ℕ) → within_limits φ.order n r ≡ true → reed_solomon φ n r ≡ power_code φ n r
model_is φ n r h = ap (λ b. cond b (power_code φ n r) (no_code φ)) h

pub model_none : (φ : FieldModel) (n r : ℕ) → within_limits φ.order n r ≡ false → reed_solomon φ n r ≡ no_code φ
model_none φ n r h = ap (λ b. cond b (power_code φ n r) (no_code φ)) h

-- the two counts of places that differ
pub differ_is : (n : ℕ) (xs ys : List ℕ) → differ n xs ys ≡ differing n (at xs) (at ys)
unfolding differing seats
differ_is zero xs ys = refl
differ_is (suc n) xs ys = go (slice_index xs n == slice_index ys n) (differ_is n xs ys)
  where
    S : List ℕ
    S = seats n (λ i. not (slice_index xs i == slice_index ys i))

    go : (b : Bool) → differ n xs ys ≡ length S → differ n xs ys + cond b 0 1 ≡ length (cond (not b) (n ∷ S) S)
    go true h = omega arith
    go false h = omega arith

-- the parts of a word over the field
pub over_length : (c : CodeModel) (xs : List ℕ) → over_field c xs ≡ true → length xs ≡ c.size
over_length c xs h = eqb-true (length xs) c.size (and_parts (length xs == c.size) (every c.size (λ i. ltb (slice_index xs i) c.field.order)) h).0

pub over_codes : (c : CodeModel) (xs : List ℕ) → over_field c xs ≡ true → (i : ℕ) → i < c.size → slice_index xs i < c.field.order
over_codes c xs h i l =
    ltb-true (slice_index xs i) c.field.order (every_at c.size (λ i. ltb (slice_index xs i) c.field.order)
    (and_parts (length xs == c.size) (every c.size (λ i. ltb (slice_index xs i) c.field.order)) h).1 i l)

-- a word of no symbols
empty_same : (xs ys : List ℕ) → length xs ≡ 0 → length ys ≡ 0 → xs ≡ ys
empty_same [] [] e f = refl
empty_same [] (y ∷ ys) e f = absurd (omega arith)
empty_same (x ∷ xs) ys e f = absurd (omega arith)

module _ (φ : FieldModel) (laws : FieldLaws φ) where
  none_lawful : CodeLaws (no_code φ)
  none_lawful = record {
    field_laws = laws;
    few_checks = omega arith;
    small_radius = omega arith;
    distance = λ xs ys a b h. empty_same xs ys (word_length (no_code φ) xs a) (word_length (no_code φ) ys b);
  }

  -- no code: the word of no symbols is a code word
  pub none_decoded : (xs : List ℕ) → over_field (no_code φ) xs ≡ true → decoded (no_code φ) xs ≡ Some xs
  unfolding is_word
  none_decoded xs h = decoded_only (no_code φ) none_lawful xs xs (and_from (over_field (no_code φ) xs) true h refl) (omega arith)

  module _ (n r : ℕ) where
    check_is : (xs : List ℕ) (j : ℕ) → j < r → check_sum (power_code φ n r) j xs ≡ check φ n (at xs) j
    unfolding check_sum check
    check_is xs j h =
        range_ext φ laws n (λ i. φ.prod (locator_power φ n r j i) (slice_index xs i)) (λ i. φ.prod (power φ i j) (slice_index xs i))
        (λ i l. ap (λ b. φ.prod (cond b (power φ i j) 0) (slice_index xs i)) (and_from (nat_lt j r) (nat_lt i n) (lt-ltb j r h) (lt-ltb i n l)))

    word_parts : (xs : List ℕ) → is_word (power_code φ n r) xs ≡ true → CodeWord φ n r (at xs)
    unfolding is_word
    word_parts xs h = record {
      code = word_codes (power_code φ n r) xs h;
      pass = λ j l. sym (check_is xs j l) ∙ eqb-true (check_sum (power_code φ n r) j xs) 0
          (every_at r (λ j. nat_eq (check_sum (power_code φ n r) j xs) 0) (and_parts (over_field (power_code φ n r) xs) (every r (λ j. nat_eq (check_sum (power_code φ n r) j xs) 0)) h).1 j l);
    }

    word_from : (xs : List ℕ) → length xs ≡ n → CodeWord φ n r (at xs) → is_word (power_code φ n r) xs ≡ true
    unfolding is_word
    word_from xs e w =
        and_from (over_field (power_code φ n r) xs) (every r (λ j. nat_eq (check_sum (power_code φ n r) j xs) 0))
        (and_from (length xs == n) (every n (λ i. ltb (slice_index xs i) φ.order)) (eq-eqb (length xs) n e)
        (every_from n (λ i. ltb (slice_index xs i) φ.order) (λ i l. lt-ltb (slice_index xs i) φ.order (w.code i l))))
        (every_from r (λ j. nat_eq (check_sum (power_code φ n r) j xs) 0) (λ j l. eq-eqb (check_sum (power_code φ n r) j xs) 0 (check_is xs j l ∙ w.pass j l)))

    power_lawful : Limits φ.order n r → CodeLaws (power_code φ n r)
    power_lawful m =
        let h = m.few in
        record {
          field_laws = laws;
          few_checks = omega arith;
          small_radius = omega arith;
          distance = λ xs ys a b near. ext_get_or 0 xs ys (word_length (power_code φ n r) xs a ∙ sym (word_length (power_code φ n r) ys b))
              (λ i l. distance φ laws n r m.held (at xs) (at ys) (word_parts xs a) (word_parts ys b) (omega (arith, differ_is n xs ys)) i (omega (arith, word_length (power_code φ n r) xs a)));
        }

    -- what was decoded
    pub power_decoded : Limits φ.order n r → (xs ys : List ℕ) → length ys ≡ n → Decoded φ n r (r / 2) (at xs) (at ys) true → decoded (power_code φ n r) xs ≡ Some ys
    power_decoded m xs ys e d =
        decoded_only (power_code φ n r) (power_lawful m) xs ys (word_from ys e (d.word refl)) (omega (arith, differ_is n xs ys, d.near refl))

    pub power_refused : (xs ys : List ℕ) → Decoded φ n r (r / 2) (at xs) (at ys) false → decoded (power_code φ n r) xs ≡ None
    power_refused xs ys d = go (decoded (power_code φ n r) xs) refl
      where
        go : (o : Option (List ℕ)) → decoded (power_code φ n r) xs ≡ o → decoded (power_code φ n r) xs ≡ None
        go None e = e
        go (Some zs) e =
            let p = decoded_near (power_code φ n r) xs zs e in
            absurd (d.none refl (at zs) (word_parts zs p.0) (omega (arith, differ_is n xs zs, p.1)))

    pub lawful : CodeLaws (reed_solomon φ n r)
    lawful = go (within_limits φ.order n r) refl
      where
        go : (b : Bool) → within_limits φ.order n r ≡ b → CodeLaws (cond b (power_code φ n r) (no_code φ))
        go true e = power_lawful (limits φ.order n r e)
        go false e = none_lawful

-- a word that decoding left has the symbols that it had
left_same : (φ : FieldModel) (n r t : ℕ) (xs ys : List ℕ) → length xs ≡ n → length ys ≡ n → Decoded φ n r t (at xs) (at ys) false → ys ≡ xs
left_same φ n r t xs ys e f d = ext_get_or 0 ys xs (f ∙ sym e) (λ i l. d.kept refl i (omega arith))

-- the same of a value of any numbers
module _ (φ : FieldModel) (laws : FieldLaws φ) (n r : ℕ) (xs : List ℕ) (over : over_field (reed_solomon φ n r) xs ≡ true) where
  pub settled_none : (reed_solomon φ n r).fit ≡ false → decoded (reed_solomon φ n r) xs ≡ Some xs
  settled_none h =
      let m = model_none φ n r (sym (fit_is φ n r) ∙ h) in
      ap (λ c. decoded c xs) m ∙ none_decoded φ laws xs (sym (ap (λ c. over_field c xs) m) ∙ over)

  module _ (h : (reed_solomon φ n r).fit ≡ true) where
    pub inside : Limits φ.order n r
    inside = limits φ.order n r (sym (fit_is φ n r) ∙ h)

    same : reed_solomon φ n r ≡ power_code φ n r
    same = model_is φ n r (sym (fit_is φ n r) ∙ h)

    over_power : over_field (power_code φ n r) xs ≡ true
    over_power = sym (ap (λ c. over_field c xs) same) ∙ over

    pub full : length xs ≡ n
    full = over_length (power_code φ n r) xs over_power

    pub codes : (i : ℕ) → i < length xs → at xs i < φ.order
    codes i l = over_codes (power_code φ n r) xs over_power i (omega (arith, full))

    pub settled_done : (ys : List ℕ) → length ys ≡ length xs → Decoded φ (length xs) r (r / 2) (at xs) (at ys) true → decoded (reed_solomon φ n r) xs ≡ Some ys
    settled_done ys e d =
        ap (λ c. decoded c xs) same ∙ power_decoded φ laws n r inside xs ys (e ∙ full) (subst (λ k. Decoded φ k r (r / 2) (at xs) (at ys) true) full d)

    pub settled_not : (ys : List ℕ) → Decoded φ (length xs) r (r / 2) (at xs) (at ys) false → decoded (reed_solomon φ n r) xs ≡ None
    settled_not ys d = ap (λ c. decoded c xs) same ∙ power_refused φ laws n r xs ys (subst (λ k. Decoded φ k r (r / 2) (at xs) (at ys) false) full d)

    pub settled_left : (ys : List ℕ) → length ys ≡ length xs → Decoded φ (length xs) r (r / 2) (at xs) (at ys) false → ys ≡ xs
    settled_left ys e d = left_same φ (length xs) r (r / 2) xs ys refl e d
