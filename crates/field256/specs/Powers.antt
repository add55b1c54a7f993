-- Powers of 2 in the field of 256: products and inverses by the tables are the defined ones.
use Rattle.std.specs.Prelude.{◌≡◌, ℕ, zero, suc, ◌+◌, ◌-◌, ◌<◌, Bool, true, ◌&&◌, T, List, [], ◌∷◌, length, Some, ◌==◌, bit_xor, nat_lt, slice_index, slice_index_or, refl}
use Rattle.std.proofs.Common.{sym, ap, ap₂, ◌∙◌, arith, zero-add, suc-add, add_comm, lit<}
use Rattle.std.proofs.lemmas.Bool.{and_parts, eqb-true, ltb-true}
use Rattle.field.specs.Model.{inverse}
use Rattle.field.specs.Polynomials.{bit, scaled}
use Rattle.field.specs.Defined.{degree, modulus, defined_sum, defined_neg, defined_prod, defined_field}
use Rattle.field.specs.Laws.{FieldLaws}
use Rattle.field.proofs.Codes.{code_is}
use Rattle.field.proofs.Ring.{zero_prod, prod_zero}
use Rattle.field.proofs.Quotients.{inverse_by}
use Rattle.field_theory.proofs.Scan.{is_true, at}
use Rattle.field_theory.proofs.Horner.{times_x, horner, dbl_lt, mul_dbl, mul_one_left}
use Rattle.field_theory.proofs.Binary.{by_horner, sum_is, neg_is}
use Rattle.field_theory.proofs.Lawful.{binary_field_lawful}
use Rattle.field256.specs.Tables.{antilogs, logs}

pub lawful : FieldLaws (defined_field 256)
lawful = binary_field_lawful 256 tt

less : 29 < 256
less = lit< tt

abbrev mul : ℕ → ℕ → ℕ
mul = horner 8 285 8

-- the defined product of two codes
product_is : (a b : ℕ) → a < 256 → b < 256 → defined_prod 256 a b ≡ mul a b
unfolding degree modulus
product_is a b ha hb = by_horner 8 29 less (lit< tt) refl refl refl a b ∙ ap₂ mul (code_is 256 a ha) (code_is 256 b hb)

-- a times x to the power i
raised : ℕ → ℕ → ℕ
raised zero a = a
raised (suc i) a = raised i (times_x 8 285 a)

raised_lt : (i a : ℕ) → a < 256 → raised i a < 256
unfolding raised
raised_lt zero a h = h
raised_lt (suc i) a h = raised_lt i (times_x 8 285 a) (dbl_lt 8 29 less a h)

raised_add : (i j a : ℕ) → raised i (raised j a) ≡ raised (j + i) a
unfolding raised
raised_add i zero a = ap (λ k. raised k a) (sym (zero-add i))
raised_add i (suc j) a = raised_add i j (times_x 8 285 a) ∙ ap (λ k. raised k a) (sym (suc-add j i))

mul_raised : (i a b : ℕ) → mul (raised i a) b ≡ raised i (mul a b)
unfolding raised
mul_raised zero a b = refl
mul_raised (suc i) a b = mul_raised i (times_x 8 285 a) b ∙ ap (raised i) (mul_dbl 8 29 less 8 a b)

-- 2 to the power i times 2 to the power j
mul_powers : (i j : ℕ) → mul (raised i 1) (raised j 1) ≡ raised (j + i) 1
mul_powers i j = mul_raised i 1 (raised j 1) ∙ ap (raised i) (mul_one_left 8 29 less 8 (raised j 1) (omega arith) (raised_lt j 1 (lit< tt))) ∙ raised_add i j 1

full : raised 255 1 ≡ 1
unfolding raised times_x bit scaled
full = refl

-- each entry is the one before it times x
abbrev chain : ℕ → List ℕ → Bool
chain a [] = true
chain a (x ∷ xs) = (x == a) && chain (times_x 8 285 a) xs

chained : (a : ℕ) (xs : List ℕ) → chain a xs ≡ true → (i : ℕ) → i < length xs → slice_index xs i ≡ raised i a
unfolding raised
chained a [] t i h = absurd (omega arith)
chained a (x ∷ xs) t zero h = eqb-true x a (and_parts (x == a) (chain (times_x 8 285 a) xs) t).0
chained a (x ∷ xs) t (suc i) h = chained (times_x 8 285 a) xs (and_parts (x == a) (chain (times_x 8 285 a) xs) t).1 i (omega arith)

antilog_is : (i : ℕ) → i < 510 → slice_index antilogs i ≡ raised i 1
unfolding antilogs times_x bit scaled
antilog_is i h = chained 1 antilogs refl i h

-- the logarithm is below 255, and its power is the number
log_test : ℕ → ℕ → Bool
log_test k l = nat_lt l 255 && (slice_index antilogs l == suc k)

log_good : (a : ℕ) → 0 < a → a < 256 → T (log_test (a - 1) (slice_index logs (a - 1)))
unfolding log_test antilogs logs
log_good a p h = at log_test logs tt (a - 1) (omega arith)

log_parts : (a : ℕ) → 0 < a → a < 256
    → (nat_lt (slice_index logs (a - 1)) 255 ≡ true) × ((slice_index antilogs (slice_index logs (a - 1)) == suc (a - 1)) ≡ true)
unfolding log_test
log_parts a p h = and_parts _ _ (is_true (log_test (a - 1) (slice_index logs (a - 1))) (log_good a p h))

pub log_lt : (a : ℕ) → 0 < a → a < 256 → slice_index logs (a - 1) < 255
log_lt a p h = ltb-true (slice_index logs (a - 1)) 255 (log_parts a p h).0

log_is : (a : ℕ) → 0 < a → a < 256 → raised (slice_index logs (a - 1)) 1 ≡ a
log_is a p h =
    let i = slice_index_or logs (a - 1) 0 in
    let l = log_lt a p h in
    sym (antilog_is i (omega arith)) ∙ eqb-true (slice_index antilogs i) (suc (a - 1)) (log_parts a p h).1 ∙ omega arith

pub two_logs : (a b : ℕ) → 0 < a → a < 256 → 0 < b → b < 256 → slice_index logs (a - 1) + slice_index logs (b - 1) < 510
two_logs a b pa ha pb hb = omega (arith, log_lt a pa ha, log_lt b pb hb)

pub product_read : (a b : ℕ) → 0 < a → a < 256 → 0 < b → b < 256 → slice_index antilogs (slice_index logs (a - 1) + slice_index logs (b - 1)) ≡ defined_prod 256 a b
product_read a b pa ha pb hb =
    let i = slice_index_or logs (a - 1) 0 in
    let j = slice_index_or logs (b - 1) 0 in
    antilog_is (i + j) (two_logs a b pa ha pb hb)
    ∙ sym (product_is a b ha hb ∙ ap₂ mul (sym (log_is a pa ha)) (sym (log_is b pb hb)) ∙ mul_powers i j ∙ ap (λ k. raised k 1) (add_comm j i))

pub product_left_zero : (b : ℕ) → 0 ≡ defined_prod 256 0 b
product_left_zero b = sym (zero_prod (defined_field 256) lawful b)

pub product_right_zero : (a : ℕ) → 0 ≡ defined_prod 256 a 0
product_right_zero a = sym (prod_zero (defined_field 256) lawful a)

pub inverse_read : (a : ℕ) → 0 < a → a < 256 → Some (slice_index antilogs (255 - slice_index logs (a - 1))) ≡ inverse (defined_field 256) a
inverse_read a p h =
    let i = slice_index_or logs (a - 1) 0 in
    let l = log_lt a p h in
    let x = raised (255 - i) 1 in
    let hx = raised_lt (255 - i) 1 (lit< tt) in
    let e : defined_prod 256 a x ≡ 1
    = product_is a x h hx ∙ ap (λ y. mul y x) (sym (log_is a p h)) ∙ mul_powers i (255 - i) ∙ ap (λ k. raised k 1) (omega arith) ∙ full in
    ap Some (antilog_is (255 - i) (omega arith)) ∙ inverse_by (defined_field 256) lawful a a x (sym (code_is 256 a h)) (λ z. omega arith) hx e

pub sum_read : (a b : ℕ) → a < 256 → b < 256 → bit_xor a b ≡ defined_sum 256 a b
sum_read a b ha hb = sym (sum_is 256 refl a b ∙ ap₂ bit_xor (code_is 256 a ha) (code_is 256 b hb))

pub neg_read : (a : ℕ) → a < 256 → a ≡ defined_neg 256 a
neg_read a ha = sym (neg_is 256 refl a ∙ code_is 256 a ha)
