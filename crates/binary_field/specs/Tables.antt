-- The tables of products and inverses are right.
use Rattle.std.specs.Prelude.{◌≡◌, ℕ, zero, suc, ◌+◌, ◌*◌, ◌/◌, ◌%◌, ◌<◌, Bool, true, false, ◌&&◌, T, List, [], ◌∷◌, length, Some, ◌==◌, ◌≢◌, bit_xor, nat_lt, slice_index, refl}
use Rattle.std.proofs.Common.{sym, ap, ap₂, ◌∙◌, subst, eqb→eq}
use Rattle.std.proofs.lemmas.Nat.{div-mul-add, mod-mul-add, mul-add-lt}
use Rattle.std.proofs.lemmas.Bool.{and_parts, eqb-true, ltb-true, ne_eqb}
use Rattle.field.specs.Model.{as_code, inverse}
use Rattle.field.specs.Polynomials.{bit, scaled, poly_product, remainder}
use Rattle.field.specs.Defined.{among, prime_orders, degree, modulus, defined_sum, defined_neg, defined_prod, defined_inv, defined_field}
use Rattle.field.specs.Laws.{FieldLaws}
use Rattle.field.proofs.Ring.{read_lt, inverse_only}
use Rattle.field_theory.proofs.Scan.{is_true, every, at}
use Rattle.field_theory.proofs.Lawful.{binary_field_lawful}
use Rattle.field_theory.proofs.Binary.{sum_is, neg_is}
use Rattle.binary_field.specs.declared.BinaryField.{BinaryField}
use Rattle.binary_field.specs.declared.BinaryField.TheVariants.{Of4, Of8, Of16}
use Rattle.binary_field.specs.Orders.{order_of}

-- the laws at each order
pub lawful : (f : BinaryField) → FieldLaws (defined_field (order_of f))
lawful Of4 = binary_field_lawful 4 tt
lawful Of8 = binary_field_lawful 8 tt
lawful Of16 = binary_field_lawful 16 tt

no_prime : (f : BinaryField) → among (order_of f) prime_orders ≡ false
no_prime Of4 = refl
no_prime Of8 = refl
no_prime Of16 = refl

pub sum_read : (f : BinaryField) (a b x y : ℕ) → x ≡ as_code (order_of f) a → y ≡ as_code (order_of f) b → bit_xor x y ≡ defined_sum (order_of f) a b
sum_read f a b x y ex ey = ap₂ bit_xor ex ey ∙ sym (sum_is (order_of f) (no_prime f) a b)

pub neg_read : (f : BinaryField) (a x : ℕ) → x ≡ as_code (order_of f) a → x ≡ defined_neg (order_of f) a
neg_read f a x ex = ex ∙ sym (neg_is (order_of f) (no_prime f) a)

-- the tables as the code has them
unfoldable pub products4 : List ℕ
products4 = 0 ∷ 0 ∷ 0 ∷ 0 ∷ 0 ∷ 1 ∷ 2 ∷ 3 ∷ 0 ∷ 2 ∷ 3 ∷ 1 ∷ 0 ∷ 3 ∷ 1 ∷ 2 ∷ []

unfoldable pub inverses4 : List ℕ
inverses4 = 0 ∷ 1 ∷ 3 ∷ 2 ∷ []

unfoldable pub products8 : List ℕ
products8 = 0 ∷ 0 ∷ 0 ∷ 0 ∷ 0 ∷ 0 ∷ 0 ∷ 0 ∷ 0 ∷ 1 ∷ 2 ∷ 3 ∷ 4 ∷ 5 ∷ 6 ∷ 7 ∷ 0 ∷ 2 ∷ 4 ∷ 6 ∷ 3 ∷ 1 ∷ 7 ∷ 5 ∷ 0 ∷ 3 ∷ 6 ∷ 5 ∷ 7 ∷ 4 ∷ 1 ∷ 2 ∷ 0 ∷ 4 ∷ 3 ∷ 7 ∷ 6 ∷ 2 ∷ 5 ∷ 1 ∷ 0 ∷ 5 ∷ 1 ∷ 4 ∷ 2 ∷ 7 ∷ 3 ∷ 6 ∷ 0 ∷ 6 ∷ 7 ∷ 1 ∷ 5 ∷ 3 ∷ 2 ∷ 4 ∷ 0 ∷ 7 ∷ 5 ∷ 2 ∷ 1 ∷ 6 ∷ 4 ∷ 3 ∷ []

unfoldable pub inverses8 : List ℕ
inverses8 = 0 ∷ 1 ∷ 5 ∷ 6 ∷ 7 ∷ 2 ∷ 3 ∷ 4 ∷ []

unfoldable pub products16 : List ℕ
products16 = 0 ∷ 0 ∷ 0 ∷ 0 ∷ 0 ∷ 0 ∷ 0 ∷ 0 ∷ 0 ∷ 0 ∷ 0 ∷ 0 ∷ 0 ∷ 0 ∷ 0 ∷ 0 ∷ 0 ∷ 1 ∷ 2 ∷ 3 ∷ 4 ∷ 5 ∷ 6 ∷ 7 ∷ 8 ∷ 9 ∷ 10 ∷ 11 ∷ 12 ∷ 13 ∷ 14 ∷ 15 ∷ 0 ∷ 2 ∷ 4 ∷ 6 ∷ 8 ∷ 10 ∷ 12 ∷ 14 ∷ 3 ∷ 1 ∷ 7 ∷ 5 ∷ 11 ∷ 9 ∷ 15 ∷ 13 ∷ 0 ∷ 3 ∷ 6 ∷ 5 ∷ 12 ∷ 15 ∷ 10 ∷ 9 ∷ 11 ∷ 8 ∷ 13 ∷ 14 ∷ 7 ∷ 4 ∷ 1 ∷ 2 ∷ 0 ∷ 4 ∷ 8 ∷ 12 ∷ 3 ∷ 7 ∷ 11 ∷ 15 ∷ 6 ∷ 2 ∷ 14 ∷ 10 ∷ 5 ∷ 1 ∷ 13 ∷ 9 ∷ 0 ∷ 5 ∷ 10 ∷ 15 ∷ 7 ∷ 2 ∷ 13 ∷ 8 ∷ 14 ∷ 11 ∷ 4 ∷ 1 ∷ 9 ∷ 12 ∷ 3 ∷ 6 ∷ 0 ∷ 6 ∷ 12 ∷ 10 ∷ 11 ∷ 13 ∷ 7 ∷ 1 ∷ 5 ∷ 3 ∷ 9 ∷ 15 ∷ 14 ∷ 8 ∷ 2 ∷ 4 ∷ 0 ∷ 7 ∷ 14 ∷ 9 ∷ 15 ∷ 8 ∷ 1 ∷ 6 ∷ 13 ∷ 10 ∷ 3 ∷ 4 ∷ 2 ∷ 5 ∷ 12 ∷ 11 ∷ 0 ∷ 8 ∷ 3 ∷ 11 ∷ 6 ∷ 14 ∷ 5 ∷ 13 ∷ 12 ∷ 4 ∷ 15 ∷ 7 ∷ 10 ∷ 2 ∷ 9 ∷ 1 ∷ 0 ∷ 9 ∷ 1 ∷ 8 ∷ 2 ∷ 11 ∷ 3 ∷ 10 ∷ 4 ∷ 13 ∷ 5 ∷ 12 ∷ 6 ∷ 15 ∷ 7 ∷ 14 ∷ 0 ∷ 10 ∷ 7 ∷ 13 ∷ 14 ∷ 4 ∷ 9 ∷ 3 ∷ 15 ∷ 5 ∷ 8 ∷ 2 ∷ 1 ∷ 11 ∷ 6 ∷ 12 ∷ 0 ∷ 11 ∷ 5 ∷ 14 ∷ 10 ∷ 1 ∷ 15 ∷ 4 ∷ 7 ∷ 12 ∷ 2 ∷ 9 ∷ 13 ∷ 6 ∷ 8 ∷ 3 ∷ 0 ∷ 12 ∷ 11 ∷ 7 ∷ 5 ∷ 9 ∷ 14 ∷ 2 ∷ 10 ∷ 6 ∷ 1 ∷ 13 ∷ 15 ∷ 3 ∷ 4 ∷ 8 ∷ 0 ∷ 13 ∷ 9 ∷ 4 ∷ 1 ∷ 12 ∷ 8 ∷ 5 ∷ 2 ∷ 15 ∷ 11 ∷ 6 ∷ 3 ∷ 14 ∷ 10 ∷ 7 ∷ 0 ∷ 14 ∷ 15 ∷ 1 ∷ 13 ∷ 3 ∷ 2 ∷ 12 ∷ 9 ∷ 7 ∷ 6 ∷ 8 ∷ 4 ∷ 10 ∷ 11 ∷ 5 ∷ 0 ∷ 15 ∷ 13 ∷ 2 ∷ 9 ∷ 6 ∷ 4 ∷ 11 ∷ 1 ∷ 14 ∷ 12 ∷ 3 ∷ 8 ∷ 7 ∷ 5 ∷ 10 ∷ []

unfoldable pub inverses16 : List ℕ
inverses16 = 0 ∷ 1 ∷ 9 ∷ 14 ∷ 13 ∷ 11 ∷ 7 ∷ 6 ∷ 15 ∷ 2 ∷ 12 ∷ 5 ∷ 10 ∷ 4 ∷ 3 ∷ 8 ∷ []

-- the tables of each field
abbrev pub products : BinaryField → List ℕ
products Of4 = products4
products Of8 = products8
products Of16 = products16

abbrev pub inverses : BinaryField → List ℕ
inverses Of4 = inverses4
inverses Of8 = inverses8
inverses Of16 = inverses16

-- the rule of a table of products in the field of order q, by rows
abbrev product_fits : ℕ → ℕ → ℕ → Bool
product_fits q i x = x == defined_prod q (i / q) (i % q)

module _ (q : ℕ) (laws : FieldLaws (defined_field q)) (table : List ℕ) (size : length table ≡ q * q) (test : T (every (product_fits q) table)) where
  pub product_entry : (a b x y : ℕ) → x ≡ as_code q a → y ≡ as_code q b → x < q → y < q → slice_index table (x * q + y) ≡ defined_prod q a b
  product_entry a b x y ex ey hx hy =
      let i = x * q + y in
      let h : i < length table = subst (λ n. i < n) (sym size) (mul-add-lt x q y q hx hy) in
      eqb→eq (slice_index table i) (defined_prod q (i / q) (i % q)) (at (product_fits q) table test i h)
      ∙ ap₂ (defined_prod q) (div-mul-add x q y hy ∙ ex) (mod-mul-add x q y hy ∙ ey) ∙ sym (laws.prod_reads a b)

products_length : (f : BinaryField) → length (products f) ≡ order_of f * order_of f
unfolding products4 products8 products16
products_length Of4 = refl
products_length Of8 = refl
products_length Of16 = refl

products_right : (f : BinaryField) → T (every (product_fits (order_of f)) (products f))
unfolding products4 products8 products16 defined_prod degree modulus remainder poly_product bit scaled
products_right Of4 = tt
products_right Of8 = tt
products_right Of16 = tt

pub product_at : (f : BinaryField) (a b x y : ℕ) → x ≡ as_code (order_of f) a → y ≡ as_code (order_of f) b
    → slice_index (products f) (x * order_of f + y) ≡ defined_prod (order_of f) a b
product_at f a b x y ex ey =
    let q = order_of f in
    product_entry q (lawful f) (products f) (products_length f) (products_right f) a b x y ex ey
    (read_lt (defined_field q) (lawful f) a x ex) (read_lt (defined_field q) (lawful f) b y ey)

-- the rule of a table of inverses
abbrev inverse_fits : ℕ → ℕ → ℕ → Bool
inverse_fits q zero x = true
inverse_fits q (suc a) x = nat_lt x q && (defined_prod q (suc a) x == 1)

inverses_length : (f : BinaryField) → length (inverses f) ≡ order_of f
unfolding inverses4 inverses8 inverses16
inverses_length Of4 = refl
inverses_length Of8 = refl
inverses_length Of16 = refl

inverses_right : (f : BinaryField) → T (every (inverse_fits (order_of f)) (inverses f))
unfolding inverses4 inverses8 inverses16 defined_prod degree modulus remainder poly_product bit scaled
inverses_right Of4 = tt
inverses_right Of8 = tt
inverses_right Of16 = tt

fits : (q a x : ℕ) → a ≢ 0 → T (inverse_fits q a x) → (x < q) × (defined_prod q a x ≡ 1)
fits q zero x n t = absurd (n refl)
fits q (suc a) x n t =
    let parts = and_parts (nat_lt x q) (defined_prod q (suc a) x == 1) (is_true (inverse_fits q (suc a) x) t) in
    (ltb-true x q parts.0, eqb-true (defined_prod q (suc a) x) 1 parts.1)

module _ (q : ℕ) (laws : FieldLaws (defined_field q)) (table : List ℕ) (size : length table ≡ q) (test : T (every (inverse_fits q) table)) where
  pub inverse_entry : (a x : ℕ) → x ≡ as_code q a → x < q → x ≢ 0 → slice_index table x ≡ defined_inv q a
  inverse_entry a x ex h nz =
      let y = fits q x (slice_index table x) nz (at (inverse_fits q) table test x (subst (λ n. x < n) (sym size) h)) in
      inverse_only (defined_field q) laws x (slice_index table x) h y.0 y.1 ∙ ap (defined_inv q) ex ∙ sym (laws.inv_reads a)

pub inverse_is : (f : BinaryField) (a x : ℕ) → x ≡ as_code (order_of f) a → x ≢ 0 → slice_index (inverses f) x ≡ defined_inv (order_of f) a
inverse_is f a x ex n =
    let q = order_of f in
    inverse_entry q (lawful f) (inverses f) (inverses_length f) (inverses_right f) a x ex (read_lt (defined_field q) (lawful f) a x ex) n

pub inverse_at : (f : BinaryField) (a x : ℕ) → x ≡ as_code (order_of f) a → x ≢ 0 → Some (slice_index (inverses f) x) ≡ inverse (defined_field (order_of f)) a
inverse_at f a x ex n =
    let read : as_code (order_of f) a ≢ 0 = λ z. n (ex ∙ z) in
    rw (ne_eqb (as_code (order_of f) a) 0 read) (ap Some (inverse_is f a x ex n))

-- in the arm of the field k
module _ (k f : BinaryField) (arm : f ≡ k) (q : ℕ) (order : q ≡ order_of f) where
  here : (a x : ℕ) → x ≡ as_code q a → x ≡ as_code (order_of k) a
  here a x e = e ∙ ap (λ n. as_code n a) (order ∙ ap order_of arm)

  pub product_read : (a b x y : ℕ) → x ≡ as_code q a → y ≡ as_code q b → slice_index (products k) (x * order_of k + y) ≡ defined_prod (order_of f) a b
  product_read a b x y ex ey = product_at k a b x y (here a x ex) (here b y ey) ∙ ap (λ g. defined_prod (order_of g) a b) (sym arm)

  pub inverse_read : (a x : ℕ) → x ≡ as_code q a → x ≢ 0 → Some (slice_index (inverses k) x) ≡ inverse (defined_field (order_of f)) a
  inverse_read a x ex nz = inverse_at k a x (here a x ex) nz ∙ ap (λ g. inverse (defined_field (order_of g)) a) (sym arm)
