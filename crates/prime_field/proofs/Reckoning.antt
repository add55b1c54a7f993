-- The sums, negatives, products and inverses that the code works out are the defined ones.
use Rattle.std.proofs.Common.{◌≡◌, ℕ, ◌+◌, ◌-◌, ◌*◌, ◌%◌, ◌<◌, ◌≤◌, true, ◌≢◌, T, get_or, Some, mod-eq_of_lt, arith}
use native.Mathlib.Nat.{mod-eq-sub-mod, mod_self, sub-zero}
use Rattle.std.proofs.lemmas.Nat.{mul-le}
use Rattle.field.specs.Model.{as_code, inverse}
use Rattle.field.specs.Laws.{FieldLaws}
use Rattle.field.specs.Defined.{among, prime_orders, defined_sum, defined_neg, defined_prod, defined_field}
use Rattle.field.proofs.Ring.{zero_code, read_lt}
use Rattle.field.proofs.Quotients.{inverse_by}
use Rattle.field_theory.proofs.Scan.{is_true}
use Rattle.field_theory.proofs.Lawful.{prime_lawful}
use Rattle.field_theory.proofs.Modular.{sum_is, neg_is, prod_is}
use Rattle.prime_field.proofs.Table.{inverses, prime_below, inverse_entry}

module _ (q : ℕ) (prime : T (among q prime_orders)) where
  listed : among q prime_orders ≡ true
  listed = is_true (among q prime_orders) prime

  laws : FieldLaws (defined_field q)
  laws = prime_lawful q prime

  pub positive : 0 < q
  positive = zero_code (defined_field q) laws

  code : (a x : ℕ) → x ≡ as_code q a → x < q
  code = read_lt (defined_field q) laws

  pub sum_small : (a b x y : ℕ) → x ≡ as_code q a → y ≡ as_code q b → x + y < q → x + y ≡ defined_sum q a b
  sum_small a b x y ex ey h = cc (mod-eq_of_lt h, sum_is q listed a b)

  pub sum_large : (a b x y : ℕ) → x ≡ as_code q a → y ≡ as_code q b → q ≤ x + y → x + y - q ≡ defined_sum q a b
  sum_large a b x y ex ey h =
      let hx = code a x ex in
      let hy = code b y ey in
      let l : x + y - q < q = omega arith in
      cc (mod-eq-sub-mod h, mod-eq_of_lt l, sum_is q listed a b)

  pub neg_zero : (a x : ℕ) → x ≡ as_code q a → x ≡ 0 → 0 ≡ defined_neg q a
  neg_zero a x ex z = cc (neg_is q listed a, sub-zero q, mod_self q)

  pub neg_some : (a x : ℕ) → x ≡ as_code q a → x ≢ 0 → q - x ≡ defined_neg q a
  neg_some a x ex nz =
      let h = code a x ex in
      let l : q - x < q = omega arith in
      cc (mod-eq_of_lt l, neg_is q listed a)

  pub product : (a b x y : ℕ) → x ≡ as_code q a → y ≡ as_code q b → x * y % q ≡ defined_prod q a b
  product a b x y ex ey = cc (prod_is q listed a b)

  -- a byte holds the product
  pub product_fits : (a b x y : ℕ) → x ≡ as_code q a → y ≡ as_code q b → x * y < 256
  product_fits a b x y ex ey =
      let l = prime_below q prime in
      let hx = code a x ex in
      let hy = code b y ey in
      omega (arith, mul-le x y 12 12 (omega arith) (omega arith))

  pub inverse_some : (a x : ℕ) → x ≡ as_code q a → x ≢ 0 → Some (get_or inverses (q * 14 + x) 0) ≡ inverse (defined_field q) a
  inverse_some a x ex nz =
      let y = inverse_entry q x prime (omega arith) (code a x ex) in
      inverse_by (defined_field q) laws a x (get_or inverses (q * 14 + x) 0) ex nz y.0 y.1
