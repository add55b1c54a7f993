-- Polynomials over two elements, modulo one of degree m, are a field if each but 0 has an inverse.
use Rattle.std.proofs.Common.{◌≡◌, ℕ, ◌+◌, ◌^◌, ◌<◌, ◌≤◌, false, T, List, length, sym, ap, ◌∙◌, subst, ap₂, arith, pow_pos, pow_mono}
use lib.Bits.{bit_xor, xor_comm, xor_assoc, xor_self, xor_zero_r, xor_lt}
use Rattle.std.proofs.lemmas.Bool.{cond-false}
use Rattle.field.specs.Model.{FieldModel, as_code}
use Rattle.field.specs.Polynomials.{poly_product, remainder}
use Rattle.field.specs.Defined.{among, prime_orders, degree, modulus, modular_sum, modular_neg, modular_prod, binary_sum, binary_neg, binary_prod, defined_sum, defined_neg, defined_prod, defined_inv, defined_field}
use Rattle.field.specs.Laws.{FieldLaws}
use Rattle.field.proofs.Codes.{code_lt, code_is, code_code}
use Rattle.field_theory.proofs.Scan.{every}
use Rattle.field_theory.proofs.Inverses.{undone, inverse_is, inverse_lt, inverse_reads}
use Rattle.field_theory.proofs.Horner.{horner, mul_lt, mul_comm, mul_assoc, mul_one_left, mul_xor_right}
use Rattle.field_theory.proofs.Division.{reduced_product}

module _ (q : ℕ) (binary : among q prime_orders ≡ false) where
  pub sum_is : (a b : ℕ) → defined_sum q a b ≡ binary_sum q a b
  unfolding defined_sum
  sum_is a b = cond-false (among q prime_orders) (modular_sum q a b) (binary_sum q a b) binary

  pub neg_is : (a : ℕ) → defined_neg q a ≡ binary_neg q a
  unfolding defined_neg
  neg_is a = cond-false (among q prime_orders) (modular_neg q a) (binary_neg q a) binary

  pub prod_is : (a b : ℕ) → defined_prod q a b ≡ binary_prod q a b
  unfolding defined_prod
  prod_is a b = cond-false (among q prime_orders) (modular_prod q a b) (binary_prod q a b) binary

-- the order is 2 to the power m, the modulus x^m + p
module _ (m p : ℕ) (hp : p < 2 ^ m) (hm : 0 < m) (binary : among (2 ^ m) prime_orders ≡ false) (degree_is : degree (2 ^ m) ≡ m) (modulus_is : modulus (2 ^ m) ≡ 2 ^ m + p) where
  abbrev c : ℕ → ℕ
  c = as_code (2 ^ m)

  abbrev mul : ℕ → ℕ → ℕ
  mul = horner m (2 ^ m + p) m

  c_lt : (a : ℕ) → c a < 2 ^ m
  c_lt a = code_lt (2 ^ m) a (pow_pos m)

  -- the defined product is Horner's
  pub by_horner : (a b : ℕ) → defined_prod (2 ^ m) a b ≡ mul (c a) (c b)
  by_horner a b =
      prod_is (2 ^ m) binary a b
      ∙ ap₂ (λ d n. remainder d n d (poly_product d (c a) (c b))) degree_is modulus_is
      ∙ reduced_product m (2 ^ m + p) m (c a) (c b) (c_lt a)

  c_c : (a : ℕ) → c (c a) ≡ c a
  c_c a = code_code (2 ^ m) a (pow_pos m)

  x_lt : (a b : ℕ) → bit_xor (c a) (c b) < 2 ^ m
  x_lt a b = xor_lt m (c a) (c b) (c_lt a) (c_lt b)

  p_lt : (a b : ℕ) → mul (c a) (c b) < 2 ^ m
  p_lt a b = mul_lt m p hp m (c a) (c b) (c_lt a)

  c_x : (a b : ℕ) → c (bit_xor (c a) (c b)) ≡ bit_xor (c a) (c b)
  c_x a b = code_is (2 ^ m) (bit_xor (c a) (c b)) (x_lt a b)

  c_p : (a b : ℕ) → c (mul (c a) (c b)) ≡ mul (c a) (c b)
  c_p a b = code_is (2 ^ m) (mul (c a) (c b)) (p_lt a b)

  one_lt : 1 < 2 ^ m
  one_lt = let h : 2 ^ 1 ≤ 2 ^ m = pow_mono hm in omega arith

  reads_left : (a x : ℕ) → defined_prod (2 ^ m) a x ≡ defined_prod (2 ^ m) (c a) x
  reads_left a x = by_horner a x ∙ ap (λ y. mul y (c x)) (sym (c_c a)) ∙ sym (by_horner (c a) x)

  -- given inverses, by a list
  module _ (small : 2 ^ m ≤ 256) (table : List ℕ) (size : length table ≡ 2 ^ m) (test : T (every (undone (2 ^ m)) table)) where
    abbrev model : FieldModel
    model = record { order = 2 ^ m; sum = binary_sum (2 ^ m); neg = c; prod = λ a b. mul (c a) (c b); inv = defined_inv (2 ^ m) }

    same : defined_field (2 ^ m) ≡ model
    same = λ i. record { order = 2 ^ m; sum = λ a b. sum_is (2 ^ m) binary a b i; neg = λ a. neg_is (2 ^ m) binary a i; prod = λ a b. by_horner a b i; inv = defined_inv (2 ^ m) }

    laws : FieldLaws model
    laws = record {
      more = one_lt;
      most = small;
      sum_reads = λ a b. ap₂ bit_xor (sym (c_c a)) (sym (c_c b));
      neg_reads = λ a. sym (c_c a);
      prod_reads = λ a b. ap₂ mul (sym (c_c a)) (sym (c_c b));
      inv_reads = inverse_reads (2 ^ m) reads_left;
      sum_code = x_lt;
      neg_code = c_lt;
      prod_code = p_lt;
      inv_code = inverse_lt (2 ^ m) (pow_pos m) table size test;
      sum_comm = λ a b. xor_comm (c a) (c b);
      sum_assoc = λ a b d. simp (c_x, xor_assoc);
      sum_zero = λ a h. rw (code_is (2 ^ m) a h, code_is (2 ^ m) 0 (pow_pos m)) (xor_zero_r a);
      sum_neg = λ a. ap (bit_xor (c a)) (c_c a) ∙ xor_self (c a);
      prod_comm = λ a b. mul_comm m p hp (c a) (c b) (c_lt a) (c_lt b);
      prod_assoc = λ a b d. ap (λ x. mul x (c d)) (c_p a b) ∙ mul_assoc m p hp m (c a) (c b) (c d) (c_lt a) (c_lt b) ∙ ap (mul (c a)) (sym (c_p b d));
      prod_one = λ a h. ap₂ mul (code_is (2 ^ m) a h) (code_is (2 ^ m) 1 one_lt) ∙ mul_comm m p hp a 1 h one_lt ∙ mul_one_left m p hp m a (omega arith) h;
      prod_inv = λ a h nz. sym (by_horner a (defined_inv (2 ^ m) a)) ∙ inverse_is (2 ^ m) (pow_pos m) table size test a h nz;
      prod_sum = λ a b d. ap (mul (c a)) (c_x b d) ∙ mul_xor_right m p hp m (c a) (c b) (c d) ∙ sym (ap₂ bit_xor (c_p a b) (c_p a d));
      listed_sum = λ t a b. sym (sum_is (2 ^ m) binary a b);
      listed_prod = λ t a b. sym (by_horner a b);
    }

    pub binary_lawful : FieldLaws (defined_field (2 ^ m))
    binary_lawful = subst FieldLaws (sym same) laws
