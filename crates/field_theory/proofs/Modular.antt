-- Reckoning modulo a prime is a field.
use Rattle.std.proofs.Common.{◌≡◌, ℕ, ◌+◌, ◌-◌, ◌*◌, ◌%◌, ◌<◌, ◌≤◌, true, T, List, length, sym, ap, ◌∙◌, subst, ap₂, add-zero, add_assoc, mod-lt, mod-eq_of_lt, mul_assoc, mul_comm, add_comm, mul-one, mul-add, arith}
use native.Mathlib.Nat.{mod-add-mod, add-mod-mod, mod_self}
use Rattle.std.proofs.lemmas.Bool.{cond-true}
use Rattle.std.proofs.lemmas.Nat.{mul-mod_first, mul-mod_second}
use Rattle.field.specs.Model.{FieldModel, as_code}
use Rattle.field.specs.Defined.{among, prime_orders, modular_sum, modular_neg, modular_prod, binary_sum, binary_neg, binary_prod, defined_sum, defined_neg, defined_prod, defined_inv, defined_field}
use Rattle.field.specs.Laws.{FieldLaws}
use Rattle.field.proofs.Codes.{code_lt, code_is, code_code}
use Rattle.field_theory.proofs.Scan.{every}
use Rattle.field_theory.proofs.Inverses.{undone, inverse_is, inverse_lt, inverse_reads}

module _ (q : ℕ) (prime : among q prime_orders ≡ true) where
  pub sum_is : (a b : ℕ) → defined_sum q a b ≡ modular_sum q a b
  unfolding defined_sum
  sum_is a b = cond-true (among q prime_orders) (modular_sum q a b) (binary_sum q a b) prime

  pub neg_is : (a : ℕ) → defined_neg q a ≡ modular_neg q a
  unfolding defined_neg
  neg_is a = cond-true (among q prime_orders) (modular_neg q a) (binary_neg q a) prime

  pub prod_is : (a b : ℕ) → defined_prod q a b ≡ modular_prod q a b
  unfolding defined_prod
  prod_is a b = cond-true (among q prime_orders) (modular_prod q a b) (binary_prod q a b) prime

-- given inverses, by a list
module _ (q : ℕ) (prime : among q prime_orders ≡ true) (one : 1 < q) (small : q ≤ 256) (table : List ℕ) (size : length table ≡ q) (test : T (every (undone q) table)) where
  pos : 0 < q
  pos = omega arith

  abbrev c : ℕ → ℕ
  c = as_code q

  c_lt : (a : ℕ) → c a < q
  c_lt a = code_lt q a pos

  c_c : (a : ℕ) → c (c a) ≡ c a
  c_c a = code_code q a pos

  c_mod : (x : ℕ) → c (x % q) ≡ x % q
  c_mod x = code_is q (x % q) (mod-lt x pos)

  reads : (a b : ℕ) → modular_prod q a b ≡ modular_prod q (c a) (c b)
  reads a b = ap₂ (λ x y. (x * y) % q) (sym (c_c a)) (sym (c_c b))

  reads_left : (a x : ℕ) → defined_prod q a x ≡ defined_prod q (c a) x
  reads_left a x = prod_is q prime a x ∙ ap (λ y. (y * c x) % q) (sym (c_c a)) ∙ sym (prod_is q prime (c a) x)

  abbrev model : FieldModel
  model = record { order = q; sum = modular_sum q; neg = modular_neg q; prod = modular_prod q; inv = defined_inv q }

  same : defined_field q ≡ model
  same = λ i. record { order = q; sum = λ a b. sum_is q prime a b i; neg = λ a. neg_is q prime a i; prod = λ a b. prod_is q prime a b i; inv = defined_inv q }

  laws : FieldLaws model
  laws = record {
    more = one;
    most = small;
    sum_reads = λ a b. ap₂ (λ x y. (x + y) % q) (sym (c_c a)) (sym (c_c b));
    neg_reads = λ a. ap (λ x. (q - x) % q) (sym (c_c a));
    prod_reads = reads;
    inv_reads = inverse_reads q reads_left;
    sum_code = λ a b. mod-lt (c a + c b) pos;
    neg_code = λ a. mod-lt (q - c a) pos;
    prod_code = λ a b. mod-lt (c a * c b) pos;
    inv_code = inverse_lt q pos table size test;
    sum_comm = λ a b. ap (λ x. x % q) (add_comm (c a) (c b));
    sum_assoc = λ a b d. simp (c_mod, mod-add-mod, add-mod-mod, add_assoc);
    sum_zero = λ a h. rw (code_is q a h, code_is q 0 pos, add-zero a) (mod-eq_of_lt h);
    sum_neg = λ a. ap (λ x. (c a + x) % q) (c_mod (q - c a)) ∙ add-mod-mod (c a) (q - c a) q ∙ ap (λ x. x % q) (let h = c_lt a in omega arith) ∙ mod_self q;
    prod_comm = λ a b. ap (λ x. x % q) (mul_comm (c a) (c b));
    prod_assoc = λ a b d. simp (c_mod, mul-mod_first, mul-mod_second, mul_assoc);
    prod_one = λ a h. rw (code_is q a h, code_is q 1 one, mul-one a) (mod-eq_of_lt h);
    prod_inv = λ a h nz. sym (prod_is q prime a (defined_inv q a)) ∙ inverse_is q pos table size test a h nz;
    prod_sum = λ a b d. simp (c_mod, mul-mod_second, mul-add, mod-add-mod, add-mod-mod);
    listed_sum = λ t a b. sym (sum_is q prime a b);
    listed_prod = λ t a b. sym (prod_is q prime a b);
  }

  pub modular_lawful : FieldLaws (defined_field q)
  modular_lawful = subst FieldLaws (sym same) laws
