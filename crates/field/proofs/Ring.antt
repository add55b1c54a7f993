-- What follows at once from the laws of a field.
use Rattle.std.proofs.Common.{◌≡◌, ℕ, ◌<◌, ◌≢◌, sym, ap, ◌∙◌, ap₂, arith}
use Rattle.field.specs.Model.{FieldModel, as_code}
use Rattle.field.specs.Laws.{FieldLaws}
use Rattle.field.proofs.Codes.{code_lt}

module _ (φ : FieldModel) (laws : FieldLaws φ) where
  open φ use {order, sum, neg, prod, inv}
  open laws use {more, sum_code, neg_code, prod_code, inv_code, sum_comm, sum_assoc, sum_zero, sum_neg, prod_comm, prod_assoc, prod_one, prod_sum, prod_inv}

  pub zero_code : 0 < order
  zero_code = let h = more in omega arith

  -- what a number is read as is a code
  pub read_lt : (a x : ℕ) → x ≡ as_code order a → x < order
  read_lt a x e = rw e (code_lt order a zero_code)

  pub zero_sum : (a : ℕ) → a < order → sum 0 a ≡ a
  zero_sum a h = sum_comm 0 a ∙ sum_zero a h

  pub one_prod : (a : ℕ) → a < order → prod 1 a ≡ a
  one_prod a h = prod_comm 1 a ∙ prod_one a h

  pub neg_sum : (a : ℕ) → sum (neg a) a ≡ 0
  neg_sum a = sum_comm (neg a) a ∙ sum_neg a

  -- -a + (a + x) = x
  pub undo : (a x : ℕ) → x < order → sum (neg a) (sum a x) ≡ x
  undo a x h = sym (sum_assoc (neg a) a x) ∙ ap (λ y. sum y x) (neg_sum a) ∙ zero_sum x h

  pub sum_cancel : (a b c : ℕ) → b < order → c < order → sum a b ≡ sum a c → b ≡ c
  sum_cancel a b c hb hc e = sym (undo a b hb) ∙ ap (sum (neg a)) e ∙ undo a c hc

  -- a sum that leaves its left part as it is adds 0
  pub sum_stays : (a b : ℕ) → b < order → sum a b ≡ a → b ≡ 0
  sum_stays a b h e = sym (undo a b h) ∙ ap (sum (neg a)) e ∙ neg_sum a

  pub prod_zero : (a : ℕ) → prod a 0 ≡ 0
  prod_zero a = sum_stays (prod a 0) (prod a 0) (prod_code a 0) (sym (prod_sum a 0 0) ∙ ap (prod a) (sum_zero 0 zero_code))

  pub zero_prod : (a : ℕ) → prod 0 a ≡ 0
  zero_prod a = prod_comm 0 a ∙ prod_zero a

  pub prod_left_comm : (a b c : ℕ) → prod a (prod b c) ≡ prod b (prod a c)
  prod_left_comm a b c = sym (prod_assoc a b c) ∙ ap (λ x. prod x c) (prod_comm a b) ∙ prod_assoc b a c

  pub sum_left_comm : (a b c : ℕ) → sum a (sum b c) ≡ sum b (sum a c)
  sum_left_comm a b c = sym (sum_assoc a b c) ∙ ap (λ x. sum x c) (sum_comm a b) ∙ sum_assoc b a c

  pub sum_prod : (a b c : ℕ) → prod (sum a b) c ≡ sum (prod a c) (prod b c)
  sum_prod a b c = prod_comm (sum a b) c ∙ prod_sum c a b ∙ ap₂ sum (prod_comm c a) (prod_comm c b)

  -- a factor that is not 0 is taken off
  pub divide : (a x : ℕ) → a < order → x < order → a ≢ 0 → prod (inv a) (prod a x) ≡ x
  divide a x ha hx n = sym (prod_assoc (inv a) a x) ∙ ap (λ y. prod y x) (prod_comm (inv a) a ∙ prod_inv a ha n) ∙ one_prod x hx

  -- no zero divisors
  pub prod_cancel : (a b : ℕ) → a < order → b < order → a ≢ 0 → prod a b ≡ 0 → b ≡ 0
  prod_cancel a b ha hb n e = sym (divide a b ha hb n) ∙ ap (prod (inv a)) e ∙ prod_zero (inv a)

  -- the difference
  pub minus_eq : (a b : ℕ) → a < order → b < order → sum a (neg b) ≡ 0 → a ≡ b
  minus_eq a b ha hb e = sum_cancel (neg b) a b ha hb (sum_comm (neg b) a ∙ e ∙ sym (neg_sum b))

  -- a number that is no code counts in a sum as in a product
  sum_as : (a b : ℕ) → b < order → sum a b ≡ sum (prod 1 a) b
  sum_as a b h = sym (one_prod (sum a b) (sum_code a b)) ∙ prod_sum 1 a b ∙ ap (sum (prod 1 a)) (one_prod b h)

  -- a negative is a multiple of the negative of 1
  pub minus_one : (a : ℕ) → neg a ≡ prod (neg 1) a
  minus_one a = sum_cancel a (neg a) (prod (neg 1) a) (neg_code a) (prod_code (neg 1) a)
      (sum_neg a ∙ sym (sum_as a (prod (neg 1) a) (prod_code (neg 1) a) ∙ sym (sum_prod 1 (neg 1) a) ∙ ap (λ x. prod x a) (sum_neg 1) ∙ zero_prod a))

  -- there is one inverse
  pub inverse_only : (a x : ℕ) → a < order → x < order → prod a x ≡ 1 → x ≡ inv a
  inverse_only a x ha hx e =
      let nz : a ≢ 0 = λ z. let p : ◌≡◌ {A = ℕ} 1 0 = sym e ∙ ap (λ y. prod y x) z ∙ zero_prod x in omega arith in
      sym (divide a x ha hx nz) ∙ ap (prod (inv a)) e ∙ prod_one (inv a) (inv_code a)
