-- The laws of a commutative field on codes. As an operand that is no code counts as 0, most of them hold of all numbers.
use Rattle.std.specs.Prelude.{◌≡◌, ℕ, ◌<◌, ◌≤◌, T, ◌≢◌}
use Rattle.field.specs.Model.{FieldModel, as_code}
use Rattle.field.specs.Defined.{listed, defined_sum, defined_prod, defined_field}

pub record FieldLaws (f : FieldModel) : Type 0 where
  -- one is not zero, and a code fits a byte
  pub more : 1 < f.order
  pub most : f.order ≤ 256
  -- an operand that is no code counts as 0
  pub sum_reads : (a b : ℕ) → f.sum a b ≡ f.sum (as_code f.order a) (as_code f.order b)
  pub neg_reads : (a : ℕ) → f.neg a ≡ f.neg (as_code f.order a)
  pub prod_reads : (a b : ℕ) → f.prod a b ≡ f.prod (as_code f.order a) (as_code f.order b)
  pub inv_reads : (a : ℕ) → f.inv a ≡ f.inv (as_code f.order a)
  -- answers are codes
  pub sum_code : (a b : ℕ) → f.sum a b < f.order
  pub neg_code : (a : ℕ) → f.neg a < f.order
  pub prod_code : (a b : ℕ) → f.prod a b < f.order
  pub inv_code : (a : ℕ) → f.inv a < f.order
  -- addition
  pub sum_comm : (a b : ℕ) → f.sum a b ≡ f.sum b a
  pub sum_assoc : (a b c : ℕ) → f.sum (f.sum a b) c ≡ f.sum a (f.sum b c)
  pub sum_zero : (a : ℕ) → a < f.order → f.sum a 0 ≡ a
  pub sum_neg : (a : ℕ) → f.sum a (f.neg a) ≡ 0
  -- multiplication
  pub prod_comm : (a b : ℕ) → f.prod a b ≡ f.prod b a
  pub prod_assoc : (a b c : ℕ) → f.prod (f.prod a b) c ≡ f.prod a (f.prod b c)
  pub prod_one : (a : ℕ) → a < f.order → f.prod a 1 ≡ a
  pub prod_inv : (a : ℕ) → a < f.order → a ≢ 0 → f.prod a (f.inv a) ≡ 1
  -- both
  pub prod_sum : (a b c : ℕ) → f.prod a (f.sum b c) ≡ f.sum (f.prod a b) (f.prod a c)
  -- where the order is listed, sums and products are the defined ones
  pub listed_sum : T (listed f.order) → (a b : ℕ) → f.sum a b ≡ defined_sum f.order a b
  pub listed_prod : T (listed f.order) → (a b : ℕ) → f.prod a b ≡ defined_prod f.order a b

-- what is defined for each listed order is a field
abbrev pub DefinedFieldsAreLawful : Type 0
DefinedFieldsAreLawful = (q : ℕ) → T (listed q) → FieldLaws (defined_field q)
