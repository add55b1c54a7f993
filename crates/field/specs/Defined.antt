-- The listed orders, and the arithmetic that is defined for each.
use Rattle.std.specs.Prelude.{ℕ, zero, suc, ◌+◌, ◌-◌, ◌*◌, ◌%◌, Bool, false, cond, ◌||◌, List, [], ◌∷◌, ◌==◌, bit_xor, nat_eq}
use Rattle.field.specs.Model.{FieldModel, as_code}
use Rattle.field.specs.Polynomials.{poly_product, remainder}

-- prime fields reckon modulo their order
abbrev pub prime_orders : List ℕ
prime_orders = 2 ∷ 3 ∷ 5 ∷ 7 ∷ 11 ∷ 13 ∷ []

-- a code of a binary field is a polynomial over two elements, and products are reduced by the modulus of the order
abbrev pub binary_orders : List ℕ
binary_orders = 4 ∷ 8 ∷ 16 ∷ 256 ∷ []

abbrev pub among : ℕ → List ℕ → Bool
among q [] = false
among q (x ∷ xs) = q == x || among q xs

abbrev pub listed : ℕ → Bool
listed q = among q prime_orders || among q binary_orders

-- the degree of the modulus of a binary field of order q: q is 2 to the power of it
unfoldable pub degree : ℕ → ℕ
degree q = cond (q == 4) 2 (cond (q == 8) 3 (cond (q == 16) 4 8))

-- the modulus: x² + x + 1, x³ + x + 1, x⁴ + x + 1, x⁸ + x⁴ + x³ + x² + 1
unfoldable pub modulus : ℕ → ℕ
modulus q = cond (q == 4) 7 (cond (q == 8) 11 (cond (q == 16) 19 285))

abbrev pub modular_sum : ℕ → ℕ → ℕ → ℕ
modular_sum q a b = (as_code q a + as_code q b) % q

abbrev pub modular_neg : ℕ → ℕ → ℕ
modular_neg q a = (q - as_code q a) % q

abbrev pub modular_prod : ℕ → ℕ → ℕ → ℕ
modular_prod q a b = (as_code q a * as_code q b) % q

abbrev pub binary_sum : ℕ → ℕ → ℕ → ℕ
binary_sum q a b = bit_xor (as_code q a) (as_code q b)

abbrev pub binary_neg : ℕ → ℕ → ℕ
binary_neg q a = as_code q a

-- the polynomial product, reduced
abbrev pub binary_prod : ℕ → ℕ → ℕ → ℕ
binary_prod q a b = remainder (degree q) (modulus q) (degree q) (poly_product (degree q) (as_code q a) (as_code q b))

-- the number below n of which the test holds, and 0 where there is none
unfoldable pub solution : ℕ → (ℕ → Bool) → ℕ
solution zero test = 0
solution (suc n) test = cond (test n) n (solution n test)

unfoldable pub defined_sum : ℕ → ℕ → ℕ → ℕ
defined_sum q a b = cond (among q prime_orders) (modular_sum q a b) (binary_sum q a b)

unfoldable pub defined_neg : ℕ → ℕ → ℕ
defined_neg q a = cond (among q prime_orders) (modular_neg q a) (binary_neg q a)

unfoldable pub defined_prod : ℕ → ℕ → ℕ → ℕ
defined_prod q a b = cond (among q prime_orders) (modular_prod q a b) (binary_prod q a b)

-- the code whose product with a is 1
unfoldable pub defined_inv : ℕ → ℕ → ℕ
defined_inv q a = solution q (λ x. nat_eq (defined_prod q a x) 1)

-- the field of a listed order
abbrev pub defined_field : ℕ → FieldModel
defined_field q = record { order = q; sum = defined_sum q; neg = defined_neg q; prod = defined_prod q; inv = defined_inv q }
