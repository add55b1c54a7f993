-- What a field means: its order, and its operations as functions on numbers.
use Rattle.std.specs.Prelude.{ℕ, cond, Some, None, Option, ◌==◌, nat_lt}

-- An element of a field of order q is a code, a number below q; 0 is zero and 1 is one.
pub record FieldModel : Type 0 where
  pub order : ℕ
  pub sum : ℕ → ℕ → ℕ
  pub neg : ℕ → ℕ
  pub prod : ℕ → ℕ → ℕ
  -- the inverse; what it is at 0 is never seen
  pub inv : ℕ → ℕ

-- the code that a number stands for in a field of order q: a number that is no code counts as 0
abbrev pub as_code : ℕ → ℕ → ℕ
as_code q a = cond (nat_lt a q) a 0

-- the inverse of an operand: absent where it is 0 or counts as 0
abbrev pub inverse : FieldModel → ℕ → Option ℕ
inverse f a = cond (as_code f.order a == 0) None (Some (f.inv a))

-- the first less the second
abbrev pub minus : FieldModel → ℕ → ℕ → ℕ
minus f a b = f.sum a (f.neg b)

-- a times an inverse, where there is one
abbrev pub times_inverse : FieldModel → ℕ → Option ℕ → Option ℕ
times_inverse f a (Some v) = Some (f.prod a v)
times_inverse f a None = None

-- the first over the second: absent where that is 0 or counts as 0
abbrev pub over : FieldModel → ℕ → ℕ → Option ℕ
over f a b = times_inverse f a (inverse f b)
