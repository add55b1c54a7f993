-- Sums, tests and lists over the numbers below n.
use Rattle.std.specs.Prelude.{ℕ, zero, suc, ◌+◌, ◌<◌, ◌≤◌, Bool, true, false, cond, ◌&&◌, List, map, Some, None, Option, ◌==◌, nat_lt, slice_index}
use Rattle.std.specs.List.{range_with_len}

-- f 0 + .. + f (n - 1)
abbrev pub sum : ℕ → (ℕ → ℕ) → ℕ
sum zero f = 0
sum (suc n) f = sum n f + f n

-- the list f 0, .., f (n - 1)
abbrev pub tabulate : {X : Type 0} → ℕ → (ℕ → X) → List X
tabulate n f = map f (range_with_len 0 n)

-- f holds of each number below n
abbrev pub every : ℕ → (ℕ → Bool) → Bool
every zero f = true
every (suc n) f = every n f && f n

-- the first of two that is there
abbrev pub or_else : {X : Type 0} → Option X → Option X → Option X
or_else (Some x) y = Some x
or_else None y = y

-- x where the test passes
abbrev pub when : {X : Type 0} → Bool → X → Option X
when true x = Some x
when false x = None

-- the least number below n of which f holds
abbrev pub first_below : ℕ → (ℕ → Bool) → Option ℕ
first_below zero f = None
first_below (suc n) f = or_else (first_below n f) (when (f n) n)

-- 1 if the two numbers differ, and 0 if they are equal
abbrev pub apart : ℕ → ℕ → ℕ
apart a b = cond (a == b) 0 1

-- 1 if n is more than t, and 0 if not
abbrev pub over : ℕ → ℕ → ℕ
over t n = cond (nat_lt t n) 1 0

-- each term is 0 or 1
abbrev pub Bits : ℕ → (ℕ → ℕ) → Type 0
Bits n f = (i : ℕ) → i < n → f i ≤ 1

-- in how many of the first n places two words differ
abbrev pub differ : ℕ → List ℕ → List ℕ → ℕ
differ n xs ys = sum n (λ i. apart (slice_index xs i) (slice_index ys i))
