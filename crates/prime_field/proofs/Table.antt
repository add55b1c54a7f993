-- The table of inverses is right.
use Rattle.std.proofs.Common.{◌≡◌, ℕ, ◌+◌, ◌*◌, ◌/◌, ◌%◌, ◌<◌, Bool, true, cond, ◌&&◌, T, eqb, ltb, List, [], ◌∷◌, get_or, ap₂, ◌∙◌, arith, lit<}
use Rattle.std.proofs.lemmas.Nat.{div-mul-add, mod-mul-add}
use Rattle.std.proofs.lemmas.Bool.{and_parts, eqb-true, lt-ltb, ltb-true}
use Rattle.field.specs.Defined.{among, prime_orders, defined_prod, defined_inv, defined_field}
use Rattle.field.proofs.Codes.{code_is}
use Rattle.field.proofs.Ring.{inverse_only}
use Rattle.field_theory.proofs.Scan.{is_true, at}
use Rattle.field_theory.proofs.Lawful.{each_at, prime_lawful}
use Rattle.field_theory.proofs.Modular.{prod_is}

-- the table as the code has it: row q, column a
unfoldable pub inverses : List ℕ
inverses = 0 ∷ 0 ∷ 0 ∷ 0 ∷ 0 ∷ 0 ∷ 0 ∷ 0 ∷ 0 ∷ 0 ∷ 0 ∷ 0 ∷ 0 ∷ 0 ∷ 0 ∷ 0 ∷ 0 ∷ 0 ∷ 0 ∷ 0 ∷ 0 ∷ 0 ∷ 0 ∷ 0 ∷ 0 ∷ 0 ∷ 0 ∷ 0 ∷ 0 ∷ 1 ∷ 0 ∷ 0 ∷ 0 ∷ 0 ∷ 0 ∷ 0 ∷ 0 ∷ 0 ∷ 0 ∷ 0 ∷ 0 ∷ 0 ∷ 0 ∷ 1 ∷ 2 ∷ 0 ∷ 0 ∷ 0 ∷ 0 ∷ 0 ∷ 0 ∷ 0 ∷ 0 ∷ 0 ∷ 0 ∷ 0 ∷ 0 ∷ 0 ∷ 0 ∷ 0 ∷ 0 ∷ 0 ∷ 0 ∷ 0 ∷ 0 ∷ 0 ∷ 0 ∷ 0 ∷ 0 ∷ 0 ∷ 0 ∷ 1 ∷ 3 ∷ 2 ∷ 4 ∷ 0 ∷ 0 ∷ 0 ∷ 0 ∷ 0 ∷ 0 ∷ 0 ∷ 0 ∷ 0 ∷ 0 ∷ 0 ∷ 0 ∷ 0 ∷ 0 ∷ 0 ∷ 0 ∷ 0 ∷ 0 ∷ 0 ∷ 0 ∷ 0 ∷ 0 ∷ 0 ∷ 0 ∷ 1 ∷ 4 ∷ 5 ∷ 2 ∷ 3 ∷ 6 ∷ 0 ∷ 0 ∷ 0 ∷ 0 ∷ 0 ∷ 0 ∷ 0 ∷ 0 ∷ 0 ∷ 0 ∷ 0 ∷ 0 ∷ 0 ∷ 0 ∷ 0 ∷ 0 ∷ 0 ∷ 0 ∷ 0 ∷ 0 ∷ 0 ∷ 0 ∷ 0 ∷ 0 ∷ 0 ∷ 0 ∷ 0 ∷ 0 ∷ 0 ∷ 0 ∷ 0 ∷ 0 ∷ 0 ∷ 0 ∷ 0 ∷ 0 ∷ 0 ∷ 0 ∷ 0 ∷ 0 ∷ 0 ∷ 0 ∷ 0 ∷ 0 ∷ 0 ∷ 0 ∷ 0 ∷ 0 ∷ 0 ∷ 0 ∷ 1 ∷ 6 ∷ 4 ∷ 3 ∷ 9 ∷ 2 ∷ 8 ∷ 7 ∷ 5 ∷ 10 ∷ 0 ∷ 0 ∷ 0 ∷ 0 ∷ 0 ∷ 0 ∷ 0 ∷ 0 ∷ 0 ∷ 0 ∷ 0 ∷ 0 ∷ 0 ∷ 0 ∷ 0 ∷ 0 ∷ 0 ∷ 0 ∷ 1 ∷ 7 ∷ 9 ∷ 10 ∷ 8 ∷ 11 ∷ 2 ∷ 5 ∷ 3 ∷ 4 ∷ 6 ∷ 12 ∷ 0 ∷ []

-- if q is a prime order and a is a code but 0, then x is a code whose product with a is 1
abbrev entry_fits : ℕ → ℕ → ℕ → Bool
entry_fits q a x = cond (among q prime_orders) (cond (ltb 0 a) (cond (ltb a q) (ltb x q && eqb (a * x % q) 1) true) true) true

tested : (i : ℕ) → i < 196 → T (entry_fits (i / 14) (i % 14) (get_or inverses i 0))
unfolding inverses
tested i h = at (λ i x. entry_fits (i / 14) (i % 14) x) inverses tt i h

pub prime_below : (q : ℕ) → T (among q prime_orders) → q < 14
prime_below = each_at (λ q. q < 14) prime_orders (lit< tt, (lit< tt, (lit< tt, (lit< tt, (lit< tt, (lit< tt, tt))))))

pub inverse_entry : (q a : ℕ) → T (among q prime_orders) → 0 < a → a < q
    → (get_or inverses (q * 14 + a) 0 < q) × (defined_prod q a (get_or inverses (q * 14 + a) 0) ≡ 1)
inverse_entry q a t p h =
    let l = prime_below q t in
    let listed = is_true (among q prime_orders) t in
    let x = get_or inverses (q * 14 + a) 0 in
    let passes : (ltb x q && eqb (a * x % q) 1) ≡ true =
    simp (div-mul-add q 14 a (omega arith), mod-mul-add q 14 a (omega arith), listed, lt-ltb 0 a p, lt-ltb a q h)
    at (is_true (entry_fits ((q * 14 + a) / 14) ((q * 14 + a) % 14) x) (tested (q * 14 + a) (omega arith))) in
    let parts = and_parts (ltb x q) (eqb (a * x % q) 1) passes in
    let less = ltb-true x q parts.0 in
    (less, prod_is q listed a x ∙ ap₂ (λ m n. m * n % q) (code_is q a h) (code_is q x less) ∙ eqb-true (a * x % q) 1 parts.1)

-- the entry is the inverse
pub inverse_is : (q a : ℕ) → T (among q prime_orders) → 0 < a → a < q → get_or inverses (q * 14 + a) 0 ≡ defined_inv q a
inverse_is q a t p h =
    let y = inverse_entry q a t p h in
    inverse_only (defined_field q) (prime_lawful q t) a (get_or inverses (q * 14 + a) 0) h y.0 y.1
