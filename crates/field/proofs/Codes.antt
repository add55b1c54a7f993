-- Numbers read as codes.
use Rattle.std.proofs.Common.{◌≡◌, ℕ, ◌<◌, ltb, sym}
use Rattle.std.proofs.lemmas.Bool.{ltb-true, cond_both, cond_below}
use Rattle.field.specs.Model.{as_code}

pub code_lt : (q a : ℕ) → 0 < q → as_code q a < q
code_lt q a h = cond_both (ltb a q) a 0 (λ x. x < q) (ltb-true a q) (λ e. h)

-- a code stands for itself
pub code_is : (q a : ℕ) → a < q → as_code q a ≡ a
code_is q a h = sym (cond_below a q a 0 h)

pub code_code : (q a : ℕ) → 0 < q → as_code q (as_code q a) ≡ as_code q a
code_code q a h = code_is q (as_code q a) (code_lt q a h)
