-- What a call answers that gives a value or refuses it.
use Rattle.std.specs.Prelude.{◌≡◌, Ok, Err, Result, MatchResult}
use Rattle.refusal.specs.declared.Refusal.{Refusal}

-- a value of which the fact holds, where nothing is refused; else the refusal
abbrev pub GivenOrRefused : {A : Type 0} → Result (Unit {0}) Refusal → (A → Type 0) → Result A Refusal → Type 0
GivenOrRefused standing fact r = MatchResult r (λ a. (standing ≡ Ok tt) × fact a) (λ e. standing ≡ Err e)
