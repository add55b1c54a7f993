-- Making a field of an order.
use Rattle.std.specs.Prelude.{◌≡◌, ℕ, Bool, T, Result, MatchResult}
use Rattle.refusal.specs.declared.Refusal.{Refusal}
use Rattle.refusal.specs.declared.Refusal.TheVariants.{FieldOrder}

-- a field of order q is made where the order stands, and refused with number 1 where it doesn't
abbrev pub MadeOrRefused : {F : Type 0} → (F → ℕ) → (ℕ → Bool) → ℕ → Result F Refusal → Type 0
MadeOrRefused order_of stands q r = MatchResult r (λ f. order_of f ≡ q) (λ e. (e ≡ FieldOrder) × (T (stands q) → ⊥))
