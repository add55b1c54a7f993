-- The meaning of a component code chosen at run time.
use Rattle.std.specs.Prelude.{◌≡◌, ℕ, T, Result, MatchResult}
use Rattle.refusal.specs.declared.Refusal.{Refusal}
use Rattle.refusal.specs.declared.Refusal.TheVariants.{FieldOrder}
use Rattle.field.specs.Defined.{defined_field, listed}
use Rattle.component.specs.Model.{CodeModel}
use Rattle.reed_solomon.specs.Model.{reed_solomon}
use Rattle.bch.specs.Bch.{bch}
use Rattle.any_field.specs.Orders.{order_of}
use Rattle.any_code.specs.declared.Component.{Component}
use Rattle.any_code.specs.declared.Component.TheVariants.{ReedSolomon, Bch}
use Rattle.any_code.specs.declared.AnyCode.{AnyCode}
use Rattle.any_code.specs.declared.AnyCode.TheVariants.{ReedSolomon as ReedSolomonOf, Bch as BchOf}

-- the order of the field of the symbols
abbrev pub order_in : Component → ℕ
order_in (ReedSolomon order size checks) = order
order_in (Bch size radius) = 2

-- the code that numbers mean
abbrev pub code_meant : Component → CodeModel
code_meant (ReedSolomon order size checks) = reed_solomon (defined_field order) size checks
code_meant (Bch size radius) = bch size radius

-- the code that a value means
abbrev pub code_of : AnyCode → CodeModel
code_of (ReedSolomonOf c) = reed_solomon (defined_field (order_of c.field)) c.size c.checks
code_of (BchOf c) = bch c.code.size c.code.radius

-- the code that the numbers mean, or a refusal where the order of its field is not listed
abbrev pub IsCodeWith : Component → Result AnyCode Refusal → Type 0
IsCodeWith n r = MatchResult r (λ c. code_of c ≡ code_meant n) (λ e. (e ≡ FieldOrder) × (T (listed (order_in n)) → ⊥))
