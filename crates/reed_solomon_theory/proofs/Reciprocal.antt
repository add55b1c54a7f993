-- The inverse of what is not 0.
use Rattle.std.proofs.Common.{◌≡◌, ℕ, ◌<◌, cond, eqb, ◌≢◌, Some, None, ap, ◌∙◌}
use Rattle.std.proofs.lemmas.Bool.{ne_eqb}
use Rattle.field.specs.Model.{FieldModel}
use Rattle.field.specs.Laws.{FieldLaws}
use Rattle.field.proofs.Codes.{code_is}
use Rattle.reed_solomon_theory.specs.Decode.{or_zero, reciprocal}

module _ (φ : FieldModel) (laws : FieldLaws φ) where
  open φ use {order, prod, inv}
  open laws use {prod_inv}

  reciprocal_is : (a : ℕ) → a < order → a ≢ 0 → reciprocal φ a ≡ inv a
  unfolding reciprocal
  reciprocal_is a h n =
      ap (λ c. or_zero (cond (eqb c 0) None (Some (inv a)))) (code_is order a h) ∙ ap (λ t. or_zero (cond t None (Some (inv a)))) (ne_eqb a 0 n)

  pub prod_reciprocal : (a : ℕ) → a < order → a ≢ 0 → prod a (reciprocal φ a) ≡ 1
  prod_reciprocal a h n = ap (prod a) (reciprocal_is a h n) ∙ prod_inv a h n
