-- Sums and differences that undo each other.
use Rattle.std.proofs.Common.{◌≡◌, ℕ, ◌<◌, sym, ap, ◌∙◌}
use Rattle.field.specs.Model.{FieldModel, minus}
use Rattle.field.specs.Laws.{FieldLaws}
use Rattle.field.proofs.Ring.{undo, sum_left_comm, sum_cancel}

module _ (φ : FieldModel) (laws : FieldLaws φ) where
  open φ use {order, sum, neg}
  open laws use {sum_comm, sum_assoc, sum_zero, sum_neg}

  -- a + (y - a) = y
  pub plus_minus : (a y : ℕ) → y < order → sum a (minus φ y a) ≡ y
  plus_minus a y h = sum_left_comm φ laws a y (neg a) ∙ ap (sum y) (sum_neg a) ∙ sum_zero y h

  -- (a + y) - a = y
  pub minus_plus : (a y : ℕ) → y < order → minus φ (sum a y) a ≡ y
  minus_plus a y h = sum_comm (sum a y) (neg a) ∙ undo φ laws a y h

  -- (y - a) + a = y
  pub minus_back : (a y : ℕ) → y < order → sum (minus φ y a) a ≡ y
  minus_back a y h = sum_comm (minus φ y a) a ∙ plus_minus a y h

  pub sum_cancel_right : (a b c : ℕ) → b < order → c < order → sum b a ≡ sum c a → b ≡ c
  sum_cancel_right a b c hb hc e = sum_cancel φ laws a b c hb hc (sum_comm a b ∙ e ∙ sum_comm c a)

  -- the middle two change places
  pub sum_swap : (a b c d : ℕ) → sum (sum a b) (sum c d) ≡ sum (sum a c) (sum b d)
  sum_swap a b c d = sum_assoc a b (sum c d) ∙ ap (sum a) (sum_left_comm φ laws b c d) ∙ sym (sum_assoc a c (sum b d))

  -- equal codes have the difference 0
  pub same_minus : (a b : ℕ) → a ≡ b → minus φ a b ≡ 0
  same_minus a b e = ap (λ x. minus φ x b) e ∙ sum_neg b
