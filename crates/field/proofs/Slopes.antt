-- Two lines of a plane that agree at two places have one slope.
use Rattle.std.proofs.Common.{◌≡◌, ℕ, ◌<◌, ◌≢◌, sym, ap, ◌∙◌, ap₂}
use Rattle.field.specs.Model.{FieldModel, minus}
use Rattle.field.specs.Laws.{FieldLaws}
use Rattle.field.proofs.Ring.{minus_eq}
use Rattle.field.proofs.Differences.{minus_back, sum_cancel_right, sum_swap}
use Rattle.field.proofs.Quotients.{shorten}

module _ (φ : FieldModel) (laws : FieldLaws φ) where
  open φ use {order, sum, neg, prod}
  open laws use {sum_code, prod_code, sum_comm, sum_assoc, prod_comm, prod_sum}

  -- a x + a' x' = a' x + a x' says (a - a') (x - x') = 0
  pub crossed : (a a' x x' : ℕ) → a < order → a' < order → x < order → x' < order → x ≢ x'
      → sum (prod a x) (prod a' x') ≡ sum (prod a' x) (prod a x') → a ≡ a'
  crossed a a' x x' ha ha' hx hx' n e =
      let d = minus φ x x' in
      shorten φ laws d a a' (sum_code x (neg x')) ha ha' (λ z. n (minus_eq φ laws x x' hx hx' z))
      (prod_comm d a ∙ sum_cancel_right φ laws (sum (prod a x') (prod a' x')) (prod a d) (prod a' d) (prod_code a d) (prod_code a' d)
      (open_up a a' ∙ e ∙ sym (ap (sum (prod a' d)) (sum_comm (prod a x') (prod a' x')) ∙ open_up a' a)) ∙ prod_comm a' d)
    where
      open_up : (a b : ℕ) → sum (prod a (minus φ x x')) (sum (prod a x') (prod b x')) ≡ sum (prod a x) (prod b x')
      open_up a b =
          sym (sum_assoc (prod a (minus φ x x')) (prod a x') (prod b x'))
          ∙ ap (λ y. sum y (prod b x')) (sym (prod_sum a (minus φ x x') x') ∙ ap (prod a) (minus_back φ laws x' x hx))

  -- a x + d = a' x + e at two places
  pub slopes : (a a' x x' d e : ℕ) → a < order → a' < order → x < order → x' < order → x ≢ x'
      → sum (prod a x) d ≡ sum (prod a' x) e → sum (prod a x') d ≡ sum (prod a' x') e → a ≡ a'
  slopes a a' x x' d e ha ha' hx hx' n p q =
      crossed a a' x x' ha ha' hx hx' n
      (sum_cancel_right φ laws (sum d e) (sum (prod a x) (prod a' x')) (sum (prod a' x) (prod a x')) (sum_code (prod a x) (prod a' x')) (sum_code (prod a' x) (prod a x'))
      (sum_swap φ laws (prod a x) (prod a' x') d e ∙ ap₂ sum p (sym q) ∙ sum_swap φ laws (prod a' x) e (prod a x') d
      ∙ ap (sum (sum (prod a' x) (prod a x'))) (sum_comm e d)))
