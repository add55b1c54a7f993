-- Quotients: where they are absent, and what they are elsewhere.
use Rattle.std.proofs.Common.{◌≡◌, ℕ, ◌<◌, ◌≢◌, Some, None, sym, refl, ap, ◌∙◌}
use Rattle.std.proofs.lemmas.Bool.{ne_eqb}
use Rattle.field.specs.Model.{FieldModel, as_code, inverse, over}
use Rattle.field.specs.Laws.{FieldLaws}
use Rattle.field.proofs.Codes.{code_is}
use Rattle.field.proofs.Ring.{zero_code, read_lt, divide, prod_left_comm, inverse_only}

module _ (φ : FieldModel) (laws : FieldLaws φ) where
  open φ use {order, prod, inv}
  open laws use {inv_reads, prod_one, prod_inv}

  -- a factor that is not 0 is taken off
  pub shorten : (a b c : ℕ) → a < order → b < order → c < order → a ≢ 0 → prod a b ≡ prod a c → b ≡ c
  shorten a b c ha hb hc n e = sym (divide φ laws a b ha hb n) ∙ ap (prod (inv a)) e ∙ divide φ laws a c ha hc n

  -- a (x / a) = x
  pub times_quotient : (a x : ℕ) → a < order → x < order → a ≢ 0 → prod a (prod x (inv a)) ≡ x
  times_quotient a x ha hx n = prod_left_comm φ laws a x (inv a) ∙ ap (prod x) (prod_inv a ha n) ∙ prod_one x hx

  -- what gives 1 with the code that a number is read as is the inverse of that number
  pub inverse_by : (a x y : ℕ) → x ≡ as_code order a → x ≢ 0 → y < order → prod x y ≡ 1 → Some y ≡ inverse φ a
  inverse_by a x y e n h p =
      let read : as_code order a ≢ 0 = λ z. n (e ∙ z) in
      rw (ne_eqb (as_code order a) 0 read) (ap Some (inverse_only φ laws x y (read_lt φ laws a x e) h p ∙ ap inv e ∙ sym (inv_reads a)))

  -- nothing is divided by 0
  pub over_zero : (a : ℕ) → over φ a 0 ≡ None
  over_zero a = rw (code_is order 0 (zero_code φ laws)) refl

  pub over_is : (a b : ℕ) → b < order → b ≢ 0 → over φ a b ≡ Some (prod a (inv b))
  over_is a b h n = rw (code_is order b h, ne_eqb b 0 n) refl
