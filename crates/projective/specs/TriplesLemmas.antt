-- Triples and their numbers.
use Rattle.std.specs.Prelude.{◌≡◌, ℕ, ◌+◌, ◌-◌, ◌*◌, ◌/◌, ◌%◌, ◌<◌, ◌≤◌, Bool, true, false, cond, nat_lt, refl}
use Rattle.std.proofs.Common.{sym, ap, ap₂, ◌∙◌, arith, mod-lt}
use Rattle.std.proofs.Math.Nat.{div-add-mod}
use Rattle.std.proofs.lemmas.Nat.{div_below}
use Rattle.std.proofs.lemmas.Bool.{ltb-true, ltb-false, lt-ltb, le-ltb}
use Rattle.radix.proofs.Radix.{high_is, last_is, two_lt}
use Rattle.projective.specs.declared.triple.Triple.{Triple}
use Rattle.projective.specs.declared.triple.Triple.TheVariants.{Affine, Ideal, Last}
use Rattle.projective.specs.Triples.{Codes, number_of, x_of, y_of, z_of}
use Rattle.projective.specs.Formulas.{triple_of}

module _ (q : ℕ) (more : 1 < q) where
  pos : 0 < q
  pos = omega arith

  pub number_in : (t : Triple) → Codes q t → number_of q t < q * q + q + 1
  number_in (Affine y z) h = let k = two_lt q y z h.0 h.1 in omega arith
  number_in (Ideal z) h = omega arith
  number_in Last h = omega arith

  pub triple_number : (t : Triple) → Codes q t → triple_of q (number_of q t) ≡ t
  triple_number (Affine y z) h =
      rw (lt-ltb _ _ (two_lt q y z h.0 h.1)) (ap₂ Affine (high_is q y z h.1) (last_is q y z h.1))
  triple_number (Ideal z) h =
      let over : q * q ≤ q * q + z = omega arith in
      let under : q * q + z < q * q + q = omega arith in
      rw (le-ltb _ _ over) (rw (lt-ltb _ _ under) (ap Ideal (omega arith)))
  triple_number Last h =
      let over : q * q ≤ q * q + q = omega arith in
      let same : q * q + q ≤ q * q + q = omega arith in
      rw (le-ltb _ _ over) (rw (le-ltb _ _ same) refl)

  pub number_triple : (n : ℕ) → n < q * q + q + 1 → (number_of q (triple_of q n) ≡ n) × Codes q (triple_of q n)
  number_triple n h = go (nat_lt n (q * q)) (nat_lt n (q * q + q)) refl refl
    where
      go : (a b : Bool) → nat_lt n (q * q) ≡ a → nat_lt n (q * q + q) ≡ b
          → (number_of q (cond a (Affine (n / q) (n % q)) (cond b (Ideal (n - q * q)) Last)) ≡ n) × Codes q (cond a (Affine (n / q) (n % q)) (cond b (Ideal (n - q * q)) Last))
      go true b u v = (div-add-mod n q, (div_below n q q pos (ltb-true n (q * q) u), mod-lt n pos))
      go false true u v = let k = ltb-false n (q * q) u in let m = ltb-true n (q * q + q) v in (omega arith, omega arith)
      go false false u v = let k = ltb-false n (q * q + q) v in (omega arith, tt)

  pub same_triple : (m n : ℕ) → m < q * q + q + 1 → n < q * q + q + 1 → triple_of q m ≡ triple_of q n → m ≡ n
  same_triple m n hm hn e = sym (number_triple m hm).0 ∙ ap (number_of q) e ∙ (number_triple n hn).0

  pub x_code : (t : Triple) → x_of t < q
  x_code (Affine y z) = more
  x_code (Ideal z) = pos
  x_code Last = pos

  pub y_code : (t : Triple) → Codes q t → y_of t < q
  y_code (Affine y z) h = h.0
  y_code (Ideal z) h = more
  y_code Last h = pos

  pub z_code : (t : Triple) → Codes q t → z_of t < q
  z_code (Affine y z) h = h.1
  z_code (Ideal z) h = h
  z_code Last h = more
