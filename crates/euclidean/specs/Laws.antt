-- The formulas give the Euclidean plane, and nothing else does.
use Rattle.std.specs.Prelude.{◌≡◌, ℕ, ◌+◌, ◌*◌, ◌/◌, ◌%◌, ◌<◌, refl}
use Rattle.std.proofs.Common.{sym, ◌∙◌, mod-lt, div-add-mod', mul-pos}
use Rattle.std.proofs.Math.Decide.{ℕ_discrete}
use Rattle.std.proofs.lemmas.Nat.{div_below}
use Rattle.std.proofs.Math.Nat.{div-add-mod}
use Rattle.std.proofs.Math.Arith.{digits_lt, digits_div, digits_mod}
use Rattle.field.specs.Model.{FieldModel, minus}
use Rattle.field.specs.Laws.{FieldLaws}
use Rattle.field.proofs.Ring.{zero_code, sum_cancel}
use Rattle.field.proofs.Differences.{plus_minus, minus_plus}
use Rattle.field.proofs.Slopes.{slopes}
use Rattle.geometry.specs.Model.{GeometryModel}
use Rattle.geometry.specs.Incidence.{On}
use Rattle.geometry.specs.Layouts.{Layout}
use Rattle.geometry.proofs.Laid.{laid_lawful, laid_rising, by_rule}
use Rattle.geometry.proofs.Only.{Follows, only, carried as carried_by}
use Rattle.geometry.proofs.Sides.{Side, LayoutLaws}
use Rattle.radix.proofs.Radix.{digits_rise, high_is, last_is, two_lt}
use Rattle.euclidean.specs.Plane.{IsEuclidean, OnlyEuclidean}
use Rattle.euclidean.specs.Formulas.{euclidean, euclidean_layout}

module _ (φ : FieldModel) (laws : FieldLaws φ) where
  open φ use {sum, prod, order as q}
  open laws use {sum_code}

  -- incidence of numbers
  abbrev Inc : ℕ → ℕ → Type 0
  Inc p l = p % q ≡ sum (prod (l / q) (p / q)) (l % q)

  pos : 0 < q
  pos = zero_code φ laws

  abbrev plan : Layout
  plan = euclidean_layout φ

  by_points : Side (q * q) (q * q) q Inc plan.line_at plan.seat_at
  by_points = record {
    at_in = λ p i hp hi. digits_lt hi (sum_code _ _);
    at_inc = λ p i hp hi.
        let b = minus φ (p % q) (prod i (p / q)) in
        let hb : b < q = sum_code _ _ in
        cc (digits_div i hb, digits_mod i hb, plus_minus φ laws (prod i (p / q)) (p % q) (mod-lt p pos));
    at_rise = λ p i j hp lt hj. digits_rise i j q _ _ lt (sum_code _ _);
    seat_in = λ p l hp hl inc. div_below l q q pos hl;
    at_seat = λ p l hp hl inc.
        cc (minus_plus φ laws (prod (l / q) (p / q)) (l % q) (mod-lt l pos), div-add-mod' l q);
  }

  by_lines : Side (q * q) (q * q) q (λ l p. Inc p l) plan.point_on plan.seat_on
  by_lines = record {
    at_in = λ l j hl hj. digits_lt hj (sum_code _ _);
    at_inc = λ l j hl hj.
        let b = sum (prod (l / q) j) (l % q) in
        let hb : b < q = sum_code _ _ in
        cc (digits_mod j hb, digits_div j hb);
    at_rise = λ l i j hl lt hj. digits_rise i j q _ _ lt (sum_code _ _);
    seat_in = λ l p hl hp inc. div_below p q q pos hp;
    at_seat = λ l p hl hp inc. cc (div-add-mod' p q);
  }

  -- two digits make a number
  same_number : (m n : ℕ) → m / q ≡ n / q → m % q ≡ n % q → m ≡ n
  same_number m n h r = cc (div-add-mod' m q, div-add-mod' n q)

  keeps : LayoutLaws plan Inc
  keeps = record {
    some_points = mul-pos pos pos;
    some_lines = mul-pos pos pos;
    some_point_degree = pos;
    some_line_degree = pos;
    count = refl;
    of_points = by_points;
    of_lines = by_lines;
    one_line = λ p p' l l' hp hp' hl hl' n a b c d.
        elim (ℕ_discrete (p / q) (p' / q)) [
          | yes e ↦ absurd (n (same_number p p' e (cc (a, b))))
          | no m ↦
              let s : l / q ≡ l' / q = slopes φ laws (l / q) (l' / q) (p / q) (p' / q) (l % q) (l' % q)
              (div_below l q q pos hl) (div_below l' q q pos hl') (div_below p q q pos hp) (div_below p' q q pos hp') m (sym a ∙ c) (sym b ∙ d) in
              same_number l l' s (sum_cancel φ laws (prod (l / q) (p / q)) (l % q) (l' % q) (mod-lt l pos) (mod-lt l' pos) cc)
        ];
  }

  pub is_euclidean : IsEuclidean φ (euclidean φ)
  is_euclidean = record {
    order_is = refl;
    points_are = refl;
    lines_are = refl;
    point_degree_is = refl;
    line_degree_is = refl;
    incidence = λ x y a b hx hy ha hb.
        simp (high_is q x y hy, last_is q x y hy, high_is q a b hb, last_is q a b hb)
        at (by_rule plan Inc keeps (q * x + y) (q * a + b) (two_lt q x y hx hy) (two_lt q a b ha hb));
    rising = laid_rising plan Inc keeps;
    lawful = laid_lawful plan Inc keeps;
  }

  -- a Euclidean plane has the counts and the rule of the layout
  follows : (h : GeometryModel) → IsEuclidean φ h → Follows plan Inc h
  follows h H = record {
    lawful = H.lawful;
    rising = H.rising;
    order_is = H.order_is;
    points_are = H.points_are;
    lines_are = H.lines_are;
    point_degree_is = H.point_degree_is;
    line_degree_is = H.line_degree_is;
    rule = λ p l hp hl. (
      _,
      _,
      div-add-mod p q,
      div-add-mod l q,
      H.incidence (p / q) (p % q) (l / q) (l % q) (div_below p q q pos hp) (mod-lt p pos) (div_below l q q pos hl) (mod-lt l pos),
    );
  }

  -- what is incident in one plane is incident in any other
  carried : (g h : GeometryModel) → IsEuclidean φ g → IsEuclidean φ h → (p l : ℕ) → On g p l → On h p l
  carried g h G H = carried_by plan Inc g h (follows g G) (follows h H)

  pub only_euclidean : OnlyEuclidean φ (euclidean φ)
  only_euclidean h H = only plan Inc keeps h (follows h H)
