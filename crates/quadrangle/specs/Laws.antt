-- The formulas give the quadrangle, and nothing else does.
use Rattle.std.specs.Prelude.{◌≡◌, ℕ, ◌*◌, ◌/◌, ◌<◌, ◌≢◌, refl}
use Rattle.std.proofs.Common.{◌∙◌, subst, mod-lt, mul-pos}
use Rattle.std.proofs.Math.Decide.{ℕ_discrete}
use Rattle.field.specs.Model.{FieldModel, minus}
use Rattle.field.specs.Laws.{FieldLaws}
use Rattle.field.proofs.Ring.{zero_code, sum_cancel, sum_left_comm}
use Rattle.field.proofs.Differences.{plus_minus, minus_plus, minus_back, sum_cancel_right}
use Rattle.field.proofs.Slopes.{slopes}
use Rattle.geometry.specs.Model.{GeometryModel}
use Rattle.geometry.specs.Incidence.{On}
use Rattle.geometry.specs.Layouts.{Layout}
use Rattle.geometry.proofs.Laid.{laid_lawful, laid_rising, by_rule}
use Rattle.geometry.proofs.Only.{Follows, only, carried as carried_by}
use Rattle.geometry.proofs.Sides.{Side, LayoutLaws}
use Rattle.radix.specs.Digits.{first, second, third, number}
use Rattle.radix.proofs.Radix.{first_is, second_is, third_is, number_is, number_lt, number_rise, first_lt, same_number, read}
use Rattle.quadrangle.specs.Affine.{IsQuadrangle, OnlyQuadrangle}
use Rattle.quadrangle.specs.Formulas.{quadrangle, quadrangle_layout, line_through, point_over}

-- incidence of numbers, by the two equations
abbrev pub Inc : FieldModel → ℕ → ℕ → Type 0
Inc φ p l = (φ.sum (second φ.order p) (second φ.order l) ≡ φ.prod (first φ.order l) (first φ.order p))
    × (φ.sum (third φ.order p) (third φ.order l) ≡ φ.prod (first φ.order p) (second φ.order l))

module _ (φ : FieldModel) (laws : FieldLaws φ) where
  open φ use {sum, prod, order as q}
  open laws use {sum_code, prod_code, sum_comm}

  abbrev X : ℕ → ℕ
  X = first q

  abbrev Y : ℕ → ℕ
  Y = second q

  abbrev Z : ℕ → ℕ
  Z = third q

  pos : 0 < q
  pos = zero_code φ laws

  abbrev plan : Layout
  plan = quadrangle_layout φ

  pub second_lt : (n : ℕ) → Y n < q
  second_lt n = mod-lt (n / q) pos

  pub third_lt : (n : ℕ) → Z n < q
  third_lt n = mod-lt n pos

  pub incs : (x y z a b c : ℕ) → y < q → z < q → b < q → c < q → sum y b ≡ prod a x → sum z c ≡ prod x b → Inc φ (number q x y z) (number q a b c)
  incs x y z a b c hy hz hb hc e h = (
    cc (second_is q x y z hy hz, second_is q a b c hb hc, first_is q a b c hb hc, first_is q x y z hy hz),
    cc (third_is q x y z hz, third_is q a b c hc, first_is q x y z hy hz, second_is q a b c hb hc),
  )

  pub inc_out : (x y z a b c : ℕ) → y < q → z < q → b < q → c < q → Inc φ (number q x y z) (number q a b c) → (sum y b ≡ prod a x) × (sum z c ≡ prod x b)
  inc_out x y z a b c hy hz hb hc i = (
    cc (i.0, second_is q x y z hy hz, second_is q a b c hb hc, first_is q a b c hb hc, first_is q x y z hy hz),
    cc (i.1, third_is q x y z hz, third_is q a b c hc, first_is q x y z hy hz, second_is q a b c hb hc),
  )

  -- each line through a point is found by its slope, and each point of a line by its place
  pub through_inc : (x y z a : ℕ) → y < q → z < q → Inc φ (number q x y z) (line_through φ x y z a)
  through_inc x y z a hy hz =
      incs x y z a (minus φ (prod a x) y) (minus φ (prod x (minus φ (prod a x) y)) z) hy hz (sum_code _ _) (sum_code _ _)
      (plus_minus φ laws y (prod a x) (prod_code a x)) (plus_minus φ laws z (prod x (minus φ (prod a x) y)) (prod_code _ _))

  pub over_inc : (a b c x : ℕ) → b < q → c < q → Inc φ (point_over φ a b c x) (number q a b c)
  over_inc a b c x hb hc =
      incs x (minus φ (prod a x) b) (minus φ (prod x b) c) a b c (sum_code _ _) (sum_code _ _) hb hc
      (minus_back φ laws b (prod a x) (prod_code a x)) (minus_back φ laws c (prod x b) (prod_code x b))

  pub by_points : Side (q * q * q) (q * q * q) q (Inc φ) plan.line_at plan.seat_at
  by_points = record {
    at_in = λ p i hp hi. number_lt q i _ _ hi (sum_code _ _) (sum_code _ _);
    at_inc = λ p i hp hi. subst (λ n. Inc φ n (plan.line_at p i)) (number_is q p) (through_inc (X p) (Y p) (Z p) i (second_lt p) (third_lt p));
    at_rise = λ p i j hp lt hj. number_rise q i _ _ j _ _ lt (sum_code _ _) (sum_code _ _);
    seat_in = λ p l hp hl inc. first_lt q l pos hl;
    at_seat = λ p l hp hl inc.
        cc (inc.0, inc.1, minus_plus φ laws (Y p) (Y l) (second_lt l), minus_plus φ laws (Z p) (Z l) (third_lt l), number_is q l);
  }

  pub by_lines : Side (q * q * q) (q * q * q) q (λ l p. Inc φ p l) plan.point_on plan.seat_on
  by_lines = record {
    at_in = λ l j hl hj. number_lt q j _ _ hj (sum_code _ _) (sum_code _ _);
    at_inc = λ l j hl hj. subst (λ n. Inc φ (plan.point_on l j) n) (number_is q l) (over_inc (X l) (Y l) (Z l) j (second_lt l) (third_lt l));
    at_rise = λ l i j hl lt hj. number_rise q i _ _ j _ _ lt (sum_code _ _) (sum_code _ _);
    seat_in = λ l p hl hp inc. first_lt q p pos hp;
    at_seat = λ l p hl hp inc.
        cc (
          inc.0,
          inc.1,
          sum_comm (Y p) (Y l),
          sum_comm (Z p) (Z l),
          minus_plus φ laws (Y l) (Y p) (second_lt p),
          minus_plus φ laws (Z l) (Z p) (third_lt p),
          number_is q p,
        );
  }

  -- v + b = m and v + b' = m' say together m + b' = m' + b
  mixed : (v b b' m m' : ℕ) → sum v b ≡ m → sum v b' ≡ m' → sum m b' ≡ sum m' b
  mixed v b b' m m' e e' =
      let swap : sum (sum v b) b' ≡ sum (sum v b') b = simp (laws.sum_comm, sum_left_comm φ laws) in
      cc

  pub two_points : (p p' l l' : ℕ) → p < q * q * q → p' < q * q * q → l < q * q * q → l' < q * q * q → p ≢ p'
      → Inc φ p l → Inc φ p' l → Inc φ p l' → Inc φ p' l' → l ≡ l'
  two_points p p' l l' hp hp' hl hl' n a b c d =
      elim (ℕ_discrete (X p) (X p')) [
        | yes e ↦
            let y = sum_cancel_right φ laws (Y l) (Y p) (Y p') (second_lt p) (second_lt p') (cc (a.0, b.0)) in
            let z = sum_cancel_right φ laws (Z l) (Z p) (Z p') (third_lt p) (third_lt p') (cc (a.1, b.1)) in
            absurd (n (same_number q p p' e y z))
        | no m ↦
            let s : X l ≡ X l' = slopes φ laws (X l) (X l') (X p) (X p') (Y l') (Y l)
            (first_lt q l pos hl) (first_lt q l' pos hl') (first_lt q p pos hp) (first_lt q p' pos hp') m
            (mixed (Y p) (Y l) (Y l') _ _ a.0 c.0) (mixed (Y p') (Y l) (Y l') _ _ b.0 d.0) in
            let t : Y l ≡ Y l' = sum_cancel φ laws (Y p) (Y l) (Y l') (second_lt l) (second_lt l') (cc (a.0, c.0)) in
            same_number q l l' s t (sum_cancel φ laws (Z p) (Z l) (Z l') (third_lt l) (third_lt l') (cc (a.1, c.1)))
      ]

  pub keeps : LayoutLaws plan (Inc φ)
  keeps = record {
    some_points = mul-pos (mul-pos pos pos) pos;
    some_lines = mul-pos (mul-pos pos pos) pos;
    some_point_degree = pos;
    some_line_degree = pos;
    count = refl;
    of_points = by_points;
    of_lines = by_lines;
    one_line = two_points;
  }

  pub is_quadrangle : IsQuadrangle φ (quadrangle φ)
  is_quadrangle = record {
    order_is = refl;
    points_are = refl;
    lines_are = refl;
    point_degree_is = refl;
    line_degree_is = refl;
    incidence = λ x y z a b c hx hy hz ha hb hc.
        rw (read q x y z, read q a b c)
        (simp (first_is q x y z hy hz, second_is q x y z hy hz, third_is q x y z hz, first_is q a b c hb hc, second_is q a b c hb hc, third_is q a b c hc)
        at (by_rule plan (Inc φ) keeps (number q x y z) (number q a b c) (number_lt q x y z hx hy hz) (number_lt q a b c ha hb hc)));
    rising = laid_rising plan (Inc φ) keeps;
    lawful = laid_lawful plan (Inc φ) keeps;
  }

  -- a quadrangle has the counts and the rule of the layout
  follows : (h : GeometryModel) → IsQuadrangle φ h → Follows plan (Inc φ) h
  follows h H = record {
    lawful = H.lawful;
    rising = H.rising;
    order_is = H.order_is;
    points_are = H.points_are;
    lines_are = H.lines_are;
    point_degree_is = H.point_degree_is;
    line_degree_is = H.line_degree_is;
    rule = λ p l hp hl. (
      _,
      _,
      read q (X p) (Y p) (Z p) ∙ number_is q p,
      read q (X l) (Y l) (Z l) ∙ number_is q l,
      H.incidence (X p) (Y p) (Z p) (X l) (Y l) (Z l) (first_lt q p pos hp) (second_lt p) (third_lt p) (first_lt q l pos hl) (second_lt l) (third_lt l),
    );
  }

  -- what is incident in one quadrangle is incident in any other
  carried : (g h : GeometryModel) → IsQuadrangle φ g → IsQuadrangle φ h → (p l : ℕ) → On g p l → On h p l
  carried g h G H = carried_by plan (Inc φ) g h (follows g G) (follows h H)

  pub only_quadrangle : OnlyQuadrangle φ (quadrangle φ)
  only_quadrangle h H = only plan (Inc φ) keeps h (follows h H)
