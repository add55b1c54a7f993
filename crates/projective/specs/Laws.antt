-- The formulas give the projective plane, and nothing else does.
use Rattle.std.specs.Prelude.{◌≡◌, ℕ, ◌+◌, ◌*◌, ◌<◌, refl}
use Rattle.std.proofs.Common.{sym, ap, ap₂, ◌∙◌, subst, arith}
use Rattle.field.specs.Model.{FieldModel}
use Rattle.field.specs.Laws.{FieldLaws}
use Rattle.geometry.specs.Model.{GeometryModel}
use Rattle.geometry.specs.Incidence.{On}
use Rattle.geometry.proofs.Laid.{laid_lawful, laid_rising, by_rule}
use Rattle.geometry.proofs.Only.{Follows, only, carried as carried_by}
use Rattle.geometry.proofs.Sides.{Side, LayoutLaws}
use Rattle.projective.specs.declared.triple.Triple.{Triple}
use Rattle.projective.specs.Triples.{Codes, x_of, y_of, z_of, number_of, dot}
use Rattle.projective.specs.Plane.{IsProjective, OnlyProjective}
use Rattle.projective.specs.Formulas.{triple_of, opposite, vertex_at, seat_between, projective, projective_layout}
use Rattle.projective.specs.TriplesLemmas.{number_in, triple_number, number_triple, same_triple, x_code, y_code, z_code}
use Rattle.projective.specs.Cross.{one_line}
use Rattle.projective.specs.Opposites.{Kind, kind, kind_codes, kind_dot, kind_rise, seat_lt, stands, whole}

module _ (φ : FieldModel) (laws : FieldLaws φ) where
  open φ use {sum, order as q}
  open laws use {more, prod_comm}

  abbrev N : ℕ
  N = q * q + q + 1

  abbrev T : ℕ → Triple
  T = triple_of q

  -- a x + b y + c z = 0, of numbers
  abbrev Orth : ℕ → ℕ → Type 0
  Orth v w = dot φ (T v) (T w) ≡ 0

  codes : (v : ℕ) → v < N → Codes q (T v)
  codes v h = (number_triple q more v h).1

  kind_at : (v i : ℕ) → v < N → i < q + 1 → Kind φ laws (x_of (T v)) (y_of (T v)) (z_of (T v)) i (opposite φ (x_of (T v)) (y_of (T v)) (z_of (T v)) i)
  kind_at v i hv hi = kind φ laws (x_of (T v)) (y_of (T v)) (z_of (T v)) i (y_code q more (T v) (codes v hv)) (z_code q more (T v) (codes v hv)) hi

  opp_codes : (v i : ℕ) → v < N → i < q + 1 → Codes q (opposite φ (x_of (T v)) (y_of (T v)) (z_of (T v)) i)
  opp_codes v i hv hi = kind_codes φ laws (x_of (T v)) (y_of (T v)) (z_of (T v)) (kind_at v i hv hi)

  side : Side N N (q + 1) Orth (vertex_at φ) (seat_between φ)
  side = record {
    at_in = λ v i hv hi. number_in q more _ (opp_codes v i hv hi);
    at_inc = λ v i hv hi.
        subst (λ t. dot φ (T v) t ≡ 0) (sym (triple_number q more _ (opp_codes v i hv hi)))
        (kind_dot φ laws (x_of (T v)) (y_of (T v)) (z_of (T v)) (x_code q more (T v)) (y_code q more (T v) (codes v hv)) (z_code q more (T v) (codes v hv)) (kind_at v i hv hi));
    at_rise = λ v i j hv lt hj. kind_rise φ laws (x_of (T v)) (y_of (T v)) (z_of (T v)) lt (kind_at v i hv (omega arith)) (kind_at v j hv hj);
    seat_in = λ v w hv hw inc. seat_lt φ laws _ (T w) (codes w hw);
    at_seat = λ v w hv hw inc.
        ap (number_of q) (stands φ laws (x_of (T v)) (y_of (T v)) (z_of (T v)) (T w) (x_code q more (T v)) (y_code q more (T v) (codes v hv)) (z_code q more (T v) (codes v hv))
        (whole φ laws (T v)) (codes w hw) inc) ∙ (number_triple q more w hw).0;
  }

  pub vertex_in : (v i : ℕ) → v < N → i < q + 1 → vertex_at φ v i < N
  vertex_in = side.at_in

  -- a vertex has the triple that it was numbered from
  pub triple_at : (v i : ℕ) → v < N → i < q + 1 → triple_of q (vertex_at φ v i) ≡ opposite φ (x_of (T v)) (y_of (T v)) (z_of (T v)) i
  triple_at v i hv hi = triple_number q more _ (opp_codes v i hv hi)

  dot_comm : (s t : Triple) → dot φ s t ≡ dot φ t s
  dot_comm s t = ap₂ sum (ap₂ sum (prod_comm _ _) (prod_comm _ _)) (prod_comm _ _)

  -- of a point the rule is read the other way round
  abbrev Inc : ℕ → ℕ → Type 0
  Inc p l = Orth l p

  by_points : Side N N (q + 1) Inc (vertex_at φ) (seat_between φ)
  by_points = record {
    at_in = vertex_in;
    at_inc = λ v i hv hi. dot_comm (T (vertex_at φ v i)) (T v) ∙ side.at_inc v i hv hi;
    at_rise = side.at_rise;
    seat_in = λ v w hv hw inc. side.seat_in v w hv hw (dot_comm (T v) (T w) ∙ inc);
    at_seat = λ v w hv hw inc. side.at_seat v w hv hw (dot_comm (T v) (T w) ∙ inc);
  }

  keeps : LayoutLaws (projective_layout φ) Inc
  keeps = record {
    some_points = omega arith;
    some_lines = omega arith;
    some_point_degree = omega arith;
    some_line_degree = omega arith;
    count = refl;
    of_points = by_points;
    of_lines = side;
    one_line = λ p p' l l' hp hp' hl hl' n a b c d.
        same_triple q more l l' hl hl' (one_line φ laws (T p) (T p') (T l) (T l') (codes p hp) (codes p' hp') (codes l hl) (codes l' hl')
        (λ e. n (same_triple q more p p' hp hp' e)) a b c d);
  }

  pub is_projective : IsProjective φ (projective φ)
  is_projective = record {
    order_is = refl;
    points_are = refl;
    lines_are = refl;
    point_degree_is = refl;
    line_degree_is = refl;
    incidence = λ p m hp hm.
        simp (triple_number q more p hp, triple_number q more m hm)
        at (by_rule (projective_layout φ) Inc keeps (number_of q p) (number_of q m) (number_in q more p hp) (number_in q more m hm));
    rising = laid_rising (projective_layout φ) Inc keeps;
    lawful = laid_lawful (projective_layout φ) Inc keeps;
  }

  -- a projective plane has the counts and the rule of the layout
  follows : (h : GeometryModel) → IsProjective φ h → Follows (projective_layout φ) Inc h
  follows h H = record {
    lawful = H.lawful;
    rising = H.rising;
    order_is = H.order_is;
    points_are = H.points_are;
    lines_are = H.lines_are;
    point_degree_is = H.point_degree_is;
    line_degree_is = H.line_degree_is;
    rule = λ p l hp hl. (
      _,
      _,
      (number_triple q more p hp).0,
      (number_triple q more l hl).0,
      H.incidence (T p) (T l) (codes p hp) (codes l hl),
    );
  }

  -- what is incident in one plane is incident in any other
  carried : (g h : GeometryModel) → IsProjective φ g → IsProjective φ h → (p l : ℕ) → On g p l → On h p l
  carried g h G H = carried_by (projective_layout φ) Inc g h (follows g G) (follows h H)

  pub only_projective : OnlyProjective φ (projective φ)
  only_projective h H = only (projective_layout φ) Inc keeps h (follows h H)
