-- A layout that keeps to a rule of incidence is a lawful geometry with that incidence and rising seats.
use Rattle.std.proofs.Common.{◌≡◌, ℕ, ◌+◌, ◌*◌, ◌/◌, ◌%◌, ◌<◌, ◌↔◌, sym, refl, ap, ◌∙◌, subst, ap₂, mod-lt, div-add-mod', arith}
use lib.Arith.{digits_lt, digits_div, digits_mod}
use Rattle.std.proofs.lemmas.Nat.{div_below}
use Rattle.geometry.specs.Model.{GeometryModel, edges}
use Rattle.geometry.specs.Incidence.{On}
use Rattle.geometry.specs.Laws.{GeometryLaws}
use Rattle.geometry.specs.Seats.{Rising}
use Rattle.geometry.specs.Layouts.{Layout, laid}
use Rattle.geometry.proofs.Sides.{Side, LayoutLaws}

module _ (n m s : ℕ) (Inc : ℕ → ℕ → Type 0) (at seat : ℕ → ℕ → ℕ) (S : Side n m s Inc at seat) where
  -- the seat of what stands at a seat is that seat, since the vertices opposite rise
  pub seat_is : (v i : ℕ) → v < n → i < s → seat v (at v i) ≡ i
  seat_is v i hv hi =
      let k = seat v (at v i) in
      let inc = S.at_inc v i hv hi in
      let hk = S.seat_in v (at v i) hv (S.at_in v i hv hi) inc in
      let same = S.at_seat v (at v i) hv (S.at_in v i hv hi) inc in
      grind (arith, S.at_rise v k i hv, S.at_rise v i k hv)

module _ (y : Layout) (Inc : ℕ → ℕ → Type 0) (laws : LayoutLaws y Inc) where
  open y use {points, lines, point_degree, line_degree, line_at, seat_at, point_on, seat_on}
  open laws use {some_points, some_lines, some_point_degree, some_line_degree, count, of_points, of_lines}

  abbrev u : ℕ
  u = line_degree

  abbrev g : GeometryModel
  g = laid y

  line_lt : (e : ℕ) → e < lines * u → e / u < lines
  line_lt e h = div_below e u lines some_line_degree h

  place_lt : (e : ℕ) → e % u < u
  place_lt e = mod-lt e some_line_degree

  seat_line : (p i : ℕ) → p < points → i < point_degree → seat_at p (line_at p i) ≡ i
  seat_line = seat_is points lines point_degree Inc line_at seat_at of_points

  seat_point : (l j : ℕ) → l < lines → j < u → seat_on l (point_on l j) ≡ j
  seat_point = seat_is lines points u (λ l p. Inc p l) point_on seat_on of_lines

  pub point_in : (e : ℕ) → e < edges g → g.point e < points
  point_in e h = of_lines.at_in (e / u) (e % u) (line_lt e h) (place_lt e)

  pub incident : (e : ℕ) → e < edges g → Inc (g.point e) (e / u)
  incident e h = of_lines.at_inc (e / u) (e % u) (line_lt e h) (place_lt e)

  -- the edge that a point and a line through it have
  pub joint : ℕ → ℕ → ℕ
  joint p l = l * u + seat_on l p

  place_in : (p l : ℕ) → p < points → l < lines → Inc p l → seat_on l p < u
  place_in p l hp hl inc = of_lines.seat_in l p hl hp inc

  joint_in : (p l : ℕ) → p < points → l < lines → Inc p l → joint p l < edges g
  unfolding joint
  joint_in p l hp hl inc = digits_lt hl (place_in p l hp hl inc)

  joint_line : (p l : ℕ) → p < points → l < lines → Inc p l → joint p l / u ≡ l
  unfolding joint
  joint_line p l hp hl inc = digits_div l (place_in p l hp hl inc)

  joint_point : (p l : ℕ) → p < points → l < lines → Inc p l → g.point (joint p l) ≡ p
  unfolding joint
  joint_point p l hp hl inc =
      ap₂ point_on (digits_div l (place_in p l hp hl inc)) (digits_mod l (place_in p l hp hl inc)) ∙ of_lines.at_seat l p hl hp inc

  -- an edge is that of its point and its line
  edge_joint : (e : ℕ) → e < edges g → joint (g.point e) (e / u) ≡ e
  unfolding joint
  edge_joint e h = ap (λ j. e / u * u + j) (seat_point (e / u) (e % u) (line_lt e h) (place_lt e)) ∙ div-add-mod' e u

  -- incidence in the geometry is incidence by the rule
  pub on_inc : (p l : ℕ) → On g p l → (p < points) × (l < lines) × Inc p l
  on_inc p l o = (
    subst (λ x. x < points) o.2 (point_in o.0 o.1),
    subst (λ x. x < lines) o.3 (line_lt o.0 o.1),
    subst (λ x. Inc p x) o.3 (subst (λ x. Inc x (o.0 / u)) o.2 (incident o.0 o.1)),
  )

  pub inc_on : (p l : ℕ) → p < points → l < lines → Inc p l → On g p l
  inc_on p l hp hl inc = (joint p l, joint_in p l hp hl inc, joint_point p l hp hl inc, joint_line p l hp hl inc)

  pub by_rule : (p l : ℕ) → p < points → l < lines → On g p l ↔ Inc p l
  by_rule p l hp hl = (λ o. (on_inc p l o).2, inc_on p l hp hl)

  edge_is : (p i : ℕ) → g.edge p i ≡ joint p (line_at p i)
  unfolding joint
  edge_is p i = refl

  edge_line : (p i : ℕ) → p < points → i < point_degree → g.edge p i / u ≡ line_at p i
  edge_line p i hp hi =
      ap (λ e. e / u) (edge_is p i) ∙ joint_line p (line_at p i) hp (of_points.at_in p i hp hi) (of_points.at_inc p i hp hi)

  edge_point' : (p i : ℕ) → p < points → i < point_degree → g.point (g.edge p i) ≡ p
  edge_point' p i hp hi =
      ap g.point (edge_is p i) ∙ joint_point p (line_at p i) hp (of_points.at_in p i hp hi) (of_points.at_inc p i hp hi)

  pub laid_lawful : GeometryLaws g
  laid_lawful = record {
    some_points = some_points;
    some_lines = some_lines;
    some_point_degree = some_point_degree;
    some_line_degree = some_line_degree;
    count = count;
    edge_in = λ p i hp hi. subst (λ e. e < edges g) (sym (edge_is p i)) (joint_in p (line_at p i) hp (of_points.at_in p i hp hi) (of_points.at_inc p i hp hi));
    point_in = point_in;
    seat_in = λ e h. of_points.seat_in (g.point e) (e / u) (point_in e h) (line_lt e h) (incident e h);
    point_edge = edge_point';
    seat_edge = λ p i hp hi. ap₂ seat_at (edge_point' p i hp hi) (edge_line p i hp hi) ∙ seat_line p i hp hi;
    edge_point = λ e h. edge_is (g.point e) (g.seat e)
        ∙ ap (joint (g.point e)) (of_points.at_seat (g.point e) (e / u) (point_in e h) (line_lt e h) (incident e h)) ∙ edge_joint e h;
    apart = λ e e' h h' p l. sym (edge_joint e h) ∙ ap₂ joint p l ∙ edge_joint e' h';
    one_line = λ p p' l l' n a b c d.
        let a' = on_inc p l a in
        let b' = on_inc p' l b in
        let c' = on_inc p l' c in
        let d' = on_inc p' l' d in
        laws.one_line p p' l l' a'.0 b'.0 a'.1 c'.1 n a'.2 b'.2 c'.2 d'.2;
  }

  seat_point_is : (l j : ℕ) → j < u → g.point (l * u + j) ≡ point_on l j
  seat_point_is l j hj = ap₂ point_on (digits_div l hj) (digits_mod l hj)

  pub laid_rising : Rising g
  laid_rising = record {
    lines_rise = λ p i j hp lt hj.
        let a = edge_line p i hp (omega arith) in
        let b = edge_line p j hp hj in
        let r = of_points.at_rise p i j hp lt hj in
        omega arith;
    points_rise = λ l i j hl lt hj.
        let a = seat_point_is l i (omega arith) in
        let b = seat_point_is l j hj in
        let r = of_lines.at_rise l i j hl lt hj in
        omega arith;
  }
