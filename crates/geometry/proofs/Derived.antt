-- What follows at once from the laws of a geometry.
use Rattle.std.proofs.Common.{◌≡◌, ℕ, ◌+◌, ◌*◌, ◌%◌, ◌<◌, sym, refl, ap, ◌∙◌, subst, mod-lt, div-add-mod'}
use lib.Arith.{digits_lt, digits_div, digits_mod}
use Rattle.std.proofs.lemmas.Nat.{div_below}
use Rattle.geometry.specs.Model.{GeometryModel, line_of}
use Rattle.geometry.specs.Incidence.{On}
use Rattle.geometry.specs.Laws.{GeometryLaws}

module _ (g : GeometryModel) (laws : GeometryLaws g) where
  -- what is incident is not beyond the last
  pub on_in : (p l : ℕ) → On g p l → (p < g.points) × (l < g.lines)
  on_in p l o = (
    subst (λ n. n < g.points) o.2 (laws.point_in o.0 o.1),
    subst (λ n. n < g.lines) o.3 (div_below o.0 g.line_degree g.lines laws.some_line_degree o.1),
  )

  -- the edge at each seat of a point lies on it and on its line
  pub edge_on : (p i : ℕ) → p < g.points → i < g.point_degree → On g p (line_of g (g.edge p i))
  edge_on p i hp hi = (g.edge p i, laws.edge_in p i hp hi, laws.point_edge p i hp hi, refl)

  -- the edge at each seat of a line lies on it and on its point
  pub seat_on : (l j : ℕ) → l < g.lines → j < g.line_degree → On g (g.point (l * g.line_degree + j)) l
  seat_on l j hl hj = (l * g.line_degree + j, digits_lt hl hj, refl, digits_div l hj)

  -- each line through a point stands at one of its seats
  pub at_seat : (p l : ℕ) → On g p l → (i : ℕ) × (i < g.point_degree) × (line_of g (g.edge p i) ≡ l)
  at_seat p l o = (
    g.seat o.0,
    laws.seat_in o.0 o.1,
    ap (line_of g) (ap (λ x. g.edge x (g.seat o.0)) (sym o.2) ∙ laws.edge_point o.0 o.1) ∙ o.3,
  )

  -- each point of a line stands at one of its seats
  pub at_place : (p l : ℕ) → On g p l → (j : ℕ) × (j < g.line_degree) × (g.point (l * g.line_degree + j) ≡ p)
  at_place p l o =
      let u = g.line_degree in
      (o.0 % u, mod-lt o.0 laws.some_line_degree, ap g.point (ap (λ x. x * u + o.0 % u) (sym o.3) ∙ div-add-mod' o.0 u) ∙ o.2)

  -- a point and a line have at most one edge
  pub one_edge : (p l : ℕ) (a b : On g p l) → a.0 ≡ b.0
  one_edge p l a b = laws.apart a.0 b.0 a.1 b.1 (a.2 ∙ sym b.2) (a.3 ∙ sym b.3)

  -- two seats of a point hold different lines
  pub seats_apart : (p i j : ℕ) → p < g.points → i < g.point_degree → j < g.point_degree
      → line_of g (g.edge p i) ≡ line_of g (g.edge p j) → i ≡ j
  seats_apart p i j hp hi hj e =
      sym (laws.seat_edge p i hp hi)
      ∙ ap g.seat (laws.apart (g.edge p i) (g.edge p j) (laws.edge_in p i hp hi) (laws.edge_in p j hp hj) (laws.point_edge p i hp hi ∙ sym (laws.point_edge p j hp hj)) e)
      ∙ laws.seat_edge p j hp hj

  -- two seats of a line hold different points
  pub places_apart : (l i j : ℕ) → l < g.lines → i < g.line_degree → j < g.line_degree
      → g.point (l * g.line_degree + i) ≡ g.point (l * g.line_degree + j) → i ≡ j
  places_apart l i j hl hi hj e =
      let u = g.line_degree in
      sym (digits_mod l hi)
      ∙ ap (λ n. n % u) (laws.apart (l * u + i) (l * u + j) (digits_lt hl hi) (digits_lt hl hj) e (digits_div l hi ∙ sym (digits_div l hj)))
      ∙ digits_mod l hj
