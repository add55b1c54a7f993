-- A layout leaves no choice: whatever has its counts, its rule of incidence and rising seats gives the same answers.
use Rattle.std.proofs.Common.{◌≡◌, ℕ, ◌<◌, ◌↔◌, refl, subst}
use Rattle.geometry.specs.Model.{GeometryModel}
use Rattle.geometry.specs.Incidence.{On}
use Rattle.geometry.specs.Laws.{GeometryLaws}
use Rattle.geometry.specs.Seats.{Rising}
use Rattle.geometry.specs.Layouts.{Layout, laid}
use Rattle.geometry.specs.Agreement.{Agree}
use Rattle.geometry.proofs.Derived.{on_in}
use Rattle.geometry.proofs.Laid.{laid_lawful, laid_rising, by_rule}
use Rattle.geometry.proofs.Pinned.{pinned}
use Rattle.geometry.proofs.Sides.{LayoutLaws}

-- a geometry h with the counts and the rule of a layout, and rising seats; the rule may be known at numbers m and n that are equal to p and l
pub record Follows (y : Layout) (Inc : ℕ → ℕ → Type 0) (h : GeometryModel) : Type 0 where
  pub lawful : GeometryLaws h
  pub rising : Rising h
  pub order_is : h.order ≡ y.order
  pub points_are : h.points ≡ y.points
  pub lines_are : h.lines ≡ y.lines
  pub point_degree_is : h.point_degree ≡ y.point_degree
  pub line_degree_is : h.line_degree ≡ y.line_degree
  pub rule : (p l : ℕ) → p < y.points → l < y.lines → (m : ℕ) × (n : ℕ) × (m ≡ p) × (n ≡ l) × (On h m n ↔ Inc p l)

module _ (y : Layout) (Inc : ℕ → ℕ → Type 0) where
  rule_at : (h : GeometryModel) → Follows y Inc h → (p l : ℕ) → p < y.points → l < y.lines → On h p l ↔ Inc p l
  rule_at h H p l hp hl =
      let r = H.rule p l hp hl in
      subst (λ n. On h p n ↔ Inc p l) r.3 (subst (λ m. On h m r.1 ↔ Inc p l) r.2 r.4)

  -- what is incident in one such geometry is incident in any other
  pub carried : (g h : GeometryModel) → Follows y Inc g → Follows y Inc h → (p l : ℕ) → On g p l → On h p l
  carried g h G H p l o =
      let b = on_in g G.lawful p l o in
      let hp : p < y.points = subst (λ n. p < n) G.points_are b.0 in
      let hl : l < y.lines = subst (λ n. l < n) G.lines_are b.1 in
      (rule_at h H p l hp hl).1 ((rule_at g G p l hp hl).0 o)

module _ (y : Layout) (Inc : ℕ → ℕ → Type 0) (laws : LayoutLaws y Inc) where
  -- the geometry of the layout is one of them
  laid_follows : Follows y Inc (laid y)
  laid_follows = record {
    lawful = laid_lawful y Inc laws;
    rising = laid_rising y Inc laws;
    order_is = refl;
    points_are = refl;
    lines_are = refl;
    point_degree_is = refl;
    line_degree_is = refl;
    rule = λ p l hp hl. (p, l, refl, refl, by_rule y Inc laws p l hp hl);
  }

  pub only : (h : GeometryModel) → Follows y Inc h → Agree h (laid y)
  only h H = pinned h (laid y) H.lawful (laid_lawful y Inc laws) H.rising (laid_rising y Inc laws) (record {
    orders_alike = H.order_is;
    points_alike = H.points_are;
    lines_alike = H.lines_are;
    point_degrees_alike = H.point_degree_is;
    line_degrees_alike = H.line_degree_is;
    on_alike = carried y Inc h (laid y) H laid_follows;
    alike_on = carried y Inc (laid y) h laid_follows H;
  })
