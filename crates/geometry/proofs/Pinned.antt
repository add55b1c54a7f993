-- Counts, incidence and rising seats leave no choice: they fix every answer.
use Rattle.std.proofs.Common.{◌≡◌, ℕ, zero, suc, ◌+◌, ◌*◌, ◌/◌, ◌%◌, ◌<◌, ◌≤◌, sym, ap, ◌∙◌, subst, ap₂, mod-lt, div-add-mod', arith}
use Rattle.std.proofs.lemmas.Bool.Decides.{nat_tests}
use Rattle.std.proofs.lemmas.Nat.{div_below}
use Rattle.geometry.specs.Model.{GeometryModel, edges, line_of}
use Rattle.geometry.specs.Incidence.{On}
use Rattle.geometry.specs.Laws.{GeometryLaws}
use Rattle.geometry.specs.Seats.{Rising}
use Rattle.geometry.specs.Agreement.{Agree}
use Rattle.geometry.proofs.Derived.{edge_on, seat_on, at_seat, at_place}

-- a row of s numbers that rise, and one whose members are all in another
abbrev Rows : ℕ → (ℕ → ℕ) → Type 0
Rows s f = (i j : ℕ) → i < j → j < s → f i < f j

abbrev Within : ℕ → (ℕ → ℕ) → (ℕ → ℕ) → Type 0
Within s f h = (i : ℕ) → i < s → (j : ℕ) × (j < s) × (h j ≡ f i)

-- where two rows agree before i, the member at i of one is at most that of the other
least : (s : ℕ) (f h : ℕ → ℕ) → Rows s f → Rows s h → Within s f h → (i : ℕ) → i < s → ((k : ℕ) → k < i → f k ≡ h k) → h i ≤ f i
least s f h rf rh to i hi below =
    let t = to i hi in
    grind (arith, t.1, t.2, below t.0, rf t.0 i, rh i t.0)

-- two rising rows with the same members are the same row
row : (s : ℕ) (f h : ℕ → ℕ) → Rows s f → Rows s h → Within s f h → Within s h f → (n i : ℕ) → i < n → i < s → f i ≡ h i
row s f h rf rh to from zero i lt hi = absurd (omega arith)
row s f h rf rh to from (suc n) i lt hi =
    let below : (k : ℕ) → k < i → f k ≡ h k = λ k hk. row s f h rf rh to from n k (omega arith) (omega arith) in
    let a = least s f h rf rh to i hi below in
    let b = least s h f rh rf from i hi (λ k hk. sym (below k hk)) in
    omega arith

-- the same order and counts, and the same points on the same lines
pub record Alike (g h : GeometryModel) : Type 0 where
  pub orders_alike : g.order ≡ h.order
  pub points_alike : g.points ≡ h.points
  pub lines_alike : g.lines ≡ h.lines
  pub point_degrees_alike : g.point_degree ≡ h.point_degree
  pub line_degrees_alike : g.line_degree ≡ h.line_degree
  pub on_alike : (p l : ℕ) → On g p l → On h p l
  pub alike_on : (p l : ℕ) → On h p l → On g p l

back : (g h : GeometryModel) → Alike g h → Alike h g
back g h a = record {
  orders_alike = sym a.orders_alike;
  points_alike = sym a.points_alike;
  lines_alike = sym a.lines_alike;
  point_degrees_alike = sym a.point_degrees_alike;
  line_degrees_alike = sym a.line_degrees_alike;
  on_alike = a.alike_on;
  alike_on = a.on_alike;
}

module _ (g h : GeometryModel) (L : GeometryLaws g) (M : GeometryLaws h) (A : Alike g h) where
  -- each line at a seat of p in g stands at a seat of p in h
  lines_within : (p : ℕ) → p < g.points → Within g.point_degree (λ i. line_of g (g.edge p i)) (λ i. line_of h (h.edge p i))
  lines_within p hp i hi =
      let l = line_of g (g.edge p i) in
      let t = at_seat h M p l (A.on_alike p l (edge_on g L p i hp hi)) in
      (t.0, subst (λ s. t.0 < s) (sym A.point_degrees_alike) t.1, t.2)

  -- each point at a seat of l in g stands at a seat of l in h
  points_within : (l : ℕ) → l < g.lines → Within g.line_degree (λ j. g.point (l * g.line_degree + j)) (λ j. h.point (l * h.line_degree + j))
  points_within l hl j hj =
      let p = g.point (l * g.line_degree + j) in
      let t = at_place h M p l (A.on_alike p l (seat_on g L l j hl hj)) in
      (t.0, subst (λ s. t.0 < s) (sym A.line_degrees_alike) t.1, t.2)

module _ (g h : GeometryModel) (L : GeometryLaws g) (M : GeometryLaws h) (R : Rising g) (S : Rising h) (A : Alike g h) where
  B : Alike h g
  B = back g h A

  edges_same : edges g ≡ edges h
  edges_same = ap₂ ◌*◌ A.lines_alike A.line_degrees_alike

  same_line : (p i : ℕ) → p < g.points → i < g.point_degree → line_of g (g.edge p i) ≡ line_of h (h.edge p i)
  same_line p i hp hi =
      row g.point_degree (λ i. line_of g (g.edge p i)) (λ i. line_of h (h.edge p i)) (λ i j. R.lines_rise p i j hp)
      (λ i j lt hj. S.lines_rise p i j hp' lt (subst (λ s. j < s) A.point_degrees_alike hj)) (lines_within g h L M A p hp)
      (subst (λ s. Within s (λ i. line_of h (h.edge p i)) (λ i. line_of g (g.edge p i))) (sym A.point_degrees_alike) (lines_within h g M L B p hp'))
      (suc i) i (omega arith) hi
    where
      hp' : p < h.points
      hp' = subst (λ n. p < n) A.points_alike hp

  same_seat_point : (l j : ℕ) → l < g.lines → j < g.line_degree → g.point (l * g.line_degree + j) ≡ h.point (l * h.line_degree + j)
  same_seat_point l j hl hj =
      row g.line_degree (λ j. g.point (l * g.line_degree + j)) (λ j. h.point (l * h.line_degree + j)) (λ i j. R.points_rise l i j hl)
      (λ i j lt hj. S.points_rise l i j hl' lt (subst (λ s. j < s) A.line_degrees_alike hj)) (points_within g h L M A l hl)
      (subst (λ s. Within s (λ j. h.point (l * h.line_degree + j)) (λ j. g.point (l * g.line_degree + j))) (sym A.line_degrees_alike) (points_within h g M L B l hl'))
      (suc j) j (omega arith) hj
    where
      hl' : l < h.lines
      hl' = subst (λ n. l < n) A.lines_alike hl

  same_point : (e : ℕ) → e < edges g → g.point e ≡ h.point e
  same_point e he =
      let u = g.line_degree in
      ap g.point (sym (div-add-mod' e u))
      ∙ same_seat_point (e / u) (e % u) (div_below e u g.lines L.some_line_degree he) (mod-lt e L.some_line_degree)
      ∙ ap (λ v. h.point (e / u * v + e % u)) (sym A.line_degrees_alike) ∙ ap h.point (div-add-mod' e u)

  same_edge : (p i : ℕ) → p < g.points → i < g.point_degree → g.edge p i ≡ h.edge p i
  same_edge p i hp hi =
      let hp' : p < h.points = subst (λ n. p < n) A.points_alike hp in
      let hi' : i < h.point_degree = subst (λ n. i < n) A.point_degrees_alike hi in
      let there : h.edge p i < edges g = subst (λ n. h.edge p i < n) (sym edges_same) (M.edge_in p i hp' hi') in
      L.apart (g.edge p i) (h.edge p i) (L.edge_in p i hp hi) there
      (L.point_edge p i hp hi ∙ sym (same_point (h.edge p i) there ∙ M.point_edge p i hp' hi'))
      (same_line p i hp hi ∙ ap (λ u. h.edge p i / u) (sym A.line_degrees_alike))

  same_seat : (e : ℕ) → e < edges g → g.seat e ≡ h.seat e
  same_seat e he =
      let p = g.point e in
      let i = g.seat e in
      let hp = L.point_in e he in
      let hi = L.seat_in e he in
      sym (M.seat_edge p i (subst (λ n. p < n) A.points_alike hp) (subst (λ n. i < n) A.point_degrees_alike hi))
      ∙ ap h.seat (sym (same_edge p i hp hi) ∙ L.edge_point e he)

  pub pinned : Agree g h
  pinned = record {
    orders_agree = A.orders_alike;
    points_agree = A.points_alike;
    lines_agree = A.lines_alike;
    point_degrees_agree = A.point_degrees_alike;
    line_degrees_agree = A.line_degrees_alike;
    edges_agree = λ p i. grind (arith, nat_tests, A.points_alike, A.point_degrees_alike, same_edge p i);
    points_of_agree = λ e. grind (arith, nat_tests, edges_same, same_point e, same_seat e);
  }
