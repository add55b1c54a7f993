-- A point lies on a line where the edge at one of its seats does.
use Rattle.std.proofs.Common.{◌≡◌, ℕ, ◌<◌, Bool, true, false, MatchBool, IsTrue, ◌↔◌, Some, length, get_or, option_map, refl, sym, ap, subst, arith}
use Rattle.std.proofs.lemmas.Bool.{lt-ltb, ltb-true}
use Rattle.std.proofs.lemmas.List.FromFn.{length-range_with_len, get_or-range_with_len}
use Rattle.std.specs.List.{range_with_len, AllWithin, HoldsAt}
use Rattle.geometry.specs.Model.{GeometryModel, edge_at, line_of}
use Rattle.geometry.specs.Laws.{GeometryLaws}
use Rattle.geometry.specs.Incidence.{On}
use Rattle.geometry.proofs.Derived.{at_seat}

module _ (m : GeometryModel) (laws : GeometryLaws m) (p l : ℕ) where
  -- the edge at seat i of the point is on the line
  abbrev pub Joins : ℕ → Type 0
  Joins i = option_map (line_of m) (edge_at m p i) ≡ Some l

  joins_on : (i : ℕ) → Joins i → On m p l
  joins_on i h =
      let low : p < m.points = grind (arith, ltb-true) in
      let seat : i < m.point_degree = grind (arith, ltb-true) in
      (m.edge p i, laws.edge_in p i low seat, laws.point_edge p i low seat, grind (arith, lt-ltb))

  on_joins : On m p l → (i : ℕ) × (i < m.point_degree) × Joins i
  on_joins o =
      let s = at_seat m laws p l o in
      let low = laws.point_in o.0 o.1 in
      (s.0, s.1, rw (lt-ltb p m.points (omega (arith, low, o.2)), lt-ltb s.0 m.point_degree s.1) (ap Some s.2))

  -- so a search for such a seat tells whether the point is on the line
  pub joined : (n : ℕ) → n ≡ m.point_degree → (r : Bool)
      → MatchBool r ((k : ℕ) × (k < length (range_with_len 0 n)) × HoldsAt Joins (range_with_len 0 n) k) (AllWithin (λ i. Joins i → ⊥) (range_with_len 0 n) 0 (length (range_with_len 0 n)))
      → IsTrue r ↔ On m p l
  joined n e true h = (λ _. joins_on (get_or (range_with_len 0 n) h.0 0) (h.2 0), λ _. refl)
  joined n e false h = (
    λ z. grind arith,
    λ o.
        let s = on_joins o in
        let k = s.0 in
        let at : get_or (range_with_len 0 n) k 0 ≡ k = omega (arith, get_or-range_with_len 0 n k 0 (omega (arith, s.1, e))) in
        absurd (h k 0 (omega arith) (omega (arith, length-range_with_len 0 n, s.1, e)) (subst Joins (sym at) s.2)),
  )
