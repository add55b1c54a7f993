-- The projection answers the joining pair, and there is at most one.
use Rattle.std.specs.Prelude.{◌≡◌, ℕ, ◌*◌, ◌<◌, Bool, true, false, cond, ◌≢◌, Some, None, Option, nat_lt, refl}
use Rattle.std.proofs.Common.{sym, ap, ◌∙◌, subst, arith}
use Rattle.std.proofs.Math.Decide.{ℕ_discrete}
use Rattle.std.proofs.lemmas.Bool.{ltb-true, ltb-false}
use Rattle.field.specs.Model.{FieldModel, minus}
use Rattle.field.specs.Laws.{FieldLaws}
use Rattle.field.proofs.Ring.{zero_code, zero_prod, minus_eq}
use Rattle.field.proofs.Differences.{plus_minus, minus_back, same_minus}
use Rattle.field.proofs.Quotients.{shorten, times_quotient, over_zero, over_is}
use Rattle.geometry.specs.Model.{GeometryModel}
use Rattle.geometry.specs.Incidence.{On}
use Rattle.geometry.specs.Projection.{Joins, Joined, OnePair}
use Rattle.geometry.proofs.Laid.{on_inc, inc_on}
use Rattle.radix.specs.Digits.{first, second, third}
use Rattle.radix.proofs.Radix.{first_lt}
use Rattle.quadrangle.specs.Formulas.{quadrangle, quadrangle_layout, line_through, point_over}
use Rattle.quadrangle.specs.Projected.{gap, joining_pair, projected, at_place}
use Rattle.quadrangle.specs.Laws.{Inc, keeps, by_points, by_lines, incs}
use Rattle.quadrangle.specs.Pairs.{must, does, turns, apart_places, one_slope, closed, opened}

module _ (φ : FieldModel) (laws : FieldLaws φ) where
  open φ use {sum, prod, inv, order as q}
  open laws use {sum_code, prod_code}

  pos : 0 < q
  pos = zero_code φ laws

  abbrev X : ℕ → ℕ
  X = first q

  abbrev Y : ℕ → ℕ
  Y = second q

  abbrev Z : ℕ → ℕ
  Z = third q

  abbrev G : GeometryModel
  G = quadrangle φ

  -- incidence in the geometry, by the equations
  read : (p l : ℕ) → On G p l → (p < q * q * q) × (l < q * q * q) × Inc φ p l
  read = on_inc (quadrangle_layout φ) (Inc φ) (keeps φ laws)

  made : (p l : ℕ) → p < q * q * q → l < q * q * q → Inc φ p l → On G p l
  made = inc_on (quadrangle_layout φ) (Inc φ) (keeps φ laws)

  abbrev E : ℕ → ℕ → ℕ
  E l p = gap φ (X l) (Y l) (X p) (Y p)

  abbrev H : ℕ → ℕ → ℕ
  H l p = gap φ (X p) (Z l) (Y l) (Z p)

  -- what is known of a pair that joins
  record Found (l p r k : ℕ) : Type 0 where
    line_in : l < q * q * q
    point_in : p < q * q * q
    joined_in : r < q * q * q
    joining_in : k < q * q * q
    turn : sum (sum (prod (X l) (X r)) (prod (X k) (X p))) (E l p) ≡ sum (prod (X k) (X r)) (prod (X l) (X p))
    place : H l p ≡ prod (E l p) (X r)
    gap_left : E l p ≢ 0
    on_line : Inc φ r l
    through_point : Inc φ p k

  found : (l p r k : ℕ) → Joins G l p r k → Found l p r k
  found l p r k j =
      let i = read r l j.on_line in
      let m = read r k j.on_joining in
      let n = read p k j.through in
      let w = must φ laws (X l) (Y l) (Z l) (X p) (Y p) (Z p) (first_lt q p pos n.0) (first_lt q l pos i.1) (X r) (Y r) (Z r) (X k) (Y k) (Z k)
      i.2.0 i.2.1 m.2.0 m.2.1 n.2.0 n.2.1 in
      record {
        line_in = i.1;
        point_in = n.0;
        joined_in = i.0;
        joining_in = m.1;
        turn = w.0;
        place = w.1;
        gap_left = λ o. j.off (made p l n.0 i.1
            (closed φ laws (X l) (Y l) (Z l) (X p) (Y p) (Z p) (first_lt q p pos n.0) (first_lt q l pos i.1) o (w.1 ∙ ap (λ v. prod v (X r)) o ∙ zero_prod φ laws (X r))));
        on_line = i.2;
        through_point = n.2;
      }

  pub one_pair : OnePair G
  one_pair l p r k r' k' j j' =
      let f = found l p r k j in
      let f' = found l p r' k' j' in
      let hx = first_lt q p pos f.point_in in
      let ha = first_lt q l pos f.line_in in
      let same : X r ≡ X r' = shorten φ laws (E l p) (X r) (X r') (sum_code _ _) (first_lt q r pos f.joined_in) (first_lt q r' pos f'.joined_in) f.gap_left
      (sym f.place ∙ f'.place) in
      let slope : X k ≡ X k' = one_slope φ laws (X l) (Y l) (Z l) (X p) (Y p) (Z p) hx ha (X r) (X k) (X k')
      (first_lt q r pos f.joined_in) (first_lt q k pos f.joining_in) (first_lt q k' pos f'.joining_in) f.gap_left f.turn
      (subst (λ v. sum (sum (prod (X l) v) (prod (X k') (X p))) (E l p) ≡ sum (prod (X k') v) (prod (X l) (X p))) (sym same) f'.turn) in (
        cc ((by_lines φ laws).at_seat l r f.line_in f.joined_in f.on_line, (by_lines φ laws).at_seat l r' f.line_in f'.joined_in f'.on_line),
        cc ((by_points φ laws).at_seat p k f.point_in f.joining_in f.through_point, (by_points φ laws).at_seat p k' f.point_in f'.joining_in f'.through_point),
      )

  -- the pair worked out
  module _ (l p : ℕ) (hl : l < q * q * q) (hp : p < q * q * q) where
    hx : X p < q
    hx = first_lt q p pos hp

    ha : X l < q
    ha = first_lt q l pos hl

    off_line : E l p ≢ 0 → On G p l → ⊥
    off_line n o = n (opened φ laws (X l) (Y l) (Z l) (X p) (Y p) (Z p) hx ha (read p l o).2.0)

    pair : (place : ℕ) → place < q → place ≢ X p → E l p ≢ 0 → H l p ≡ prod (E l p) place
        → Joins G l p (point_over φ (X l) (Y l) (Z l) place) (line_through φ (X p) (Y p) (Z p) (sum (X l) (prod (E l p) (inv (minus φ place (X p))))))
    pair place hx' ne n at =
        let a' = sum (X l) (prod (E l p) (inv (minus φ place (X p)))) in
        let y' = minus φ (prod (X l) place) (Y l) in
        let z' = minus φ (prod place (Y l)) (Z l) in
        let b' = minus φ (prod a' (X p)) (Y p) in
        let c' = minus φ (prod (X p) b') (Z p) in
        let r = point_over φ (X l) (Y l) (Z l) place in
        let k = line_through φ (X p) (Y p) (Z p) a' in
        let hr : r < q * q * q = (by_lines φ laws).at_in l place hl hx' in
        let hk : k < q * q * q = (by_points φ laws).at_in p a' hp (sum_code _ _) in
        let both = does φ laws (X l) (Y l) (Z l) (X p) (Y p) (Z p) hx ha place y' z' a' b' c'
        (minus_back φ laws (Y l) (prod (X l) place) (prod_code _ _)) (minus_back φ laws (Z l) (prod place (Y l)) (prod_code _ _))
        (plus_minus φ laws (Y p) (prod a' (X p)) (prod_code _ _)) (plus_minus φ laws (Z p) (prod (X p) b') (prod_code _ _))
        (turns φ laws (X l) (Y l) (Z l) (X p) (Y p) (Z p) hx ha place hx' ne) at in
        record {
          off = off_line n;
          on_line = made r l hr hl ((by_lines φ laws).at_inc l place hl hx');
          on_joining = made r k hr hk (incs φ laws place y' z' a' b' c' (sum_code _ _) (sum_code _ _) (sum_code _ _) (sum_code _ _) both.0 both.1);
          through = made p k hp hk ((by_points φ laws).at_inc p a' hp (sum_code _ _));
        }

    at_pair : (place : ℕ) → place < q → E l p ≢ 0 → H l p ≡ prod (E l p) place → Joined G l p (at_place φ (X l) (Y l) (Z l) (X p) (Y p) (Z p) (Some place))
    at_pair place hx' n at =
        elim (ℕ_discrete (minus φ place (X p)) 0) [
          | yes o ↦ rw (o, over_zero φ laws (E l p))
              (λ r k j. let f = found l p r k j in
              let same : X r ≡ place = shorten φ laws (E l p) (X r) place (sum_code _ _) (first_lt q r pos f.joined_in) hx' n (sym f.place ∙ at) in
              apart_places φ laws (X l) (Y l) (Z l) (X p) (Y p) (Z p) hx ha (X r) (X k) f.turn n (same ∙ minus_eq φ laws place (X p) hx' hx o))
          | no m ↦ rw (over_is φ laws (E l p) (minus φ place (X p)) (sum_code _ _) m)
              (pair place hx' (λ s. m (same_minus φ laws place (X p) s)) n at)
        ]

    joining_joined : Joined G l p (joining_pair φ (X l) (Y l) (Z l) (X p) (Y p) (Z p))
    joining_joined =
        elim (ℕ_discrete (E l p) 0) [
          | yes o ↦ rw (o, over_zero φ laws (H l p)) (λ r k j. (found l p r k j).gap_left o)
          | no n ↦ rw (over_is φ laws (H l p) (E l p) (sum_code _ _) n)
              (at_pair (prod (H l p) (inv (E l p))) (prod_code _ _) n (sym (times_quotient φ laws (E l p) (H l p) (sum_code _ _) (sum_code _ _) n)))
        ]

  -- beyond the last nothing is joined
  in_range : (l p : ℕ) (s t : Bool) → nat_lt l (q * q * q) ≡ s → nat_lt p (q * q * q) ≡ t
      → Joined G l p (cond s (cond t (joining_pair φ (X l) (Y l) (Z l) (X p) (Y p) (Z p)) None) None)
  in_range l p true true u v = joining_joined l p (ltb-true l (q * q * q) u) (ltb-true p (q * q * q) v)
  in_range l p true false u v = λ r k j. let f = found l p r k j in let g = ltb-false p (q * q * q) v in let w = f.point_in in absurd (omega arith)
  in_range l p false t u v = λ r k j. let f = found l p r k j in let g = ltb-false l (q * q * q) u in let w = f.line_in in absurd (omega arith)

  pub projects : (l p : ℕ) (answer : Option (ℕ × ℕ)) → answer ≡ projected φ l p → Joined G l p answer
  projects l p answer e = subst (Joined G l p) (sym e) (in_range l p (nat_lt l (q * q * q)) (nat_lt p (q * q * q)) refl refl)
