-- Two different points have at most one line in common: the cross product of two lines points along each point that they share.
use Rattle.std.specs.Prelude.{◌≡◌, ℕ, ◌<◌, ◌≢◌, refl}
use Rattle.std.proofs.Common.{sym, ap, ap₂, ◌∙◌, arith}
use Rattle.std.proofs.Math.Decide.{ℕ_discrete}
use Rattle.field.specs.Model.{FieldModel, minus}
use Rattle.field.specs.Laws.{FieldLaws}
use Rattle.field.proofs.Ring.{prod_zero, zero_prod, one_prod, minus_eq, sum_left_comm, prod_left_comm}
use Rattle.field.proofs.Differences.{minus_back, sum_cancel_right}
use Rattle.field.proofs.Quotients.{shorten}
use Rattle.projective.specs.declared.triple.Triple.{Triple}
use Rattle.projective.specs.declared.triple.Triple.TheVariants.{Affine, Ideal, Last}
use Rattle.projective.specs.Triples.{Codes, x_of, y_of, z_of, inner, dot}

-- the three coordinates
data Axis : Type 0 where
  one : Axis
  two : Axis
  three : Axis

abbrev at : Triple → Axis → ℕ
at t one = x_of t
at t two = y_of t
at t three = z_of t

module _ (φ : FieldModel) (laws : FieldLaws φ) where
  open φ use {sum, prod, order as q}
  open laws use {more, sum_code, prod_code, sum_assoc, prod_sum, prod_comm, prod_assoc, prod_one}

  -- one is a multiple of the other
  abbrev Parallel : (Axis → ℕ) → (Axis → ℕ) → Type 0
  Parallel v w = (k l : Axis) → prod (v k) (w l) ≡ prod (v l) (w k)

  -- of three equations the six others
  parallel : (v w : Axis → ℕ) → prod (v one) (w two) ≡ prod (v two) (w one) → prod (v two) (w three) ≡ prod (v three) (w two)
      → prod (v three) (w one) ≡ prod (v one) (w three) → Parallel v w
  parallel v w a b c one one = refl
  parallel v w a b c one two = a
  parallel v w a b c one three = sym c
  parallel v w a b c two one = sym a
  parallel v w a b c two two = refl
  parallel v w a b c two three = b
  parallel v w a b c three one = c
  parallel v w a b c three two = sym b
  parallel v w a b c three three = refl

  -- two that lie along one that is not 0
  along : (w v v' : Axis → ℕ) → ((k : Axis) → w k < q) → Parallel w v → Parallel w v' → (i : Axis) → w i ≢ 0 → Parallel v v'
  along w v v' codes p p' i n k l =
      shorten φ laws (w i) (prod (v k) (v' l)) (prod (v l) (v' k)) (codes i) (prod_code _ _) (prod_code _ _) n
      (sym (prod_assoc (w i) (v k) (v' l)) ∙ ap (λ t. prod t (v' l)) (p i k ∙ prod_comm (w k) (v i)) ∙ prod_assoc (v i) (w k) (v' l)
      ∙ ap (prod (v i)) (p' k l)
      ∙ sym (prod_assoc (v i) (w l) (v' k)) ∙ ap (λ t. prod t (v' k)) (prod_comm (v i) (w l) ∙ p l i) ∙ prod_assoc (w i) (v l) (v' k))

  -- normal triples that are parallel are equal
  normal : (t t' : Triple) → Codes q t → Codes q t' → Parallel (at t) (at t') → t ≡ t'
  normal (Affine y z) (Affine y' z') h h' p =
      ap₂ Affine (sym (prod_one y h.0) ∙ sym (p one two) ∙ one_prod φ laws y' h'.0) (sym (prod_one z h.1) ∙ sym (p one three) ∙ one_prod φ laws z' h'.1)
  normal (Affine y z) (Ideal z') h h' p = let e : ◌≡◌ {A = ℕ} 1 0 = sym (prod_one 1 more) ∙ p one two ∙ prod_zero φ laws y in absurd (omega arith)
  normal (Affine y z) Last h h' p = let e : ◌≡◌ {A = ℕ} 1 0 = sym (prod_one 1 more) ∙ p one three ∙ prod_zero φ laws z in absurd (omega arith)
  normal (Ideal z) (Affine y' z') h h' p = let e : ◌≡◌ {A = ℕ} 1 0 = sym (prod_one 1 more) ∙ p two one ∙ zero_prod φ laws y' in absurd (omega arith)
  normal (Ideal z) (Ideal z') h h' p = ap Ideal (sym (prod_one z h) ∙ sym (p two three) ∙ one_prod φ laws z' h')
  normal (Ideal z) Last h h' p = let e : ◌≡◌ {A = ℕ} 1 0 = sym (prod_one 1 more) ∙ p two three ∙ prod_zero φ laws z in absurd (omega arith)
  normal Last (Affine y' z') h h' p = let e : ◌≡◌ {A = ℕ} 1 0 = sym (prod_one 1 more) ∙ p three one ∙ zero_prod φ laws z' in absurd (omega arith)
  normal Last (Ideal z') h h' p = let e : ◌≡◌ {A = ℕ} 1 0 = sym (prod_one 1 more) ∙ p three two ∙ zero_prod φ laws z' in absurd (omega arith)
  normal Last Last h h' p = refl

  turn : (a b c x y z : ℕ) → inner φ a b c x y z ≡ inner φ b c a y z x
  turn a b c x y z = simp (laws.sum_comm, sum_left_comm φ laws)

  -- x m + z n' = x m' + z n says x (m - m') = z (n - n')
  differ : (x z m m' n n' : ℕ) → m < q → n < q → sum (prod x m) (prod z n') ≡ sum (prod x m') (prod z n) → prod x (minus φ m m') ≡ prod z (minus φ n n')
  differ x z m m' n n' hm hn e =
      sum_cancel_right φ laws (sum (prod x m') (prod z n')) _ _ (prod_code _ _) (prod_code _ _)
      (sym (sum_assoc _ (prod x m') (prod z n')) ∙ ap (λ t. sum t (prod z n')) (whole x m m' hm) ∙ e
      ∙ ap (sum (prod x m')) (sym (whole z n n' hn)) ∙ sum_left_comm φ laws (prod x m') _ (prod z n'))
    where
      whole : (x m m' : ℕ) → m < q → sum (prod x (minus φ m m')) (prod x m') ≡ prod x m
      whole x m m' h = sym (prod_sum x (minus φ m m') m') ∙ ap (prod x) (minus_back φ laws m' m h)

  -- the second coordinate goes out
  without : (a b c a' b' c' x y z : ℕ) → inner φ a b c x y z ≡ 0 → inner φ a' b' c' x y z ≡ 0
      → prod x (minus φ (prod a b') (prod b a')) ≡ prod z (minus φ (prod b c') (prod c b'))
  without a b c a' b' c' x y z e e' =
      let s1 : sum (sum (prod x (prod a b')) (prod z (prod c b'))) (prod b' (prod b y)) ≡ prod b' (inner φ a b c x y z) =
      simp (laws.prod_sum, laws.sum_comm, sum_left_comm φ laws, laws.prod_comm, prod_left_comm φ laws) in
      let s2 : prod b (inner φ a' b' c' x y z) ≡ sum (sum (prod x (prod b a')) (prod z (prod b c'))) (prod b' (prod b y)) =
      simp (laws.prod_sum, laws.sum_comm, sum_left_comm φ laws, laws.prod_comm, prod_left_comm φ laws) in
      differ x z (prod a b') (prod b a') (prod b c') (prod c b') (prod_code _ _) (prod_code _ _)
      (sum_cancel_right φ laws (prod b' (prod b y)) _ _ (sum_code _ _) (sum_code _ _)
      (s1 ∙ ap (prod b') e ∙ prod_zero φ laws b' ∙ sym (prod_zero φ laws b) ∙ ap (prod b) (sym e') ∙ s2))

  -- the product of two triples
  abbrev cross : Triple → Triple → Axis → ℕ
  cross m m' one = minus φ (prod (y_of m) (z_of m')) (prod (z_of m) (y_of m'))
  cross m m' two = minus φ (prod (z_of m) (x_of m')) (prod (x_of m) (z_of m'))
  cross m m' three = minus φ (prod (x_of m) (y_of m')) (prod (y_of m) (x_of m'))

  cross_code : (m m' : Triple) (k : Axis) → cross m m' k < q
  cross_code m m' one = sum_code _ _
  cross_code m m' two = sum_code _ _
  cross_code m m' three = sum_code _ _

  cross_along : (m m' p : Triple) → dot φ m p ≡ 0 → dot φ m' p ≡ 0 → Parallel (cross m m') (at p)
  cross_along m m' p e e' =
      let a = x_of m in
      let b = y_of m in
      let c = z_of m in
      let a' = x_of m' in
      let b' = y_of m' in
      let c' = z_of m' in
      let x = x_of p in
      let y = y_of p in
      let z = z_of p in
      parallel (cross m m') (at p)
      (prod_comm _ y ∙ without b c a b' c' a' y z x (sym (turn a b c x y z) ∙ e) (sym (turn a' b' c' x y z) ∙ e') ∙ prod_comm x _)
      (prod_comm _ z ∙ without c a b c' a' b' z x y (sym (turn b c a y z x) ∙ sym (turn a b c x y z) ∙ e) (sym (turn b' c' a' y z x) ∙ sym (turn a' b' c' x y z) ∙ e') ∙ prod_comm y _)
      (prod_comm _ x ∙ without a b c a' b' c' x y z e e' ∙ prod_comm z _)

  cross_zero : (m m' : Triple) → ((k : Axis) → cross m m' k ≡ 0) → Parallel (at m) (at m')
  cross_zero m m' o =
      parallel (at m) (at m') (minus_eq φ laws _ _ (prod_code _ _) (prod_code _ _) (o three)) (minus_eq φ laws _ _ (prod_code _ _) (prod_code _ _) (o one))
      (minus_eq φ laws _ _ (prod_code _ _) (prod_code _ _) (o two))

  -- two different points have at most one line in common
  pub one_line : (p p' m m' : Triple) → Codes q p → Codes q p' → Codes q m → Codes q m' → p ≢ p'
      → dot φ m p ≡ 0 → dot φ m p' ≡ 0 → dot φ m' p ≡ 0 → dot φ m' p' ≡ 0 → m ≡ m'
  one_line p p' m m' hp hp' hm hm' n a b c d =
      normal m m' hm hm' (cross_zero m m' (λ k. elim (ℕ_discrete (cross m m' k) 0) [
        | yes e ↦ e
        | no w ↦ absurd (n (normal p p' hp hp' (along (cross m m') (at p) (at p') (cross_code m m') (cross_along m m' p a c) (cross_along m m' p' b d) k w)))
      ]))
