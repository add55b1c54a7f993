-- The equations of a joining pair: how far the point is from the two equations of the line gives the pair's place and slope.
use Rattle.std.specs.Prelude.{◌≡◌, ℕ, ◌<◌, ◌≢◌, refl}
use Rattle.std.proofs.Common.{sym, ap, ap₂, ◌∙◌}
use Rattle.field.specs.Model.{FieldModel, minus}
use Rattle.field.specs.Laws.{FieldLaws}
use Rattle.field.proofs.Ring.{zero_code, sum_cancel, minus_eq, sum_left_comm, prod_left_comm, sum_prod}
use Rattle.field.proofs.Differences.{plus_minus, sum_cancel_right}
use Rattle.field.proofs.Quotients.{times_quotient}
use Rattle.field.proofs.Slopes.{crossed}
use Rattle.quadrangle.specs.Projected.{gap}

module _ (φ : FieldModel) (laws : FieldLaws φ) where
  open φ use {sum, prod, inv, order as q}
  open laws use {sum_code, prod_code, sum_comm, sum_zero, prod_sum, prod_comm}

  pos : 0 < q
  pos = zero_code φ laws

  -- v + b = m, y + b' = m', v + b' = n, y + b + e = n' say together m + m' + e = n + n'
  exchange : (v b b' y e m m' n n' : ℕ) → sum v b ≡ m → sum y b' ≡ m' → sum v b' ≡ n → sum (sum y b) e ≡ n' → sum (sum m m') e ≡ sum n n'
  exchange v b b' y e m m' n n' hm hm' hn hn' =
      let swap : sum (sum (sum v b) (sum y b')) e ≡ sum (sum v b') (sum (sum y b) e) = simp (laws.sum_comm, laws.sum_assoc, sum_left_comm φ laws) in
      cc

  exchange_back : (v b b' y e m m' n n' : ℕ) → n < q → sum v b ≡ m → sum y b' ≡ m' → sum (sum y b) e ≡ n' → sum (sum m m') e ≡ sum n n' → sum v b' ≡ n
  exchange_back v b b' y e m m' n n' h hm hm' hn' w =
      sum_cancel_right φ laws n' (sum v b') n (sum_code v b') h
      (cc (exchange v b b' y e m m' (sum v b') (sum (sum y b) e) hm hm' refl refl))

  -- the line [a, b, c] and the point (x, y, z)
  module _ (a b c x y z : ℕ) (hx : x < q) (ha : a < q) where
    abbrev e : ℕ
    e = gap φ a b x y

    abbrev h : ℕ
    h = gap φ x c b z

    e_is : sum (sum y b) e ≡ prod a x
    e_is = plus_minus φ laws (sum y b) (prod a x) (prod_code a x)

    h_is : sum (sum z c) h ≡ prod x b
    h_is = plus_minus φ laws (sum z c) (prod x b) (prod_code x b)

    -- e = (a' - a) (x' - x)
    abbrev Turn : ℕ → ℕ → Type 0
    Turn x' a' = sum (sum (prod a x') (prod a' x)) e ≡ sum (prod a' x') (prod a x)

    -- then (b' - b) (x' - x) = e x'
    turned : (x' a' b' : ℕ) → sum y b' ≡ prod a' x → Turn x' a' → sum (sum (prod x' b) (prod x b')) (prod e x') ≡ sum (prod x' b') (prod x b)
    turned x' a' b' hb t =
        let k = sum (sum (prod x' y) (prod x y)) (prod x e) in
        let s1 : sum (sum (sum (prod x' b) (prod x b')) (prod e x')) k ≡ sum (sum (prod x' (sum (sum y b) e)) (prod x (sum y b'))) (prod x e) =
        simp (laws.prod_sum, laws.sum_comm, laws.sum_assoc, sum_left_comm φ laws, laws.prod_comm) in
        let s2 : sum (sum (prod x' (sum (sum y b) e)) (prod x (sum y b'))) (prod x e) ≡ sum (sum (prod x' (prod a x)) (prod x (prod a' x))) (prod x e) =
        ap₂ (λ m n. sum (sum (prod x' m) (prod x n)) (prod x e)) e_is hb in
        let s3 : sum (sum (prod x' (prod a x)) (prod x (prod a' x))) (prod x e) ≡ prod x (sum (sum (prod a x') (prod a' x)) e) =
        simp (laws.prod_sum, laws.sum_comm, laws.sum_assoc, sum_left_comm φ laws, laws.prod_comm, prod_left_comm φ laws) in
        let s5 : prod x (sum (prod a' x') (prod a x)) ≡ sum (prod x' (prod a' x)) (prod x (prod a x)) =
        simp (laws.prod_sum, laws.sum_comm, laws.prod_comm, prod_left_comm φ laws) in
        let s6 : sum (prod x' (prod a' x)) (prod x (prod a x)) ≡ sum (prod x' (sum y b')) (prod x (sum (sum y b) e)) =
        sym (ap₂ (λ m n. sum (prod x' m) (prod x n)) hb e_is) in
        let s7 : sum (prod x' (sum y b')) (prod x (sum (sum y b) e)) ≡ sum (sum (prod x' b') (prod x b)) k =
        simp (laws.prod_sum, laws.sum_comm, laws.sum_assoc, sum_left_comm φ laws, laws.prod_comm) in
        sum_cancel_right φ laws k _ _ (sum_code _ _) (sum_code _ _) (s1 ∙ s2 ∙ s3 ∙ ap (prod x) t ∙ s5 ∙ s6 ∙ s7)

    -- the six equations of a joining pair give its place and its slope
    pub must : (x' y' z' a' b' c' : ℕ) → sum y' b ≡ prod a x' → sum z' c ≡ prod x' b → sum y' b' ≡ prod a' x' → sum z' c' ≡ prod x' b'
        → sum y b' ≡ prod a' x → sum z c' ≡ prod x b' → Turn x' a' × (h ≡ prod e x')
    must x' y' z' a' b' c' h1 h2 h3 h4 h5 h6 =
        let t : Turn x' a' = exchange y' b b' y e _ _ _ _ h1 h5 h3 e_is in
        let w = exchange z' c c' z h _ _ _ _ h2 h6 h4 h_is in
        (t, sum_cancel φ laws (sum (prod x' b) (prod x b')) h (prod e x') (sum_code _ _) (prod_code _ _) (w ∙ sym (turned x' a' b' h5 t)))

    -- and that place and slope give the other two of the six
    pub does : (x' y' z' a' b' c' : ℕ) → sum y' b ≡ prod a x' → sum z' c ≡ prod x' b → sum y b' ≡ prod a' x → sum z c' ≡ prod x b'
        → Turn x' a' → h ≡ prod e x' → (sum y' b' ≡ prod a' x') × (sum z' c' ≡ prod x' b')
    does x' y' z' a' b' c' h1 h2 h5 h6 t p = (
      exchange_back y' b b' y e _ _ (prod a' x') _ (prod_code _ _) h1 h5 e_is t,
      exchange_back z' c c' z h _ _ (prod x' b') _ (prod_code _ _) h2 h6 h_is (ap (sum (sum (prod x' b) (prod x b'))) p ∙ turned x' a' b' h5 t),
    )

    -- a slope that fits the place
    pub turns : (x' : ℕ) → x' < q → x' ≢ x → Turn x' (sum a (prod e (inv (minus φ x' x))))
    turns x' hx' n =
        let d = minus φ x' x in
        let t = prod e (inv d) in
        let td : prod t d ≡ e = prod_comm t d ∙ times_quotient φ laws d e (sum_code _ _) (sum_code _ _) (λ o. n (minus_eq φ laws x' x hx' hx o)) in
        let tx : prod t x' ≡ sum (prod t x) e = ap (prod t) (sym (plus_minus φ laws x x' hx')) ∙ prod_sum t x d ∙ ap (sum (prod t x)) td in
        ap (λ m. sum (sum (prod a x') m) e) (sum_prod φ laws a t x)
        ∙ turn_sum (prod a x') (prod a x) (prod t x) e
        ∙ ap (λ m. sum (sum (prod a x') m) (prod a x)) (sym tx) ∙ ap (λ m. sum m (prod a x)) (sym (sum_prod φ laws a t x'))
      where
        turn_sum : (m n o r : ℕ) → sum (sum m (sum n o)) r ≡ sum (sum m (sum o r)) n
        turn_sum m n o r = simp (laws.sum_comm, sum_left_comm φ laws)

    -- at the point's own place nothing turns
    pub apart_places : (x' a' : ℕ) → Turn x' a' → e ≢ 0 → x' ≢ x
    apart_places x' a' t n s =
        let w : sum (sum (prod a x) (prod a' x)) e ≡ sum (sum (prod a x) (prod a' x)) 0 =
        ap (λ v. sum (sum (prod a v) (prod a' x)) e) (sym s) ∙ t ∙ ap (λ v. sum (prod a' v) (prod a x)) s ∙ sum_comm _ _ ∙ sym (sum_zero _ (sum_code _ _)) in
        n (sum_cancel φ laws (sum (prod a x) (prod a' x)) e 0 (sum_code _ _) pos w)

    -- one slope to a place
    pub one_slope : (x' a' a'' : ℕ) → x' < q → a' < q → a'' < q → e ≢ 0 → Turn x' a' → Turn x' a'' → a' ≡ a''
    one_slope x' a' a'' hx' ha' ha'' n t u =
        crossed φ laws a' a'' x x' ha' ha'' hx hx' (λ s. apart_places x' a' t n (sym s))
        (sum_cancel_right φ laws (sum (sum (prod a x') e) (prod a x)) _ _ (sum_code _ _) (sum_code _ _)
        (gather (prod a' x) (prod a'' x') ∙ ap₂ sum t (sym u) ∙ sym (gather' (prod a'' x) (prod a' x'))))
      where
        gather : (m n : ℕ) → sum (sum m n) (sum (sum (prod a x') e) (prod a x)) ≡ sum (sum (sum (prod a x') m) e) (sum n (prod a x))
        gather m n = simp (laws.sum_comm, laws.sum_assoc, sum_left_comm φ laws)

        gather' : (m n : ℕ) → sum (sum m n) (sum (sum (prod a x') e) (prod a x)) ≡ sum (sum n (prod a x)) (sum (sum (prod a x') m) e)
        gather' m n = simp (laws.sum_comm, laws.sum_assoc, sum_left_comm φ laws)

    -- no gap in either equation: the point is on the line
    pub closed : e ≡ 0 → h ≡ 0 → (sum y b ≡ prod a x) × (sum z c ≡ prod x b)
    closed p r =
        (cc (sum_zero _ (sum_code y b), e_is), cc (sum_zero _ (sum_code z c), h_is))

    pub opened : sum y b ≡ prod a x → e ≡ 0
    opened p = sum_cancel φ laws (sum y b) e 0 (sum_code _ _) pos (e_is ∙ sym p ∙ sym (sum_zero _ (sum_code y b)))
