-- What stands at each seat of a vertex (a, b, c), and at which seat it stands.
use Rattle.std.specs.Prelude.{◌≡◌, ℕ, ◌+◌, ◌*◌, ◌<◌, ◌≤◌, Bool, true, false, cond, ◌≢◌, ◌==◌, refl}
use Rattle.std.proofs.Common.{sym, ap, ap₂, ◌∙◌, subst, arith, mul_comm}
use Rattle.std.proofs.Math.Decide.{ℕ_discrete, dec_lt}
use Rattle.std.proofs.lemmas.Bool.{lt-ltb, le-ltb, ne_eqb}
use Rattle.field.specs.Model.{FieldModel, over}
use Rattle.field.specs.Laws.{FieldLaws}
use Rattle.field.proofs.Ring.{zero_code, sum_cancel, prod_zero, zero_prod, zero_sum}
use Rattle.field.proofs.Quotients.{shorten, times_quotient, over_zero, over_is}
use Rattle.radix.proofs.Radix.{digits_rise, two_lt}
use Rattle.projective.specs.declared.triple.Triple.{Triple}
use Rattle.projective.specs.declared.triple.Triple.TheVariants.{Affine, Ideal, Last}
use Rattle.projective.specs.Triples.{Codes, x_of, y_of, z_of, number_of, inner}
use Rattle.projective.specs.Formulas.{opposite, by_third, by_second, by_last, seat_of}

module _ (φ : FieldModel) (laws : FieldLaws φ) where
  open φ use {sum, neg, prod, inv, order as q}
  open laws use {more, sum_code, neg_code, prod_code, sum_zero, sum_neg, prod_one}

  pos : 0 < q
  pos = zero_code φ laws

  -- k + c z = 0 has the one answer z = -k / c
  solves : (k c : ℕ) → k < q → c < q → c ≢ 0 → sum k (prod c (prod (neg k) (inv c))) ≡ 0
  solves k c hk hc n = ap (sum k) (times_quotient φ laws c (neg k) hc (neg_code k) n) ∙ sum_neg k

  solved : (k c z : ℕ) → k < q → c < q → z < q → c ≢ 0 → sum k (prod c z) ≡ 0 → prod (neg k) (inv c) ≡ z
  solved k c z hk hc hz n e =
      shorten φ laws c _ z hc (prod_code _ _) hz n
      (times_quotient φ laws c (neg k) hc (neg_code k) n ∙ sum_cancel φ laws k (neg k) (prod c z) (neg_code k) (prod_code c z) (sum_neg k ∙ sym e))

  -- a x + b y + c z, and what it is at (1, y, z), (0, 1, z) and (0, 0, 1)
  dot_affine : (a b c y z : ℕ) → a < q → inner φ a b c 1 y z ≡ sum (sum a (prod b y)) (prod c z)
  dot_affine a b c y z ha = ap (λ t. sum (sum t (prod b y)) (prod c z)) (prod_one a ha)

  dot_ideal : (a b c z : ℕ) → b < q → inner φ a b c 0 1 z ≡ sum b (prod c z)
  dot_ideal a b c z hb = ap (λ t. sum t (prod c z)) (ap₂ sum (prod_zero φ laws a) (prod_one b hb) ∙ zero_sum φ laws b hb)

  dot_last : (a b c : ℕ) → c < q → inner φ a b c 0 0 1 ≡ c
  dot_last a b c hc = ap₂ sum (ap₂ sum (prod_zero φ laws a) (prod_zero φ laws b) ∙ sum_zero 0 pos) (prod_one c hc) ∙ zero_sum φ laws c hc

  -- what stands at a seat i below q, and at seat q, where c is not 0, where only b is not 0, and where neither is
  low : (a b c i : ℕ) → i < q → opposite φ a b c i ≡ by_third φ a b i (over φ (neg (sum a (prod b i))) c)
  low a b c i h = rw (lt-ltb i q h) refl

  high : (a b c i : ℕ) → q ≤ i → opposite φ a b c i ≡ by_last (over φ (neg b) c)
  high a b c i h = rw (le-ltb i q h) refl

  low_third : (a b c i : ℕ) → i < q → c < q → c ≢ 0 → opposite φ a b c i ≡ Affine i (prod (neg (sum a (prod b i))) (inv c))
  low_third a b c i h hc n = low a b c i h ∙ ap (by_third φ a b i) (over_is φ laws _ c hc n)

  low_second : (a b i : ℕ) → i < q → b < q → b ≢ 0 → opposite φ a b 0 i ≡ Affine (prod (neg a) (inv b)) i
  low_second a b i h hb n = low a b 0 i h ∙ ap (by_third φ a b i) (over_zero φ laws _) ∙ ap (by_second i) (over_is φ laws (neg a) b hb n)

  low_first : (a i : ℕ) → i < q → opposite φ a 0 0 i ≡ Ideal i
  low_first a i h = low a 0 0 i h ∙ ap (by_third φ a 0 i) (over_zero φ laws _) ∙ ap (by_second i) (over_zero φ laws (neg a))

  high_third : (a b c : ℕ) → c < q → c ≢ 0 → opposite φ a b c q ≡ Ideal (prod (neg b) (inv c))
  high_third a b c hc n = high a b c q (omega arith) ∙ ap by_last (over_is φ laws (neg b) c hc n)

  high_none : (a b : ℕ) → opposite φ a b 0 q ≡ Last
  high_none a b = high a b 0 q (omega arith) ∙ ap by_last (over_zero φ laws (neg b))

  -- the five kinds of vertex that stand opposite (a, b, c), at a seat i below q and at seat q
  pub data Kind (a b c : ℕ) : ℕ → Triple → Type 0 where
    low3 : (i : ℕ) → i < q → c ≢ 0 → Kind a b c i (Affine i (prod (neg (sum a (prod b i))) (inv c)))
    low2 : (i : ℕ) → i < q → c ≡ 0 → b ≢ 0 → Kind a b c i (Affine (prod (neg a) (inv b)) i)
    low1 : (i : ℕ) → i < q → c ≡ 0 → b ≡ 0 → Kind a b c i (Ideal i)
    high3 : (i : ℕ) → i ≡ q → c ≢ 0 → Kind a b c i (Ideal (prod (neg b) (inv c)))
    high0 : (i : ℕ) → i ≡ q → c ≡ 0 → Kind a b c i Last

  pub kind : (a b c i : ℕ) → b < q → c < q → i < q + 1 → Kind a b c i (opposite φ a b c i)
  kind a b c i hb hc hi =
      elim (dec_lt i q) [
        | yes h ↦ elim (ℕ_discrete c 0) [
          | no n ↦ subst (Kind a b c i) (sym (low_third a b c i h hc n)) (low3 i h n)
          | yes z ↦ elim (ℕ_discrete b 0) [
            | no n ↦ subst (Kind a b c i) (sym (ap (λ t. opposite φ a b t i) z ∙ low_second a b i h hb n)) (low2 i h z n)
            | yes y ↦ subst (Kind a b c i) (sym (ap₂ (λ s t. opposite φ a s t i) y z ∙ low_first a i h)) (low1 i h z y)
          ]
        ]
        | no h ↦
            let e : i ≡ q = omega arith in
            elim (ℕ_discrete c 0) [
              | no n ↦ subst (Kind a b c i) (sym (ap (opposite φ a b c) e ∙ high_third a b c hc n)) (high3 i e n)
              | yes z ↦ subst (Kind a b c i) (sym (ap₂ (opposite φ a b) z e ∙ high_none a b)) (high0 i e z)
            ]
      ]

  pub kind_codes : (a b c : ℕ) {i : ℕ} {t : Triple} → Kind a b c i t → Codes q t
  kind_codes a b c (low3 i h n) = (h, prod_code _ _)
  kind_codes a b c (low2 i h z n) = (prod_code _ _, h)
  kind_codes a b c (low1 i h z y) = h
  kind_codes a b c (high3 i e n) = prod_code _ _
  kind_codes a b c (high0 i e z) = tt

  pub kind_dot : (a b c : ℕ) {i : ℕ} {t : Triple} → a < q → b < q → c < q → Kind a b c i t → inner φ a b c (x_of t) (y_of t) (z_of t) ≡ 0
  kind_dot a b c ha hb hc (low3 i h n) = dot_affine a b c i _ ha ∙ solves (sum a (prod b i)) c (sum_code _ _) hc n
  kind_dot a b c ha hb hc (low2 i h z n) =
      dot_affine a b c _ i ha ∙ ap₂ sum (solves a b ha hb n) (ap (λ t. prod t i) z ∙ zero_prod φ laws i) ∙ sum_zero 0 pos
  kind_dot a b c ha hb hc (low1 i h z y) = dot_ideal a b c i hb ∙ ap₂ sum y (ap (λ t. prod t i) z ∙ zero_prod φ laws i) ∙ sum_zero 0 pos
  kind_dot a b c ha hb hc (high3 i e n) = dot_ideal a b c _ hb ∙ solves b c hb hc n
  kind_dot a b c ha hb hc (high0 i e z) = dot_last a b c hc ∙ z

  affine_rise : (i j y z : ℕ) → i < j → y < q → q * i + y < q * j + z
  affine_rise i j y z lt hy = let r = digits_rise i j q y z lt hy in let e = mul_comm q i in let f = mul_comm q j in omega arith

  pub kind_rise : (a b c : ℕ) {i j : ℕ} {t u : Triple} → i < j → Kind a b c i t → Kind a b c j u → number_of q t < number_of q u
  kind_rise a b c lt (low3 i h n) (low3 j h' n') = affine_rise i j _ _ lt (prod_code _ _)
  kind_rise a b c lt (low3 i h n) (low2 j h' z n') = absurd (n z)
  kind_rise a b c lt (low3 i h n) (low1 j h' z y) = absurd (n z)
  kind_rise a b c lt (low3 i h n) (high3 j e n') = let k = two_lt q i _ h (prod_code (neg (sum a (prod b i))) (inv c)) in omega arith
  kind_rise a b c lt (low3 i h n) (high0 j e z) = absurd (n z)
  kind_rise a b c lt (low2 i h z n) (low3 j h' n') = absurd (n' z)
  kind_rise a b c lt (low2 i h z n) (low2 j h' z' n') = omega arith
  kind_rise a b c lt (low2 i h z n) (low1 j h' z' y) = absurd (n y)
  kind_rise a b c lt (low2 i h z n) (high3 j e n') = absurd (n' z)
  kind_rise a b c lt (low2 i h z n) (high0 j e z') = let k = two_lt q _ i (prod_code (neg a) (inv b)) h in omega arith
  kind_rise a b c lt (low1 i h z y) (low3 j h' n') = absurd (n' z)
  kind_rise a b c lt (low1 i h z y) (low2 j h' z' n') = absurd (n' y)
  kind_rise a b c lt (low1 i h z y) (low1 j h' z' y') = omega arith
  kind_rise a b c lt (low1 i h z y) (high3 j e n') = absurd (n' z)
  kind_rise a b c lt (low1 i h z y) (high0 j e z') = omega arith
  kind_rise a b c lt (high3 i e n) (low3 j h' n') = absurd (omega arith)
  kind_rise a b c lt (high3 i e n) (low2 j h' z n') = absurd (n z)
  kind_rise a b c lt (high3 i e n) (low1 j h' z y) = absurd (n z)
  kind_rise a b c lt (high3 i e n) (high3 j e' n') = absurd (omega arith)
  kind_rise a b c lt (high3 i e n) (high0 j e' z) = absurd (n z)
  kind_rise a b c lt (high0 i e z) (low3 j h' n') = absurd (n' z)
  kind_rise a b c lt (high0 i e z) (low2 j h' z' n') = absurd (omega arith)
  kind_rise a b c lt (high0 i e z) (low1 j h' z' y) = absurd (omega arith)
  kind_rise a b c lt (high0 i e z) (high3 j e' n') = absurd (n' z)
  kind_rise a b c lt (high0 i e z) (high0 j e' z') = absurd (omega arith)

  -- a seat is at most q
  cond_lt : (t : Bool) (m n : ℕ) → m < q + 1 → n < q + 1 → cond t m n < q + 1
  cond_lt true m n hm hn = hm
  cond_lt false m n hm hn = hn

  pub seat_lt : (c : ℕ) (t : Triple) → Codes q t → seat_of q c t < q + 1
  seat_lt c (Affine y z) h = cond_lt (c == 0) z y (let k = h.1 in omega arith) (let k = h.0 in omega arith)
  seat_lt c (Ideal z) h = cond_lt (c == 0) z q (omega arith) (omega arith)
  seat_lt c Last h = omega arith

  -- not all three are 0
  abbrev pub Whole : (a b c : ℕ) → Type 0
  Whole a b c = a ≡ 0 → b ≡ 0 → c ≢ 0

  pub whole : (t : Triple) → Whole (x_of t) (y_of t) (z_of t)
  whole (Affine y z) a b c = omega arith
  whole (Ideal z) a b c = omega arith
  whole Last a b c = omega arith

  -- what is orthogonal stands at its seat
  pub stands : (a b c : ℕ) (t : Triple) → a < q → b < q → c < q → Whole a b c → Codes q t → inner φ a b c (x_of t) (y_of t) (z_of t) ≡ 0
      → opposite φ a b c (seat_of q c t) ≡ t
  stands a b c (Affine y z) ha hb hc w h e =
      elim (ℕ_discrete c 0) [
        | no n ↦ ap (λ t. opposite φ a b c (cond t z y)) (ne_eqb c 0 n) ∙ low_third a b c y h.0 hc n
            ∙ ap (Affine y) (solved (sum a (prod b y)) c z (sum_code _ _) hc h.1 n (sym (dot_affine a b c y z ha) ∙ e))
        | yes o ↦
            let r : sum a (prod b y) ≡ 0 =
            sym (sum_zero _ (sum_code _ _)) ∙ ap (sum (sum a (prod b y))) (sym (ap (λ t. prod t z) o ∙ zero_prod φ laws z)) ∙ sym (dot_affine a b c y z ha) ∙ e in
            ap (λ v. opposite φ a b v (cond (v == 0) z y)) o
            ∙ elim (ℕ_discrete b 0) [
              | no n ↦ low_second a b z h.1 hb n ∙ ap (λ v. Affine v z) (solved a b y ha hb h.0 n r)
              | yes u ↦ absurd (w (sym (sum_zero a ha) ∙ ap (sum a) (sym (ap (λ t. prod t y) u ∙ zero_prod φ laws y)) ∙ r) u o)
            ]
      ]
  stands a b c (Ideal z) ha hb hc w h e =
      elim (ℕ_discrete c 0) [
        | no n ↦ ap (λ t. opposite φ a b c (cond t z q)) (ne_eqb c 0 n) ∙ high_third a b c hc n
            ∙ ap Ideal (solved b c z hb hc h n (sym (dot_ideal a b c z hb) ∙ e))
        | yes o ↦
            let u : b ≡ 0 = sym (sum_zero b hb) ∙ ap (sum b) (sym (ap (λ t. prod t z) o ∙ zero_prod φ laws z)) ∙ sym (dot_ideal a b c z hb) ∙ e in
            ap₂ (λ s v. opposite φ a s v (cond (v == 0) z q)) u o ∙ low_first a z h
      ]
  stands a b c Last ha hb hc w h e = ap (λ v. opposite φ a b v q) (sym (dot_last a b c hc) ∙ e) ∙ high_none a b
