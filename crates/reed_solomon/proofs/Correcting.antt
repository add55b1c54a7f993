-- One error more is taken from the word, and from its checks.
use Rattle.std.proofs.Common.{◌≡◌, ℕ, zero, suc, ◌+◌, ◌/◌, ◌<◌, ◌≤◌, Bool, true, false, cond, ◌&&◌, eqb, List, [], ◌∷◌, ◌++◌, map, length, get_or, take, drop, set, Option, None, IfSome, sym, refl, ap, ◌∙◌, subst, ap₂, add-one, arith, length-take, drop-cons}
use Rattle.std.proofs.Math.Path.{fun_ext}
use native.Mathlib.Nat.{suc_inj}
use native.Mathlib.Decide.{ℕ_discrete}
use Rattle.std.proofs.lemmas.List.{take_more, take_more_set, map_more, get_or-set_same, get_or-set_other, get_or-take, get_or_append_left, drop_all}
use Rattle.std.proofs.Math.Seq.{take-append_seam}
use Rattle.std.specs.Bool.{then_some}
use Rattle.std.proofs.lemmas.Bool.{eq-eqb, ne_eqb}
use Rattle.field.specs.Model.{FieldModel}
use Rattle.field.specs.Laws.{FieldLaws}
use Rattle.reed_solomon_theory.specs.Code.{Below, power}
use Rattle.reed_solomon_theory.specs.Decode.{added, remaining, taken, corrected, roots, errors, passes, Checks, Locator}
use Rattle.reed_solomon_theory.specs.Promise.{Decoded}
use Rattle.reed_solomon_theory.proofs.Promise.{finishes, stays}
use Rattle.reed_solomon.specs.declared.errors.SymbolError.{SymbolError}
use Rattle.reed_solomon.specs.Errors.{seats_of, values_of, Corrects}
use Rattle.reed_solomon.specs.Words.{at}

-- what a read past the end gives
abbrev pub blank : SymbolError
blank = record { seat = 0; value = 0 }

pub below_at : (n : ℕ) (es : List SymbolError) (k : ℕ) → Below n (seats_of es) → k < length es → (get_or es k blank).seat < n
unfolding Below
below_at n [] k b h = absurd (omega arith)
below_at n (e ∷ es) zero b h = b.0
below_at n (e ∷ es) (suc k) b h = below_at n es k b.1 (omega arith)

-- the same of the seats alone
pub below_seat : (n : ℕ) (ks : List ℕ) (k : ℕ) → Below n ks → k < length ks → get_or ks k 0 < n
unfolding Below
below_seat n [] k b h = absurd (omega arith)
below_seat n (m ∷ ks) zero b h = b.0
below_seat n (m ∷ ks) (suc k) b h = below_seat n ks k b.1 (omega arith)

-- one error more is found
pub values_turn : (f : ℕ → ℕ) (vs ks : List ℕ) (k y : ℕ) → k < length vs → k < length ks → take k vs ≡ map f (take k ks) → y ≡ f (get_or ks k 0) → take (k + 1) (set vs k y) ≡ map f (take (k + 1) ks)
values_turn f vs ks k y hv hk e q = take_more_set vs k y hv ∙ ap₂ (λ a b. a ++ (b ∷ [])) e q ∙ sym (map_more f ks k 0 hk)

-- the errors from the k-th on
split_at : (es : List SymbolError) (k : ℕ) → k < length es → drop k es ≡ get_or es k blank ∷ drop (k + 1) es
split_at es k h = drop-cons es k blank h ∙ ap (λ i. get_or es k blank ∷ drop i es) (sym (add-one k))

module _ (φ : FieldModel) where
  -- one error more is taken from the checks
  pub remaining_push : (ks vs : List ℕ) (m v : ℕ) (s : ℕ → ℕ) (j : ℕ) → length ks ≡ length vs → remaining φ (ks ++ (m ∷ [])) (vs ++ (v ∷ [])) s j ≡ added φ m (φ.neg v) (remaining φ ks vs s) j
  unfolding remaining
  remaining_push [] [] m v s j e = refl
  remaining_push [] (u ∷ vs) m v s j e = absurd (omega arith)
  remaining_push (k ∷ ks) [] m v s j e = absurd (omega arith)
  remaining_push (k ∷ ks) (u ∷ vs) m v s j e = remaining_push ks vs m v (added φ k (φ.neg u) s) j (suc_inj e)

  pub remaining_more : (seats values : List ℕ) (k : ℕ) (s : ℕ → ℕ) (j : ℕ) → length seats ≡ 4 → length values ≡ 4 → k < 4
      → added φ (get_or seats k 0) (φ.neg (get_or values k 0)) (remaining φ (take k seats) (take k values) s) j ≡ remaining φ (take (k + 1) seats) (take (k + 1) values) s j
  remaining_more seats values k s j es ev h =
      sym (ap₂ (λ ks vs. remaining φ ks vs s j) (take_more seats k 0 (omega arith)) (take_more values k 0 (omega arith))
      ∙ remaining_push (take k seats) (take k values) (get_or seats k 0) (get_or values k 0) s j (omega (arith, length-take k seats, length-take k values)))

  remaining_same : (ks vs : List ℕ) (s u : ℕ → ℕ) (j : ℕ) → s j ≡ u j → remaining φ ks vs s j ≡ remaining φ ks vs u j
  unfolding remaining added
  remaining_same [] vs s u j e = e
  remaining_same (k ∷ ks) [] s u j e = e
  remaining_same (k ∷ ks) (v ∷ vs) s u j e = remaining_same ks vs (added φ k (φ.neg v) s) (added φ k (φ.neg v) u) j (ap (λ x. φ.sum x (φ.prod (power φ k j) (φ.neg v))) e)

  -- the k-th error goes
  pub remaining_turn : (es : List SymbolError) (k : ℕ) (s u : ℕ → ℕ) (j : ℕ) → k < length es
      → u j ≡ added φ (get_or es k blank).seat (φ.neg (get_or es k blank).value) s j
      → remaining φ (seats_of (drop (k + 1) es)) (values_of (drop (k + 1) es)) u j ≡ remaining φ (seats_of (drop k es)) (values_of (drop k es)) s j
  unfolding remaining
  remaining_turn es k s u j h e =
      let d : SymbolError = get_or es k blank in
      remaining_same (seats_of (drop (k + 1) es)) (values_of (drop (k + 1) es)) u (added φ d.seat (φ.neg d.value) s) j e
      ∙ sym (ap (λ xs. remaining φ (seats_of xs) (values_of xs) s j) (split_at es k h))

  pub remaining_end : (es : List SymbolError) (k : ℕ) (s : ℕ → ℕ) (j : ℕ) → length es ≤ k → s j ≡ remaining φ (seats_of (drop k es)) (values_of (drop k es)) s j
  unfolding remaining
  remaining_end es k s j h = sym (ap (λ xs. remaining φ (seats_of xs) (values_of xs) s j) (drop_all k es h))

  taken_same : (m v i : ℕ) (w u : ℕ → ℕ) → w i ≡ u i → taken φ m v w i ≡ taken φ m v u i
  unfolding taken
  taken_same m v i w u e = ap (λ x. cond (eqb i m) (φ.sum x (φ.neg v)) x) e

  corrected_same : (ks vs : List ℕ) (w u : ℕ → ℕ) (i : ℕ) → w i ≡ u i → corrected φ ks vs w i ≡ corrected φ ks vs u i
  unfolding corrected
  corrected_same [] vs w u i e = e
  corrected_same (k ∷ ks) [] w u i e = e
  corrected_same (k ∷ ks) (v ∷ vs) w u i e = corrected_same ks vs (taken φ k v w) (taken φ k v u) i (taken_same k v i w u e)

  taken_write : (xs : List ℕ) (m v y i : ℕ) → m < length xs → y ≡ φ.sum (get_or xs m 0) (φ.neg v) → get_or (set xs m y) i 0 ≡ taken φ m v (at xs) i
  unfolding taken
  taken_write xs m v y i h e = go (ℕ_discrete i m)
    where
      go : Dec (i ≡ m) → get_or (set xs m y) i 0 ≡ cond (eqb i m) (φ.sum (get_or xs i 0) (φ.neg v)) (get_or xs i 0)
      go (yes p) = ap (λ k. get_or (set xs m y) k 0) p ∙ get_or-set_same xs m y 0 h ∙ e ∙ ap (λ k. φ.sum (get_or xs k 0) (φ.neg v)) (sym p)
          ∙ sym (ap (λ b. cond b (φ.sum (get_or xs i 0) (φ.neg v)) (get_or xs i 0)) (eq-eqb i m p))
      go (no d) = get_or-set_other xs m i y 0 d ∙ sym (ap (λ b. cond b (φ.sum (get_or xs i 0) (φ.neg v)) (get_or xs i 0)) (ne_eqb i m d))

  -- one error more is taken from the word
  pub corrected_push : (ks vs : List ℕ) (m v : ℕ) (w : ℕ → ℕ) (i : ℕ) → length ks ≡ length vs → corrected φ (ks ++ (m ∷ [])) (vs ++ (v ∷ [])) w i ≡ taken φ m v (corrected φ ks vs w) i
  unfolding corrected
  corrected_push [] [] m v w i e = refl
  corrected_push [] (u ∷ vs) m v w i e = absurd (omega arith)
  corrected_push (k ∷ ks) [] m v w i e = absurd (omega arith)
  corrected_push (k ∷ ks) (u ∷ vs) m v w i e = corrected_push ks vs m v (taken φ k u w) i (suc_inj e)

  corrected_more : (seats values : List ℕ) (k : ℕ) (w : ℕ → ℕ) (i : ℕ) → length seats ≡ 4 → length values ≡ 4 → k < 4
      → taken φ (get_or seats k 0) (get_or values k 0) (corrected φ (take k seats) (take k values) w) i ≡ corrected φ (take (k + 1) seats) (take (k + 1) values) w i
  corrected_more seats values k w i es ev h =
      sym (ap₂ (λ ks vs. corrected φ ks vs w i) (take_more seats k 0 (omega arith)) (take_more values k 0 (omega arith))
      ∙ corrected_push (take k seats) (take k values) (get_or seats k 0) (get_or values k 0) w i (omega (arith, length-take k seats, length-take k values)))

  pub correct_turn : (seats values xs : List ℕ) (w : ℕ → ℕ) (k y : ℕ) → length seats ≡ 4 → length values ≡ 4 → k < 4 → get_or seats k 0 < length xs
      → ((i : ℕ) → at xs i ≡ corrected φ (take k seats) (take k values) w i) → y ≡ φ.sum (get_or xs (get_or seats k 0) 0) (φ.neg (get_or values k 0))
      → (i : ℕ) → at (set xs (get_or seats k 0) y) i ≡ corrected φ (take (k + 1) seats) (take (k + 1) values) w i
  correct_turn seats values xs w k y es ev h inside inv e i =
      taken_write xs (get_or seats k 0) (get_or values k 0) y i inside e
      ∙ taken_same (get_or seats k 0) (get_or values k 0) i (at xs) (corrected φ (take k seats) (take k values) w) (inv i)
      ∙ corrected_more seats values k w i es ev h

  pub corrected_turn : (es : List SymbolError) (k : ℕ) (xs : List ℕ) (y i : ℕ) → k < length es
      → (get_or es k blank).seat < length xs
      → y ≡ φ.sum (get_or xs (get_or es k blank).seat 0) (φ.neg (get_or es k blank).value)
      → corrected φ (seats_of (drop (k + 1) es)) (values_of (drop (k + 1) es)) (at (set xs (get_or es k blank).seat y)) i
      ≡ corrected φ (seats_of (drop k es)) (values_of (drop k es)) (at xs) i
  unfolding corrected
  corrected_turn es k xs y i h inside e =
      let d : SymbolError = get_or es k blank in
      corrected_same (seats_of (drop (k + 1) es)) (values_of (drop (k + 1) es)) (at (set xs d.seat y)) (taken φ d.seat d.value (at xs)) i (taken_write xs d.seat d.value y i inside e)
      ∙ sym (ap (λ zs. corrected φ (seats_of zs) (values_of zs) (at xs) i) (split_at es k h))

  pub corrected_end : (es : List SymbolError) (k : ℕ) (w : ℕ → ℕ) (i : ℕ) → length es ≤ k → w i ≡ corrected φ (seats_of (drop k es)) (values_of (drop k es)) w i
  unfolding corrected
  corrected_end es k w i h = sym (ap (λ xs. corrected φ (seats_of xs) (values_of xs) w i) (drop_all k es h))

passes_same : (r : ℕ) (s u : ℕ → ℕ) → ((j : ℕ) → j < r → s j ≡ u j) → passes r s ≡ passes r u
passes_same zero s u h = refl
passes_same (suc r) s u h = ap₂ (λ (a b : Bool). a && b) (passes_same r s u (λ j l. h j (omega arith))) (ap (λ x. eqb x 0) (h r (omega arith)))

-- the sums of r checks stand before others in one array
front : (r : ℕ) (xs ys : List ℕ) → length xs ≡ r → take r (xs ++ ys) ≡ xs
front r xs ys e = ap (λ n. take n (xs ++ ys)) (sym e) ∙ take-append_seam xs ys

pub front_length : (r : ℕ) (xs ys zs : List ℕ) → length xs ≡ r → length zs ≡ length (take r (xs ++ ys)) → length zs ≡ r
front_length r xs ys zs e h = h ∙ ap length (front r xs ys e) ∙ e

pub front_passes : (r : ℕ) (xs ys : List ℕ) (b : Bool) → length xs ≡ r → b ≡ passes (length (take r (xs ++ ys))) (at (take r (xs ++ ys))) → b ≡ passes r (at xs)
front_passes r xs ys b e h = h ∙ ap (λ zs. passes (length zs) (at zs)) (front r xs ys e) ∙ ap (λ n. passes n (at xs)) e

-- the last steps, from the sums of the checks before and after the errors are taken from them
pub ends : (φ : FieldModel) (laws : FieldLaws φ) (n r : ℕ) → n ≤ φ.order → 0 < r → (w : ℕ → ℕ) → ((i : ℕ) → i < n → w i < φ.order)
    → (sums rest others later : List ℕ) → length sums ≡ r → Checks φ n r w (at sums) → (cs : List ℕ) → Locator φ (r / 2) (at (sums ++ others)) cs
    → (ks : List ℕ) (es ds : List SymbolError) → ks ≡ roots φ n cs → seats_of es ≡ ks → values_of es ≡ errors φ ks (at (sums ++ others)) → ds ≡ es
    → length rest ≡ r → ((j : ℕ) → j < length (take r (sums ++ others)) → at rest j ≡ remaining φ (seats_of ds) (values_of ds) (at (take r (sums ++ others))) j)
    → (done : Bool) → done ≡ passes (length (take r (rest ++ later))) (at (take r (rest ++ later)))
    → (w' : ℕ → ℕ) → ((i : ℕ) → i < n → w' i ≡ cond done (corrected φ (seats_of es) (values_of es) w i) (w i)) → Decoded φ n r (r / 2) w w' done
ends φ laws n r hn some w hw sums rest others later long hs cs σ ks es ds ek ev eu ed long' er done pass w' e =
    let s : ℕ → ℕ = at (sums ++ others) in
    let ks' : seats_of es ≡ roots φ n cs = ev ∙ ek in
    let vs' : values_of es ≡ errors φ (roots φ n cs) s = eu ∙ ap (λ l. errors φ l s) ek in
    let left : (j : ℕ) → j < r → at rest j ≡ remaining φ (roots φ n cs) (errors φ (roots φ n cs) s) s j
    = λ j l.
    er j (omega (arith, ap length (front r sums others long)))
    ∙ remaining_same φ (seats_of ds) (values_of ds) (at (take r (sums ++ others))) s j (get_or-take r (sums ++ others) j 0 l)
    ∙ ap (λ l. remaining φ (seats_of l) (values_of l) s j) ed ∙ ap₂ (λ a b. remaining φ a b s j) ks' vs' in
    finishes φ laws n r (r / 2) hn (omega arith) some w hw s
    (λ j l. get_or_append_left sums others 0 j (omega arith) ∙ hs j l) cs σ done
    (front_passes r rest later done long' pass ∙ passes_same r (at rest) (remaining φ (roots φ n cs) (errors φ (roots φ n cs) s) s) left)
    w' (λ i l. e i l ∙ ap (λ x. cond done x (w i)) (ap₂ (λ a b. corrected φ a b w i) ks' vs'))

-- the errors where no check remains, and else none
pub answered : (φ : FieldModel) (n r : ℕ) (w : ℕ → ℕ) (X : Type 0) (items : X → List SymbolError) (x : X) (done : Bool) → Below n (seats_of (items x))
    → ((w' : ℕ → ℕ) → ((i : ℕ) → i < n → w' i ≡ cond done (corrected φ (seats_of (items x)) (values_of (items x)) w i) (w i)) → Decoded φ n r (r / 2) w w' done)
    → (o : Option X) → o ≡ then_some done x → IfSome o (λ y. Corrects φ n r w (items y)) × (o ≡ None → Decoded φ n r (r / 2) w w false)
answered φ n r w X items x true inside ends o e =
    subst (λ o. IfSome o (λ y. Corrects φ n r w (items y)) × (o ≡ None → Decoded φ n r (r / 2) w w false)) (sym e)
    (record { inside = inside; mended = ends (corrected φ (seats_of (items x)) (values_of (items x)) w) (λ i l. refl) }, λ q. absurd cc)
answered φ n r w X items x false inside ends o e =
    subst (λ o. IfSome o (λ y. Corrects φ n r w (items y)) × (o ≡ None → Decoded φ n r (r / 2) w w false)) (sym e) (tt, λ q. ends w (λ i l. refl))

-- no errors correct a code word
pub none_corrects : (φ : FieldModel) (n r : ℕ) (w : ℕ → ℕ) → ((i : ℕ) → i < n → w i < φ.order) → (sums others : List ℕ) → length sums ≡ r → Checks φ n r w (at sums)
    → true ≡ passes (length (take r (sums ++ others))) (at (take r (sums ++ others))) → (es : List SymbolError) → es ≡ [] → Corrects φ n r w es
unfolding Below corrected
none_corrects φ n r w hw sums others long hs pass es e =
    subst (Corrects φ n r w) (sym e)
    (record { inside = tt; mended = stays φ n r (r / 2) w hw (at sums) hs (sym (front_passes r sums others true long pass)) })

-- the word from which the errors were taken
pub corrected_word : (φ : FieldModel) (n r : ℕ) (w : ℕ → ℕ) (es ds : List SymbolError) → Corrects φ n r w es → ds ≡ es
    → (w' : ℕ → ℕ) → ((i : ℕ) → w' i ≡ corrected φ (seats_of ds) (values_of ds) w i) → Decoded φ n r (r / 2) w w' true
corrected_word φ n r w es ds h e w' q =
    subst (λ (u : ℕ → ℕ). Decoded φ n r (r / 2) w u true) (sym (fun_ext q ∙ ap (λ l. corrected φ (seats_of l) (values_of l) w) e)) h.mended
