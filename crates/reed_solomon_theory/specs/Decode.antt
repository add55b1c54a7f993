-- The parts of decoding: locator polynomial, its roots, the errors there. A polynomial is the list of its coefficients, the constant first.
use Rattle.std.specs.Prelude.{◌≡◌, ℕ, zero, suc, ◌+◌, ◌<◌, ◌≤◌, Bool, cond, List, [], ◌∷◌, map, length, Some, None, Option, ◌==◌, nat_eq}
use Rattle.field.specs.Model.{FieldModel, inverse}
use Rattle.field.specs.Laws.{FieldLaws}
use Rattle.ranges.specs.Ranges.{every}
use Rattle.reed_solomon_theory.specs.Code.{power, check, seats, differing, CodeWord}

-- the inverse, and 0 where it is absent
abbrev pub or_zero : Option ℕ → ℕ
or_zero (Some x) = x
or_zero None = 0

unfoldable pub reciprocal : FieldModel → ℕ → ℕ
reciprocal φ a = or_zero (inverse φ a)

-- the value of a polynomial at z
unfoldable pub value : FieldModel → List ℕ → ℕ → ℕ
value φ [] z = 0
value φ (c ∷ cs) z = φ.sum c (φ.prod z (value φ cs z))

-- a polynomial against the checks s from j on: the sum of coefficient k times check j + k
unfoldable pub against : FieldModel → List ℕ → (ℕ → ℕ) → ℕ → ℕ
against φ [] s j = 0
against φ (c ∷ cs) s j = φ.sum (φ.prod c (s j)) (against φ cs s (suc j))

-- all are 0
unfoldable pub Zeros : List ℕ → Type 0
Zeros [] = Unit {0}
Zeros (c ∷ cs) = (c ≡ 0) × Zeros cs

-- a polynomial of degree l led by 1: the coefficient at l is 1, and those above are 0
unfoldable pub Monic : ℕ → List ℕ → Type 0
Monic l [] = ⊥
Monic zero (c ∷ cs) = (c ≡ 1) × Zeros cs
Monic (suc l) (c ∷ cs) = Monic l cs

-- the seats below n that are roots
unfoldable pub roots : FieldModel → ℕ → List ℕ → List ℕ
roots φ n cs = seats n (λ i. nat_eq (value φ cs i) 0)

-- a polynomial has no more roots than its degree
abbrev pub FewRoots : Type 0
FewRoots = (φ : FieldModel) (laws : FieldLaws φ) (n l : ℕ) (cs : List ℕ) → n ≤ φ.order → Monic l cs → length (roots φ n cs) ≤ l

-- the checks of the word with each symbol times its locator's difference from k
unfoldable pub shed : FieldModel → ℕ → (ℕ → ℕ) → ℕ → ℕ
shed φ k s j = φ.sum (s (suc j)) (φ.prod (φ.neg k) (s j))

-- the same for each seat of a list
unfoldable pub shed_all : FieldModel → List ℕ → (ℕ → ℕ) → ℕ → ℕ
shed_all φ [] s = s
shed_all φ (k ∷ ks) s = shed_all φ ks (shed φ k s)

-- the product of the differences of i and the seats listed
unfoldable pub kill : FieldModel → List ℕ → ℕ → ℕ
kill φ [] i = 1
kill φ (k ∷ ks) i = φ.prod (φ.sum i (φ.neg k)) (kill φ ks i)

-- the list with each m left out
unfoldable pub without : ℕ → List ℕ → List ℕ
without m [] = []
without m (k ∷ ks) = cond (k == m) (without m ks) (k ∷ without m ks)

-- the error at seat m, if no seat but those listed is wrong
unfoldable pub error : FieldModel → List ℕ → (ℕ → ℕ) → ℕ → ℕ
error φ ks s m = φ.prod (shed_all φ (without m ks) s 0) (reciprocal φ (kill φ (without m ks) m))

-- the word with the error taken from each seat that is a root
unfoldable pub mended : FieldModel → ℕ → List ℕ → (ℕ → ℕ) → (ℕ → ℕ) → ℕ → ℕ
mended φ n cs s w i = cond (value φ cs i == 0) (φ.sum (w i) (φ.neg (error φ (roots φ n cs) s i))) (w i)

-- a locator polynomial: of degree at most t, led by 1, and t checks in a row do not tell it from 0
pub record Locator (φ : FieldModel) (t : ℕ) (s : ℕ → ℕ) (cs : List ℕ) : Type 0 where
  pub degree : ℕ
  pub small : degree ≤ t
  pub monic : Monic degree cs
  pub null : (j : ℕ) → j < t → against φ cs s j ≡ 0

-- the checks s of a word, after d is added to its symbol at seat m
unfoldable pub added : FieldModel → ℕ → ℕ → (ℕ → ℕ) → ℕ → ℕ
added φ m d s j = φ.sum (s j) (φ.prod (power φ m j) d)

-- the checks that remain when the errors listed are taken from the seats listed
unfoldable pub remaining : FieldModel → List ℕ → List ℕ → (ℕ → ℕ) → ℕ → ℕ
remaining φ [] vs s = s
remaining φ (m ∷ ks) [] s = s
remaining φ (m ∷ ks) (v ∷ vs) s = remaining φ ks vs (added φ m (φ.neg v) s)

-- the word with v taken from its symbol at seat m
unfoldable pub taken : FieldModel → ℕ → ℕ → (ℕ → ℕ) → ℕ → ℕ
taken φ m v w i = cond (i == m) (φ.sum (w i) (φ.neg v)) (w i)

-- the word with the errors listed taken from the seats listed
unfoldable pub corrected : FieldModel → List ℕ → List ℕ → (ℕ → ℕ) → ℕ → ℕ
corrected φ [] vs w = w
corrected φ (m ∷ ks) [] w = w
corrected φ (m ∷ ks) (v ∷ vs) w = corrected φ ks vs (taken φ m v w)

-- the errors at the seats listed, if no other seat is wrong
abbrev pub errors : FieldModel → List ℕ → (ℕ → ℕ) → List ℕ
errors φ ks s = map (error φ ks s) ks

-- the first r checks are 0
abbrev pub passes : ℕ → (ℕ → ℕ) → Bool
passes r s = every r (λ j. nat_eq (s j) 0)

-- s has the first r checks of w
abbrev pub Checks : FieldModel → ℕ → ℕ → (ℕ → ℕ) → (ℕ → ℕ) → Type 0
Checks φ n r w s = (j : ℕ) → j < r → s j ≡ check φ n w j

-- if some code word differs from w in at most t seats, mending finds it
abbrev pub Mends : Type 0
Mends = (φ : FieldModel) (laws : FieldLaws φ) (n r t : ℕ) → n ≤ φ.order → t + t ≤ r → 0 < r
    → (w c : ℕ → ℕ) → ((i : ℕ) → i < n → w i < φ.order) → CodeWord φ n r c → differing n w c ≤ t
    → (s : ℕ → ℕ) → Checks φ n r w s → (cs : List ℕ) → Locator φ t s cs → (i : ℕ) → i < n → mended φ n cs s w i ≡ c i
