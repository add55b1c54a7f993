-- A rule of a table, proved at all of its entries by one test that antt computes, one entry after the other.
use Rattle.std.proofs.Common.{◌≡◌, ℕ, ◌+◌, ◌<◌, Bool, true, false, T, List, length, get_or, sym, refl, ap, ◌∙◌, subst, zero-add}
use Rattle.std.specs.List.{list_all, enumerate_from}
use Rattle.std.proofs.lemmas.List.Elements.{All-get_or}
use Rattle.std.proofs.lemmas.List.FromFn.{length-enumerate_from, get_or-enumerate_from}
use Rattle.std.proofs.lemmas.List.Sums.{AllPass-from_list_all}

-- a test that was computed
pub is_true : (b : Bool) → T b → b ≡ true
is_true true t = refl
is_true false t = absurd t

-- the test f passes at each entry of the list and its place
abbrev pub every : (ℕ → ℕ → Bool) → List ℕ → Bool
every f xs = list_all (λ e. f e.0 e.1) (enumerate_from 0 xs)

-- what was tested with the places counted from i holds at each
from : (f : ℕ → ℕ → Bool) (xs : List ℕ) (i : ℕ) → T (list_all (λ e. f e.0 e.1) (enumerate_from i xs)) → (k : ℕ) → k < length xs → T (f (i + k) (get_or xs k 0))
from f xs i t k h =
    let places = enumerate_from i xs in
    let all_pass = AllPass-from_list_all (λ e. f e.0 e.1) places (is_true (list_all (λ e. f e.0 e.1) places) t) in
    let entry : get_or places k (0, 0) ≡ (i + k, get_or xs k 0) = get_or-enumerate_from i xs k (0, 0) h in
    let passes : f (i + k) (get_or xs k 0) ≡ true =
    ap (λ e. f e.0 e.1) (sym entry) ∙ All-get_or (λ e. f e.0 e.1 ≡ true) places k (0, 0) (subst (λ n. k < n) (sym (length-enumerate_from i xs)) h) all_pass in
    subst T (sym passes) tt

pub at : (f : ℕ → ℕ → Bool) (xs : List ℕ) → T (every f xs) → (k : ℕ) → k < length xs → T (f k (get_or xs k 0))
at f xs t k h = subst (λ (m : ℕ). T (f m (get_or xs k 0))) (zero-add k) (from f xs 0 t k h)
