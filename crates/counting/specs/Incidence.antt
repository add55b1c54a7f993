-- Points and lines as a table of 0 and 1. A set is a row of 0 and 1, and its size is a sum.
use Rattle.std.specs.Prelude.{◌≢◌, ◌≡◌, ℕ, suc, ◌+◌, ◌*◌, ◌-◌, ◌≤◌, ◌<◌}
use Rattle.ranges.specs.Ranges.{sum, Bits}

-- a p l is 1 where the point p lies on the line l, and 0 elsewhere
abbrev pub Incidence : ℕ → ℕ → (ℕ → ℕ → ℕ) → Type 0
Incidence points lines a = (p l : ℕ) → p < points → l < lines → a p l ≤ 1

-- two different points share at most one line
abbrev pub Linear : ℕ → ℕ → (ℕ → ℕ → ℕ) → Type 0
Linear points lines a = (p q : ℕ) → p < points → q < points → p ≢ q → sum lines (λ l. a p l * a q l) ≤ 1

-- points and lines exchanged
abbrev pub flip : (ℕ → ℕ → ℕ) → ℕ → ℕ → ℕ
flip a l p = a p l

-- each point of T lies on at least d lines of S
abbrev pub Rich : ℕ → ℕ → (ℕ → ℕ → ℕ) → (ℕ → ℕ) → (ℕ → ℕ) → ℕ → Type 0
Rich points lines a S T d = (p : ℕ) → p < points → T p ≡ 1 → d ≤ sum lines (λ l. S l * a p l)

-- of n lines, 0 < n ≤ t (t + 1), fewer than n points lie on more than t
abbrev pub Decrease : Type 0
Decrease =
    (points lines t : ℕ) (a : ℕ → ℕ → ℕ) (S T : ℕ → ℕ) → Incidence points lines a → Linear points lines a → Bits lines S → Bits points T
    → Rich points lines a S T (suc t) → 0 < sum lines S → sum lines S ≤ t * suc t → sum points T < sum lines S

-- two different lines share at most one point
abbrev pub Dual : Type 0
Dual = (points lines : ℕ) (a : ℕ → ℕ → ℕ) → Incidence points lines a → Linear points lines a → Linear lines points (flip a)

-- F is a set of edges, and not empty. A point that it touches has at least d of its edges, and a line that it touches at least e. Then F is large
abbrev pub Distance : Type 0
Distance =
    (points lines d e : ℕ) (a F : ℕ → ℕ → ℕ) → Incidence points lines a → Linear points lines a → ((p l : ℕ) → p < points → l < lines → F p l ≤ a p l)
    → ((p : ℕ) → p < points → 0 < sum lines (λ l. F p l) → d ≤ sum lines (λ l. F p l))
    → ((l : ℕ) → l < lines → 0 < sum points (λ p. F p l) → e ≤ sum points (λ p. F p l))
    → 0 < sum points (λ p. sum lines (λ l. F p l))
    → (d * (1 + d * (e - 1)) ≤ sum points (λ p. sum lines (λ l. F p l))) × (e * (1 + e * (d - 1)) ≤ sum points (λ p. sum lines (λ l. F p l)))
