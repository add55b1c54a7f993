-- The roots, gathered from the last seat to the first.
use Rattle.std.proofs.Common.{◌≡◌, ℕ, zero, suc, ◌-◌, ◌<◌, ◌≤◌, Bool, true, false, cond, eqb, List, [], ◌∷◌, ◌++◌, length, sym, ap, ◌∙◌, append_assoc, append-nil, arith, length-append}
use Rattle.field.specs.Model.{FieldModel}
use Rattle.reed_solomon_theory.specs.Code.{Below, seats}
use Rattle.reed_solomon_theory.specs.Decode.{roots, value}
use Rattle.reed_solomon_theory.proofs.Seats.{seats_below}

pub seats_step : (i : ℕ) (f : ℕ → Bool) → 0 < i → seats i f ≡ cond (f (i - 1)) ((i - 1) ∷ seats (i - 1) f) (seats (i - 1) f)
unfolding seats
seats_step zero f h = absurd (omega arith)
seats_step (suc i) f h = ap (λ k. cond (f k) (k ∷ seats k f) (seats k f)) (omega arith)

-- the last seat is one of them
seats_found : (i : ℕ) (f : ℕ → Bool) → 0 < i → f (i - 1) ≡ true → seats i f ≡ (i - 1) ∷ seats (i - 1) f
seats_found i f h t = seats_step i f h ∙ ap (λ b. cond b ((i - 1) ∷ seats (i - 1) f) (seats (i - 1) f)) t

pub room : (found all : List ℕ) (i : ℕ) (f : ℕ → Bool) → (found ++ seats i f) ≡ all → length all ≤ 4 → 0 < i → f (i - 1) ≡ true → length found < 4
room found all i f e k p t = omega (arith, length-append found (seats i f), ap length e, ap length (seats_found i f p t))

pub found_turn : (found all : List ℕ) (i : ℕ) (f : ℕ → Bool) → (found ++ seats i f) ≡ all → 0 < i → f (i - 1) ≡ true → ((found ++ (i - 1) ∷ []) ++ seats (i - 1) f) ≡ all
found_turn found all i f e p t = append_assoc found ((i - 1) ∷ []) (seats (i - 1) f) ∙ ap (λ xs. found ++ xs) (sym (seats_found i f p t)) ∙ e

pub passed_turn : (found all : List ℕ) (i : ℕ) (f : ℕ → Bool) → (found ++ seats i f) ≡ all → 0 < i → f (i - 1) ≡ false → (found ++ seats (i - 1) f) ≡ all
passed_turn found all i f e p t = ap (λ xs. found ++ xs) (sym (seats_step i f p ∙ ap (λ b. cond b ((i - 1) ∷ seats (i - 1) f) (seats (i - 1) f)) t)) ∙ e

pub found_all : (found all : List ℕ) (f : ℕ → Bool) → (found ++ seats 0 f) ≡ all → found ≡ all
unfolding seats
found_all found all f e = sym (append-nil found) ∙ e

pub roots_below : (φ : FieldModel) (n : ℕ) (cs : List ℕ) → Below n (roots φ n cs)
unfolding roots
roots_below φ n cs = seats_below n (λ i. eqb (value φ cs i) 0)
