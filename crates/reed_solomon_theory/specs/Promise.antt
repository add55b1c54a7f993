-- What decoding within t seats promises.
use Rattle.std.specs.Prelude.{◌≡◌, ℕ, ◌+◌, ◌<◌, ◌≤◌, Bool, true, false, cond, List}
use Rattle.field.specs.Model.{FieldModel}
use Rattle.field.specs.Laws.{FieldLaws}
use Rattle.reed_solomon_theory.specs.Code.{differing, CodeWord}
use Rattle.reed_solomon_theory.specs.Decode.{roots, errors, remaining, corrected, passes, Locator, Checks}

-- from the word w, decoding leaves w', and says whether it is now a code word
pub record Decoded (φ : FieldModel) (n r t : ℕ) (w w' : ℕ → ℕ) (done : Bool) : Type 0 where
  pub word : done ≡ true → CodeWord φ n r w'
  pub near : done ≡ true → differing n w w' ≤ t
  pub kept : done ≡ false → (i : ℕ) → i < n → w' i ≡ w i
  pub none : done ≡ false → (c : ℕ → ℕ) → CodeWord φ n r c → differing n w c ≤ t → ⊥

-- there is at most one code word within t seats
abbrev pub Only : Type 0
Only = (φ : FieldModel) (laws : FieldLaws φ) (n r t : ℕ) → n ≤ φ.order → t + t ≤ r
    → (w c d : ℕ → ℕ) → CodeWord φ n r c → differing n w c ≤ t → CodeWord φ n r d → differing n w d ≤ t → (i : ℕ) → i < n → c i ≡ d i

-- the last steps: from the checks s of w and a locator, take the errors from the roots if no check remains, and else leave w
abbrev pub Finishes : Type 0
Finishes = (φ : FieldModel) (laws : FieldLaws φ) (n r t : ℕ) → n ≤ φ.order → t + t ≤ r → 0 < r
    → (w : ℕ → ℕ) → ((i : ℕ) → i < n → w i < φ.order)
    → (s : ℕ → ℕ) → Checks φ n r w s → (cs : List ℕ) → Locator φ t s cs
    → (done : Bool) → done ≡ passes r (remaining φ (roots φ n cs) (errors φ (roots φ n cs) s) s)
    → (w' : ℕ → ℕ) → ((i : ℕ) → i < n → w' i ≡ cond done (corrected φ (roots φ n cs) (errors φ (roots φ n cs) s) w i) (w i)) → Decoded φ n r t w w' done

-- a word all of whose checks are 0 is decoded as it is
abbrev pub Stays : Type 0
Stays = (φ : FieldModel) (n r t : ℕ) (w : ℕ → ℕ) → ((i : ℕ) → i < n → w i < φ.order)
    → (s : ℕ → ℕ) → Checks φ n r w s → passes r s ≡ true → Decoded φ n r t w w true
