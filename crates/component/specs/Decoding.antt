-- Decoding within the radius, with no algorithm.
use Rattle.std.specs.Prelude.{◌≡◌, ℕ, zero, suc, ◌≤◌, Bool, true, ◌&&◌, List, [], ◌∷◌, map, Some, None, Option, nat_le, find, flat_map}
use Rattle.ranges.specs.Ranges.{differ}
use Rattle.component.specs.Model.{CodeModel, CodeLaws, is_word}
use Rattle.std.specs.List.{range_with_len}

-- all words of n symbols below q
abbrev pub all_words : ℕ → ℕ → List (List ℕ)
all_words q zero = [] ∷ []
all_words q (suc n) = flat_map (λ x. map (λ (w : List ℕ). x ∷ w) (all_words q n)) (range_with_len 0 q)

-- ys is a code word that differs from xs in at most the radius
abbrev pub near : CodeModel → List ℕ → List ℕ → Bool
near c xs ys = is_word c ys && nat_le (differ c.size xs ys) c.radius

-- the code word that differs from xs in at most the radius, if there is one
unfoldable pub decoded : CodeModel → List ℕ → Option (List ℕ)
decoded c xs = find (near c xs) (all_words c.field.order c.size)

-- the decoded word, or the word itself where decoding refuses
abbrev pub kept_or : List ℕ → Option (List ℕ) → List ℕ
kept_or xs (Some ys) = ys
kept_or xs None = xs

-- the symbols that a vertex has after decoding
abbrev pub settled : CodeModel → List ℕ → List ℕ
settled c xs = kept_or xs (decoded c xs)

-- what is decoded is a code word within the radius
abbrev pub DecodedNear : Type 0
DecodedNear = (c : CodeModel) (xs ys : List ℕ) → decoded c xs ≡ Some ys → (is_word c ys ≡ true) × (differ c.size xs ys ≤ c.radius)

-- where nothing is decoded there is no code word within the radius
abbrev pub RefusedFar : Type 0
RefusedFar = (c : CodeModel) (xs ys : List ℕ) → decoded c xs ≡ None → is_word c ys ≡ true → differ c.size xs ys ≤ c.radius → ⊥

-- a code word within the radius is the one that is decoded
abbrev pub DecodedOnly : Type 0
DecodedOnly = (c : CodeModel) → CodeLaws c → (xs ys : List ℕ) → is_word c ys ≡ true → differ c.size xs ys ≤ c.radius → decoded c xs ≡ Some ys
