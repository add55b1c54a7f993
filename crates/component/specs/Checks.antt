-- What a call with a word is refused with. The checks are made in the order of their numbers.
use Rattle.std.specs.Prelude.{ℕ, Bool, true, false, List, length, Some, None, Ok, Err, Option, Result, ◌==◌, nat_le, position}
use Rattle.std.specs.Result.{result_and}
use Rattle.field.specs.Defined.{listed}
use Rattle.refusal.specs.declared.Refusal.{Refusal}
use Rattle.refusal.specs.declared.Refusal.TheVariants.{FieldOrder, CodeLimits, BufferLength, NotACode}
use Rattle.component.specs.Model.{CodeModel}

-- refused unless the test passes
abbrev pub unless : Bool → Refusal → Result (Unit {0}) Refusal
unless true r = Ok tt
unless false r = Err r

-- the first place of a word whose symbol is no code of a field of order q
abbrev pub first_no_code : ℕ → List ℕ → Option ℕ
first_no_code q xs = position (nat_le q) xs

-- number 10: the first place whose symbol is no code
abbrev pub no_stranger : Option ℕ → Result (Unit {0}) Refusal
no_stranger (Some place) = Err (NotACode place)
no_stranger None = Ok tt

-- the checks of a word of n symbols over a field of order q, numbers 9 and 10
unfoldable pub word_standing : ℕ → ℕ → List ℕ → Result (Unit {0}) Refusal
word_standing q n xs = result_and (unless (length xs == n) BufferLength) (no_stranger (first_no_code q xs))

-- the checks of a code, numbers 1 and 3
abbrev pub standing : CodeModel → Result (Unit {0}) Refusal
standing c = result_and (unless (listed c.field.order) FieldOrder) (unless c.fit CodeLimits)

-- the checks of a call of decoding, numbers 1, 3, 9 and 10
abbrev pub admitted : CodeModel → List ℕ → Result (Unit {0}) Refusal
admitted c xs = result_and (standing c) (word_standing c.field.order c.size xs)

-- a buffer after a call: as it was if the call is refused
abbrev pub left : {X : Type 0} → Result (Unit {0}) Refusal → X → X → X
left (Ok u) before after = after
left (Err r) before after = before
