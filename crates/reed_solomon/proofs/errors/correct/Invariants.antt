use Rattle.std.proofs.Common.{◌≡◌, ℕ, drop}
use Rattle.reed_solomon_theory.specs.Decode.{corrected}
use Rattle.reed_solomon.specs.Errors.{seats_of, values_of}
use Rattle.reed_solomon.specs.Words.{at}
use Rattle.reed_solomon.proofs.errors.correct.Given as goal

-- the errors that are left, taken from the word as it is
abbrev pub invariant-loop-error : goal.invariant-loop-error
invariant-loop-error g l =
    let φ = g.F.Field.model l.field in
    let rest = drop l.error-index l.errors in
    (i : ℕ) → corrected φ (seats_of rest) (values_of rest) (at l.word) i
    ≡ corrected φ (seats_of l.errors) (values_of l.errors) (at l.initial.word) i
