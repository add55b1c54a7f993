use Rattle.std.proofs.Common.{◌≡◌, ℕ, ◌<◌, length, drop}
use Rattle.reed_solomon_theory.specs.Decode.{remaining}
use Rattle.reed_solomon.specs.Errors.{seats_of, values_of}
use Rattle.reed_solomon.specs.Words.{at}
use Rattle.reed_solomon.proofs.errors.take_errors.Given as goal

-- the errors that are left, taken from the checks as they are
abbrev pub invariant-loop-error : goal.invariant-loop-error
invariant-loop-error g l =
    let φ = g.F.Field.model l.field in
    let rest = drop l.error-index l.errors in
    (j : ℕ) → j < length l.initial.sums → remaining φ (seats_of rest) (values_of rest) (at l.sums) j
    ≡ remaining φ (seats_of l.errors) (values_of l.errors) (at l.initial.sums) j
