use Rattle.std.proofs.Common.{◌≡◌, ℕ, take}
use Rattle.reed_solomon_theory.specs.Decode.{shed_all, kill, without}
use Rattle.reed_solomon.specs.Words.{at}
use Rattle.reed_solomon.proofs.errors.error_at.Given as goal

abbrev pub invariant-loop-seat : goal.invariant-loop-seat
invariant-loop-seat g l =
    let φ = g.F.Field.model l.field in
    let others = without l.m (take l.seat-index l.seats) in
    ((j : ℕ) → at l.rest j ≡ shed_all φ others (at l.sums) j)
    × (l.divisor ≡ kill φ others l.m)
