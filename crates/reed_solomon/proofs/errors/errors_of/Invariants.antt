use Rattle.std.proofs.Common.{◌≡◌, map, take}
use Rattle.reed_solomon_theory.specs.Decode.{error}
use Rattle.reed_solomon.specs.Errors.{seats_of, values_of}
use Rattle.reed_solomon.specs.Words.{at}
use Rattle.reed_solomon.proofs.errors.errors_of.Given as goal

abbrev pub invariant-loop-seat : goal.invariant-loop-seat
invariant-loop-seat g l =
    let found = take l.seat-index l.seats in
    (seats_of l.errors.items ≡ found) × (values_of l.errors.items ≡ map (error (g.F.Field.model l.field) l.seats (at l.sums)) found)
