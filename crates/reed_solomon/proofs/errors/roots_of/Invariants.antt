use Rattle.std.proofs.Common.{◌≡◌, ◌++◌}
use Rattle.reed_solomon_theory.specs.Decode.{roots}
use Rattle.reed_solomon.proofs.errors.roots_of.Given as goal

abbrev pub invariant-loop-seat : goal.invariant-loop-seat
invariant-loop-seat g l = let φ = g.F.Field.model l.field in l.found.items ++ roots φ l.seat l.row ≡ roots φ l.n l.row
