use Rattle.std.proofs.Common.{◌≡◌, get_or}
use Rattle.bch.specs.Columns.{column, column_sum}
use Rattle.bch.proofs.kind.Bch.syndrome.Given as goal

abbrev pub invariant-loop-seat : goal.invariant-loop-seat
invariant-loop-seat l = l.total ≡ column_sum (column l.self.radius) l.seat (λ i. get_or l.word i 0)
