use Rattle.std.proofs.Common.{rules, bit_xor}
use Rattle.bch.specs.Columns.{NoSeat, column}
use Rattle.bch.proofs.Search.{none_below}
use Rattle.bch.proofs.kind.Bch.pair_with.Goals as goal

pub returns-clause-none : goal.returns-clause-none
returns-clause-none c =
    let t = c.args.self.now.radius in
    none_below _ _ (λ b. NoSeat t (bit_xor c.args.sum (column t b)) b) (search rules) (λ x k. search rules) c.find_map.result _ c.find_map.ensures.runs
