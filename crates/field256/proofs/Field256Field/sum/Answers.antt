use Rattle.std.proofs.Common.{rules}
use Rattle.field256.specs.Powers.{sum_read}
use Rattle.field256.proofs.Field256Field.sum.Goals as goal

pub returns : goal.returns
returns c = search (rules, sum_read)
