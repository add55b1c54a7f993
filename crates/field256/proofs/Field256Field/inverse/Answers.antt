use Rattle.std.proofs.Common.{rules}
use Rattle.field256.specs.Tables.{antilogs, logs}
use Rattle.field256.specs.Powers.{inverse_read}
use Rattle.field256.proofs.Field256Field.inverse.Goals as goal

pub returns : goal.returns
unfolding logs antilogs
returns c = search (rules, inverse_read)
