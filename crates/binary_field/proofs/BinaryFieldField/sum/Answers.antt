use Rattle.std.proofs.Common.{rules}
use Rattle.binary_field.specs.Tables.{sum_read}
use Rattle.binary_field.proofs.BinaryFieldField.sum.Goals as goal

pub returns : goal.returns
returns c = search (rules, sum_read)
