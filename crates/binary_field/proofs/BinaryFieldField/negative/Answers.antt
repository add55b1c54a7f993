use Rattle.std.proofs.Common.{rules}
use Rattle.binary_field.specs.Tables.{neg_read}
use Rattle.binary_field.proofs.BinaryFieldField.negative.Goals as goal

pub returns : goal.returns
returns c = search (rules, neg_read)
