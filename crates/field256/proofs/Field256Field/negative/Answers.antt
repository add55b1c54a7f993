use Rattle.std.proofs.Common.{rules}
use Rattle.field256.specs.Powers.{neg_read}
use Rattle.field256.proofs.Field256Field.negative.Goals as goal

pub returns : goal.returns
returns c = search (rules, neg_read)
