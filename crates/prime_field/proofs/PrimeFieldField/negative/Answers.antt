use Rattle.std.proofs.Common.{rules}
use Rattle.prime_field.proofs.Reckoning.{neg_zero, neg_some}
use Rattle.prime_field.proofs.PrimeFieldField.negative.Goals as goal

pub returns-then-x-eq0 : goal.returns-then-x-eq0
returns-then-x-eq0 c = search (rules, neg_zero)

pub returns-else-x-eq0 : goal.returns-else-x-eq0
returns-else-x-eq0 c = search (rules, neg_some)
