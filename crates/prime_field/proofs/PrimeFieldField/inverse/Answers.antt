use Rattle.std.proofs.Common.{rules}
use Rattle.prime_field.proofs.Table.{inverses}
use Rattle.prime_field.proofs.Reckoning.{inverse_some}
use Rattle.prime_field.proofs.PrimeFieldField.inverse.Goals as goal

pub returns-else-x-eq0 : goal.returns-else-x-eq0
unfolding inverses
returns-else-x-eq0 c = search (rules, inverse_some)
