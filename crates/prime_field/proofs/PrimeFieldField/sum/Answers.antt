use Rattle.std.proofs.Common.{rules}
use Rattle.prime_field.proofs.Reckoning.{sum_small, sum_large}
use Rattle.prime_field.proofs.PrimeFieldField.sum.Goals as goal

pub returns-then-s-q : goal.returns-then-s-q
returns-then-s-q c = search (rules, sum_small)

pub returns-else-s-q : goal.returns-else-s-q
returns-else-s-q c = search (rules, sum_large)
