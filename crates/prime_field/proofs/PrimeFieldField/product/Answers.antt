use Rattle.std.proofs.Common.{rules}
use Rattle.prime_field.proofs.Reckoning.{product}
use Rattle.prime_field.proofs.PrimeFieldField.product.Goals as goal

pub returns : goal.returns
returns c = search (rules, product)
