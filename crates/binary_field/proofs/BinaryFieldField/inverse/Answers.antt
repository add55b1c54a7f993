use Rattle.std.proofs.Common.{rules}
use Rattle.binary_field.specs.declared.BinaryField.TheVariants.{Of4, Of8, Of16}
use Rattle.binary_field.specs.Tables.{inverse_read, inverses4, inverses8, inverses16}
use Rattle.binary_field.proofs.BinaryFieldField.inverse.Goals as goal

pub returns-in-Of4 : goal.returns-in-Of4
unfolding inverses4
returns-in-Of4 c = search (rules, inverse_read Of4)

pub returns-in-Of8 : goal.returns-in-Of8
unfolding inverses8
returns-in-Of8 c = search (rules, inverse_read Of8)

pub returns-in-Of16 : goal.returns-in-Of16
unfolding inverses16
returns-in-Of16 c = search (rules, inverse_read Of16)
