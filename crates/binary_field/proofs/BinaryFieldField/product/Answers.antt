use Rattle.std.proofs.Common.{rules}
use Rattle.binary_field.specs.declared.BinaryField.TheVariants.{Of4, Of8, Of16}
use Rattle.binary_field.specs.Tables.{product_read, products4, products8, products16}
use Rattle.binary_field.proofs.BinaryFieldField.product.Goals as goal

pub returns-in-Of4 : goal.returns-in-Of4
unfolding products4
returns-in-Of4 c = search (rules, product_read Of4)

pub returns-in-Of8 : goal.returns-in-Of8
unfolding products8
returns-in-Of8 c = search (rules, product_read Of8)

pub returns-in-Of16 : goal.returns-in-Of16
unfolding products16
returns-in-Of16 c = search (rules, product_read Of16)
