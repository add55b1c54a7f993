use Rattle.std.proofs.Common.{inl, inr, rules}
use Rattle.field256.specs.Tables.{antilogs, logs}
use Rattle.field256.specs.Powers.{product_read, product_left_zero, product_right_zero, two_logs}
use Rattle.field256.proofs.Field256Field.product.Goals as goal

pub bounds-i : goal.bounds-i
unfolding logs
bounds-i c = search (rules, two_logs)

pub returns-then-a-eq0 : goal.returns-then-a-eq0
returns-then-a-eq0 c = elim c.then-a-eq0.either [
  | inl e ↦ rw e (product_left_zero c.args.b)
  | inr e ↦ rw e.1 (product_right_zero c.args.a)
]

pub returns : goal.returns
unfolding logs antilogs
returns c = search (rules, product_read)
