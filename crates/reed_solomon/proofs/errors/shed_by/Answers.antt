use Rattle.std.proofs.Common.{◌+◌, get_or, rules, arith}
use Rattle.reed_solomon.proofs.Folds.{made_by}
use Rattle.reed_solomon.proofs.Steps.{shed_from}
use Rattle.reed_solomon.proofs.errors.shed_by.Goals as goal

pub returns : goal.returns
returns g c =
    let φ = g.F.Field.model c.args.field.now in
    let laws = g.met.F.Field.lawful c.args.field.now in
    let start = c.args.sums.now in
    let factor = c.negative-factor.result in
    shed_from φ laws c.args.k factor start c.from_fn.result c.negative-factor.ensures (search rules) c.from_fn.ensures.items.long
    (λ j l. made_by _ _ (λ j. φ.sum (get_or start (j + 1) 0) (φ.prod factor (get_or start j 0))) (λ i y q k. search rules) c.from_fn.result 0 8
    c.from_fn.ensures.items.each j (omega arith) (omega arith))
