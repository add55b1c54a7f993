use Rattle.std.proofs.Common.{◌∙◌, refl, arith, rules}
use Rattle.std.proofs.lemmas.Iterator.{YieldsList-from_range}
use Rattle.std.proofs.lemmas.Iterator.Consumers.{fold_from_yields_List}
use Rattle.reed_solomon.proofs.Folds.{power_is}
use Rattle.reed_solomon.proofs.checks.raise.Goals as goal

pub returns : goal.returns
returns g c =
    let φ = g.F.Field.model c.args.field.now in
    fold_from_yields_List _ (λ p _. φ.prod c.args.code p) 1 c.fold.result c.fold.ensures.ran (YieldsList-from_range 0 c.args.exponent c.args.exponent refl (omega arith)) (λ a x b q k. search rules)
    ∙ power_is φ c.args.code c.args.exponent
