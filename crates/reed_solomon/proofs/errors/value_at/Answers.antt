use Rattle.std.proofs.Common.{◌∙◌, rules}
use Rattle.std.proofs.lemmas.Iterator.Adapters.{YieldsList-from_rev_slice}
use Rattle.std.proofs.lemmas.Iterator.Consumers.{fold_from_yields_List}
use Rattle.reed_solomon.proofs.Folds.{value_is}
use Rattle.reed_solomon.proofs.errors.value_at.Goals as goal

pub returns : goal.returns
returns g c =
    let φ = g.F.Field.model c.args.field.now in
    fold_from_yields_List _ (λ v x. φ.sum x (φ.prod c.args.z v)) 0 c.fold.result c.fold.ensures.ran (YieldsList-from_rev_slice c.args.row.now cc) (λ a x b q k. search rules)
    ∙ value_is φ c.args.z c.args.row.now
