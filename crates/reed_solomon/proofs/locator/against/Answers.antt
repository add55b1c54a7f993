use Rattle.std.proofs.Common.{◌∙◌, ℕ, rules}
use Rattle.std.proofs.lemmas.Iterator.{YieldsList-from_slice, YieldsList-from_zip}
use Rattle.std.proofs.lemmas.Iterator.Consumers.{fold_from_yields_List}
use Rattle.reed_solomon.proofs.Folds.{against_is}
use Rattle.reed_solomon.proofs.locator.against.Goals as goal

pub returns : goal.returns
returns g c =
    let φ = g.F.Field.model c.args.field.now in
    fold_from_yields_List _ (λ v (p : ℕ × ℕ). φ.sum v (φ.prod p.0 p.1)) 0 c.fold.result c.fold.ensures.ran
    (YieldsList-from_zip (YieldsList-from_slice c.args.row.now cc) (YieldsList-from_slice c.args.sums.now c.zip.ensures.second.0)) (λ a x b q k. search rules)
    ∙ against_is φ (g.met.F.Field.lawful c.args.field.now) c.args.row.now c.args.sums.now
