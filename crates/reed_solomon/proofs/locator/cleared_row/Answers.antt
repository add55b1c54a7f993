use Rattle.std.proofs.Common.{get_or, ap, ◌∙◌, ap₂, arith, rules}
use Rattle.reed_solomon_theory.specs.Elimination.{plus, cleared}
use Rattle.reed_solomon_theory.proofs.Basis.{plus_by_places}
use Rattle.reed_solomon.proofs.Folds.{made_by}
use Rattle.reed_solomon.proofs.locator.cleared_row.Goals as goal

pub returns : goal.returns
unfolding cleared
returns g c =
    let φ = g.F.Field.model c.args.field.now in
    let laws = g.met.F.Field.lawful c.args.field.now in
    let pivot = c.args.pivot.now in
    let row = c.args.row.now in
    let factor = c.negative-factor.result in
    let five = c.from_fn.ensures.items.long in
    let factor_is = c.negative-factor.ensures ∙ ap φ.neg (c.product.ensures ∙ ap₂ φ.prod c.against.ensures c.inverse_or_zero.ensures) in
    plus_by_places φ laws factor pivot row c.from_fn.result (omega arith) (omega arith)
    (λ m h. made_by _ _ (λ k. φ.sum (get_or row k 0) (φ.prod factor (get_or pivot k 0))) (λ i y q k. search rules) c.from_fn.result 0 5
    c.from_fn.ensures.items.each m (omega arith) (omega arith))
    ∙ ap (λ x. plus φ x pivot row) factor_is
