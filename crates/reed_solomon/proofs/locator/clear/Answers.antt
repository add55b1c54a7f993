use Rattle.std.proofs.Common.{[], get_or, set, ap, ◌∙◌, arith}
use Rattle.std.proofs.lemmas.List.{get_or_default}
use Rattle.std.proofs.lemmas.List.Edits.{map_over_more}
use Rattle.reed_solomon_theory.specs.Elimination.{cleared}
use Rattle.reed_solomon.specs.Words.{at}
use Rattle.reed_solomon.proofs.locator.clear.Goals as goal

pub loop-row-preserved : goal.loop-row-preserved
loop-row-preserved g c =
    let f = cleared (g.F.Field.model c.args.field.now) (at c.args.sums.now) 0 c.against-v.result c.args.pivot.now in
    let ys = c.loop-row.row-items in
    let i = c.loop-row.row-index in
    let y = get_or ys i [] in
    ap (set ys i) c.cleared_row.ensures
    ∙ map_over_more f c.args.rows.now ys i y c.loop-row-test.true c.loop-row.invariant (get_or_default ys i [] y (omega arith))
