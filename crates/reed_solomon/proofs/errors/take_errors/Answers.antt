use Rattle.std.proofs.Common.{get_or, ap, ◌∙◌, arith}
use Rattle.reed_solomon_theory.specs.Decode.{added}
use Rattle.reed_solomon.specs.Words.{at}
use Rattle.reed_solomon.proofs.Correcting.{blank, remaining_turn, remaining_end}
use Rattle.reed_solomon.proofs.errors.take_errors.Goals as goal

pub loop-error-preserved : goal.loop-error-preserved
loop-error-preserved g c =
    let φ = g.F.Field.model c.args.field.now in
    let es = c.args.errors.now in
    let k = c.loop-error.error-index in
    let s = at c.loop-error.sums in
    λ j h. remaining_turn φ es k s (at c.add_symbol.new.sums) j (omega arith)
    (c.add_symbol.ensures j (omega arith) ∙ ap (λ v. added φ (get_or es k blank).seat v s j) c.negative.ensures)
    ∙ c.loop-error.invariant j h

pub returns : goal.returns
returns g c =
    λ j h. remaining_end (g.F.Field.model c.args.field.now) c.args.errors.now c.loop-error.error-index (at c.loop-error.sums) j (omega arith)
    ∙ c.loop-error.invariant j h
