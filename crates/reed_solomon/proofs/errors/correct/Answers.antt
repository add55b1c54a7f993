use Rattle.std.proofs.Common.{◌<◌, length, get_or, ◌∙◌, arith}
use Rattle.reed_solomon.specs.Words.{at}
use Rattle.reed_solomon.proofs.Correcting.{blank, below_at, corrected_turn, corrected_end}
use Rattle.reed_solomon.proofs.errors.correct.Goals as goal

pub bounds-word-seat : goal.bounds-word-seat
bounds-word-seat g c = omega (arith, below_at (length c.args.word.now) c.args.errors.now c.loop-error.error-index c.requires (omega arith))

pub bounds-word-seat-in-loop-error : goal.bounds-word-seat-in-loop-error
bounds-word-seat-in-loop-error g c = omega (arith, below_at (length c.args.word.now) c.args.errors.now c.loop-error.error-index c.requires (omega arith))

pub loop-error-preserved : goal.loop-error-preserved
loop-error-preserved g c =
    let inside : (get_or c.args.errors.now c.loop-error.error-index blank).seat < length c.loop-error.word
    = omega (arith, below_at (length c.args.word.now) c.args.errors.now c.loop-error.error-index c.requires (omega arith)) in
    λ i. corrected_turn (g.F.Field.model c.args.field.now) c.args.errors.now c.loop-error.error-index c.loop-error.word c.difference.result i (omega arith) inside c.difference.ensures
    ∙ c.loop-error.invariant i

pub returns : goal.returns
returns g c =
    λ i. corrected_end (g.F.Field.model c.args.field.now) c.args.errors.now c.loop-error.error-index (at c.loop-error.word) i (omega arith)
    ∙ c.loop-error.invariant i
