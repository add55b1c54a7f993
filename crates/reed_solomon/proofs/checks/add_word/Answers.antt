use Rattle.std.proofs.Common.{◌∙◌, arith}
use Rattle.reed_solomon.specs.Words.{at}
use Rattle.reed_solomon.proofs.Adding.{check_none, check_more}
use Rattle.reed_solomon.proofs.checks.add_word.Goals as goal

pub loop-seat-init : goal.loop-seat-init
loop-seat-init g c = λ j h. c.requires.none j h ∙ check_none (g.F.Field.model c.args.field.now) (g.met.F.Field.lawful c.args.field.now) (at c.args.word.now) j

pub loop-seat-preserved : goal.loop-seat-preserved
loop-seat-preserved g c =
    let φ = g.F.Field.model c.args.field.now in
    let laws = g.met.F.Field.lawful c.args.field.now in
    λ j h. c.add_symbol.ensures j (omega arith) ∙ check_more φ laws c.loop-seat.seat j (at c.loop-seat.sums) (at c.args.word.now) (c.loop-seat.invariant j h)
