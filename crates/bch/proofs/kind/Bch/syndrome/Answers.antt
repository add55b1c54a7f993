use Rattle.std.proofs.Common.{ℕ, get_or, refl, ◌∙◌}
use Rattle.bch.specs.Columns.{column, column_sum}
use Rattle.bch.specs.Sums.{more_zero, more_one}
use Rattle.bch.proofs.kind.Bch.syndrome.Goals as goal
use Rattle.bch.proofs.kind.Bch.syndrome.Goals.{then-symbol-ne0, else-symbol-ne0}

pub loop-seat-init : goal.loop-seat-init
unfolding column_sum
loop-seat-init c = refl

pub loop-seat-preserved : goal.loop-seat-preserved
loop-seat-preserved c =
    let col = column c.args.self.now.radius in
    let n = c.loop-seat.seat in
    let w = λ (i : ℕ). get_or c.args.word.now i 0 in
    elim c.if-symbol-ne0.branch [
      | then-symbol-ne0 v ↦ v.total-is ∙ more_one col n w c.loop-seat.total c.loop-seat.invariant v.column-total.result v.column-total.ensures v.if-symbol-ne0.true
      | else-symbol-ne0 v ↦ v.total-is ∙ more_zero col n w c.loop-seat.total c.loop-seat.invariant v.if-symbol-ne0.false
    ]
