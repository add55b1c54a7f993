use Rattle.std.proofs.Common.{◌≡◌, ◌<◌, length, get_or, refl, ap, ◌∙◌, arith}
use Rattle.reed_solomon_theory.specs.Code.{power}
use Rattle.reed_solomon_theory.specs.Decode.{added}
use Rattle.reed_solomon.specs.Words.{at}
use Rattle.reed_solomon.proofs.Adding.{term_none, term_next, added_is, added_last}
use Rattle.reed_solomon.proofs.Shedding.{write_turn}
use Rattle.reed_solomon.proofs.checks.add_symbol.Goals as goal

pub loop-sum-init : goal.loop-sum-init
loop-sum-init g c =
    let φ = g.F.Field.model c.args.field.now in
    let laws = g.met.F.Field.lawful c.args.field.now in
    (term_none φ laws c.args.locator c.args.symbol c.requires, λ m h. absurd (omega arith), λ m h. refl)

pub loop-sum-preserved : goal.loop-sum-preserved
loop-sum-preserved g c =
    let φ = g.F.Field.model c.args.field.now in
    let laws = g.met.F.Field.lawful c.args.field.now in
    let start = at c.in-Some.before.now in
    let x = c.args.locator in
    let d = c.args.symbol in
    let j = c.loop-sum.sum-index in
    let xs = c.loop-sum.sum-items in
    let inside : c.loop-sum.sum-index < length c.loop-sum.sum-items = omega arith in
    let turn = write_turn (added φ x d start) start xs j c.sum.result inside c.loop-sum.invariant.1 c.loop-sum.invariant.2
    (added_is φ laws x d j (get_or xs j 0) c.loop-sum.term c.sum.result start (c.loop-sum.invariant.2 j (omega arith)) c.loop-sum.invariant.0 c.sum.ensures) in
    (term_next φ laws x d j c.loop-sum.term c.product-term.result c.loop-sum.invariant.0 c.product-term.ensures, turn.0, turn.1)

pub returns-after-loop-sum : goal.returns-after-loop-sum
returns-after-loop-sum g c =
    let φ = g.F.Field.model c.args.field.now in
    let laws = g.met.F.Field.lawful c.args.field.now in
    let before = c.in-Some.before.now in
    let xs = c.loop-sum.sum-items in
    let same : length c.loop-sum.sum-items ≡ length c.in-Some.before.now = c.loop-sum.auto.sum-items in
    let end : c.loop-sum.sum-index ≡ length c.in-Some.before.now = omega arith in
    added_last φ laws c.args.locator c.args.symbol before xs c.args.sums.now c.in-Some.last.now c.sum-in-Some.result c.in-Some.ensures.cases.0 same
    (λ j h. c.loop-sum.invariant.1 j (omega arith)) (c.sum-in-Some.ensures ∙ ap (φ.sum c.in-Some.last.now) (c.loop-sum.invariant.0 ∙ ap (λ k. φ.prod (power φ c.args.locator k) c.args.symbol) end))
