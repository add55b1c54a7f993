use Rattle.std.proofs.Common.{◌≡◌, ◌-◌, ◌<◌, eqb, ◌++◌, length, sym, ap, ◌∙◌, arith}
use Rattle.std.proofs.lemmas.Bool.{eq-eqb, ne_eqb}
use Rattle.reed_solomon_theory.specs.Decode.{value, roots}
use Rattle.reed_solomon.proofs.Roots.{room, found_turn, passed_turn, found_all}
use Rattle.reed_solomon.proofs.errors.roots_of.Goals as goal

pub loop-seat-init : goal.loop-seat-init
loop-seat-init g c = ap (λ xs. xs ++ roots (g.F.Field.model c.args.field.now) c.args.n c.args.row.now) c.new-found.ensures

pub push-requires : goal.push-requires
unfolding roots
push-requires g c =
    let φ = g.F.Field.model c.args.field.now in
    let row = c.args.row.now in
    let space : length c.loop-seat.found.items < 4 = room c.loop-seat.found.items (roots φ c.args.n row) c.loop-seat.seat (λ i. eqb (value φ row i) 0)
    c.loop-seat.invariant c.requires.few (omega arith) (eq-eqb (value φ row (c.loop-seat.seat - 1)) 0 (sym c.value_at.ensures ∙ c.if-value_at-eq0.true)) in
    (omega arith, space)

pub loop-seat-preserved-then-value_at-eq0 : goal.loop-seat-preserved-then-value_at-eq0
unfolding roots
loop-seat-preserved-then-value_at-eq0 g c =
    let φ = g.F.Field.model c.args.field.now in
    let i = c.loop-seat.seat in
    let row = c.args.row.now in
    ap (λ xs. xs ++ roots φ (i - 1) row) c.push.ensures.items
    ∙ found_turn c.loop-seat.found.items (roots φ c.args.n row) i (λ i. eqb (value φ row i) 0) c.loop-seat.invariant (omega arith)
    (eq-eqb (value φ row (i - 1)) 0 (sym c.value_at.ensures ∙ c.if-value_at-eq0.true))

pub loop-seat-preserved : goal.loop-seat-preserved
unfolding roots
loop-seat-preserved g c =
    let φ = g.F.Field.model c.args.field.now in
    let i = c.loop-seat.seat in
    let row = c.args.row.now in
    passed_turn c.loop-seat.found.items (roots φ c.args.n row) i (λ i. eqb (value φ row i) 0) c.loop-seat.invariant (omega arith)
    (ne_eqb (value φ row (i - 1)) 0 (λ q. c.if-value_at-eq0.false (c.value_at.ensures ∙ q)))

pub returns : goal.returns
unfolding roots
returns g c =
    let φ = g.F.Field.model c.args.field.now in
    let row = c.args.row.now in
    let none : c.loop-seat.seat ≡ 0 = omega arith in
    found_all c.loop-seat.found.items (roots φ c.args.n row) (λ i. eqb (value φ row i) 0)
    (ap (λ i. c.loop-seat.found.items ++ roots φ i row) (sym none) ∙ c.loop-seat.invariant)
