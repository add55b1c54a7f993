use Rattle.std.proofs.Common.{◌≡◌, get_or, take, sym, ap, ◌∙◌, ap₂, arith}
use Rattle.std.proofs.lemmas.List.{take_all}
use Rattle.reed_solomon_theory.specs.Decode.{kill, shed_all, without}
use Rattle.reed_solomon.specs.Words.{at}
use Rattle.reed_solomon.proofs.Shedding.{next_same, next_other, shed_push, shed_same, kill_push, none_shed, none_killed, error_is}
use Rattle.reed_solomon.proofs.errors.error_at.Goals as goal
use Rattle.reed_solomon.proofs.errors.error_at.Goals.{then-seat-m, else-seat-m}

pub loop-seat-init : goal.loop-seat-init
loop-seat-init g c =
    let φ = g.F.Field.model c.args.field.now in
    let laws = g.met.F.Field.lawful c.args.field.now in
    (none_shed φ laws c.args.m (at c.args.sums.now), none_killed φ laws c.args.m)

pub loop-seat-preserved : goal.loop-seat-preserved
loop-seat-preserved g c =
    let φ = g.F.Field.model c.args.field.now in
    let laws = g.met.F.Field.lawful c.args.field.now in
    let m = c.args.m in
    let k = c.loop-seat.seat-index in
    let seats = c.args.seats.now in
    let s = at c.args.sums.now in
    let ks = without m (take k seats) in
    let seat = get_or seats k 0 in
    let here = c.loop-seat-test.true in
    elim c.if-seat-m.branch [
      | then-seat-m w ↦
          (let next = next_other m k seats here w.if-seat-m.true in (
            (λ j. ap (λ x. at x j) w.rest-is ∙ w.shed_by-rest.ensures j ∙ shed_same φ laws seat (at c.loop-seat.rest) (shed_all φ ks s) j c.loop-seat.invariant.0 ∙ sym (shed_push φ laws ks seat s j) ∙ ap (λ l. shed_all φ l s j) (sym next)),
            w.divisor-is ∙ w.product-divisor.ensures ∙ ap₂ φ.prod w.difference.ensures c.loop-seat.invariant.1 ∙ kill_push φ laws ks seat m ∙ ap (λ l. kill φ l m) (sym next),
          ))
      | else-seat-m w ↦
          (let next = next_same m k seats here w.if-seat-m.false in (
            (λ j. ap (λ x. at x j) w.rest-is ∙ c.loop-seat.invariant.0 j ∙ ap (λ l. shed_all φ l s j) (sym next)),
            w.divisor-is ∙ c.loop-seat.invariant.1 ∙ ap (λ l. kill φ l m) (sym next),
          ))
    ]

pub returns : goal.returns
returns g c =
    let φ = g.F.Field.model c.args.field.now in
    let laws = g.met.F.Field.lawful c.args.field.now in
    let m = c.args.m in
    let seats = c.args.seats.now in
    let s = at c.args.sums.now in
    let all : take c.loop-seat.seat-index c.args.seats.now ≡ c.args.seats.now = take_all c.loop-seat.seat-index c.args.seats.now (omega arith) in
    error_is φ laws seats s m (get_or c.loop-seat.rest 0 0) c.loop-seat.divisor c.inverse_or_zero.result c.product.result
    (c.loop-seat.invariant.0 0 ∙ ap (λ ks. shed_all φ (without m ks) s 0) all) (c.loop-seat.invariant.1 ∙ ap (λ ks. kill φ (without m ks) m) all) c.inverse_or_zero.ensures c.product.ensures
