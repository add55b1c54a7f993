use Rattle.std.proofs.Common.{◌<◌, ◌∷◌, [], ◌++◌, get_or, map, length, sym, ap, ◌∙◌, ap₂, arith, length-take}
use Rattle.std.proofs.lemmas.List.{take_more, map_more, map-append, take_all, length-map}
use Rattle.reed_solomon_theory.specs.Decode.{error}
use Rattle.reed_solomon.specs.Errors.{seats_of, values_of}
use Rattle.reed_solomon.specs.Words.{at}
use Rattle.reed_solomon.proofs.errors.errors_of.Goals as goal

pub push-requires : goal.push-requires
push-requires g c =
    let room : length c.loop-seat.errors.items < 4 = omega (arith, length-map c.loop-seat.errors.items (λ e. e.seat), ap length c.loop-seat.invariant.0, length-take c.loop-seat.seat-index c.args.seats.now) in
    (omega arith, room)

pub loop-seat-preserved : goal.loop-seat-preserved
loop-seat-preserved g c =
    let k = c.loop-seat.seat-index in
    let seats = c.args.seats.now in
    let f = error (g.F.Field.model c.args.field.now) seats (at c.args.sums.now) in
    let items = c.loop-seat.errors.items in (
      ap seats_of c.push.ensures.items ∙ map-append (λ e. e.seat) items _ ∙ ap (λ xs. xs ++ get_or seats k 0 ∷ []) c.loop-seat.invariant.0 ∙ sym (take_more seats k 0 (omega arith)),
      ap values_of c.push.ensures.items ∙ map-append (λ e. e.value) items _ ∙ ap₂ (λ xs x. xs ++ x ∷ []) c.loop-seat.invariant.1 c.error_at.ensures ∙ sym (map_more f seats k 0 (omega arith)),
    )

pub returns : goal.returns
returns g c =
    let f = error (g.F.Field.model c.args.field.now) c.args.seats.now (at c.args.sums.now) in
    let all = take_all c.loop-seat.seat-index c.args.seats.now (omega arith) in
    record { seats = c.loop-seat.invariant.0 ∙ all; values = c.loop-seat.invariant.1 ∙ ap (map f) all }
