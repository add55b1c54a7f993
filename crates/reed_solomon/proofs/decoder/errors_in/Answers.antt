use Rattle.std.proofs.Common.{◌≡◌, ℕ, List, [], ◌∷◌, length, take, drop, sym, subst, ◌∙◌, arith, length-take-le}
use Rattle.reed_solomon_theory.specs.Code.{Below}
use Rattle.reed_solomon_theory.proofs.Poly.{few_roots}
use Rattle.reed_solomon.specs.Words.{at}
use Rattle.reed_solomon.proofs.Correcting.{ends, answered, front_length, none_corrects}
use Rattle.reed_solomon.proofs.Roots.{roots_below}
use Rattle.reed_solomon.proofs.decoder.errors_in.Goals as goal

-- the sums before the word is added to them
abbrev zeros : List ℕ
zeros = 0 ∷ 0 ∷ 0 ∷ 0 ∷ 0 ∷ 0 ∷ 0 ∷ 0 ∷ []

pub roots_of-seats-requires-clause-few : goal.roots_of-seats-requires-clause-few
roots_of-seats-requires-clause-few g c =
    let φ = g.F.Field.model c.args.field.now in
    let laws = g.met.F.Field.lawful c.args.field.now in
    let σ = c.locator-row.ensures in
    let few = few_roots φ laws (length c.args.word.now) σ.degree c.locator-row.result c.requires.seats σ.monic in
    let low = σ.small in
    let r = c.requires.few in
    omega arith

pub returns-then-all_zero-clause-found : goal.returns-then-all_zero-clause-found
returns-then-all_zero-clause-found g c =
    let whole : length (take c.args.checks zeros) ≡ c.args.checks = length-take-le c.args.checks zeros c.requires.few in
    none_corrects (g.F.Field.model c.args.field.now) (length c.args.word.now) c.args.checks (at c.args.word.now) c.requires.codes c.add_word.new.sums (drop c.args.checks zeros)
    (c.add_word.auto.sums ∙ whole) (λ j h. c.add_word.ensures j (omega arith)) c.if-all_zero.ensures c.new.result.items c.new.ensures

pub returns : goal.returns
returns g c =
    let φ = g.F.Field.model c.args.field.now in
    let n = length c.args.word.now in
    let r = c.args.checks in
    let w = at c.args.word.now in
    let errors = c.errors_of-errors.result in
    let sums = c.add_word.new.sums in
    let rest = c.take_errors.new.sums in
    let done = c.all_zero-2.result in
    let others = drop r zeros in
    let whole : length (take c.args.checks zeros) ≡ c.args.checks = length-take-le c.args.checks zeros c.requires.few in
    let long : length c.add_word.new.sums ≡ c.args.checks = c.add_word.auto.sums ∙ whole in
    let found = c.deref.ensures.0 ∙ c.roots_of-seats.ensures in
    let answer = answered φ n r w _ (λ e. e.items) errors done
    (subst (Below n) (sym (c.errors_of-errors.ensures.seats ∙ found)) (roots_below φ n c.locator-row.result))
    (ends φ (g.met.F.Field.lawful c.args.field.now) n r c.requires.seats c.requires.some w c.requires.codes
    sums rest others _ long (λ j h. c.add_word.ensures j (omega arith)) c.locator-row.result c.locator-row.ensures
    c.deref.result.now errors.items c.deref-2.result.now found c.errors_of-errors.ensures.seats c.errors_of-errors.ensures.values c.deref-2.ensures.0
    (front_length r sums others rest long c.take_errors.auto.sums) c.take_errors.ensures done c.all_zero-2.ensures)
    c.then_some.result c.then_some.ensures in
    record { found = answer.0; none = answer.1 }
