use Rattle.std.proofs.Common.{rules, refl, arith}
use Rattle.std.proofs.lemmas.Iterator.{cases_from_any, YieldsList-from_range}
use Rattle.incidence.proofs.Seats.{Joins, joined}
use Rattle.incidence.proofs.lies_on.Goals as goal

pub returns : goal.returns
returns g c =
    let m = g.G.Geometry.model c.args.geometry.now in
    let laws = g.met.G.Geometry.lawful c.args.geometry.now in
    let joins = Joins m laws c.args.point c.args.line in
    let n = c.point_degree.result in
    joined m laws c.args.point c.args.line n c.point_degree.ensures c.any.result
    (cases_from_any _ _ c.any.result joins (λ i. joins i → ⊥) c.any.ensures.ran (YieldsList-from_range 0 n n refl (omega arith)) (λ x q k. search rules) (λ x q k. search rules))
