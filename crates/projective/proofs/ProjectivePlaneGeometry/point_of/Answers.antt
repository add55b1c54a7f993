use Rattle.std.proofs.Common.{rules}
use Rattle.projective.specs.Laws.{triple_at}
use Rattle.projective.proofs.ProjectivePlaneGeometry.point_of.Goals as goal

pub returns : goal.returns
returns g c =
    let line = c.div_rem-line.result.0 in
    let place = c.div_rem-line.result.1 in
    search (rules, triple_at _ (g.met.F.Field.lawful c.args.self.now.field) line place (search rules) (search rules))
