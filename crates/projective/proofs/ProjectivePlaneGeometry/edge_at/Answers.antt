use Rattle.std.proofs.Common.{rules}
use Rattle.projective.specs.Laws.{triple_at}
use Rattle.projective.proofs.ProjectivePlaneGeometry.edge_at.Goals as goal

pub returns : goal.returns
returns g c = search (rules, triple_at _ (g.met.F.Field.lawful c.args.self.now.field) c.args.point c.args.seat (search rules) (search rules))
