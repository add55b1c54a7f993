use Rattle.std.proofs.Common.{rules}
use Rattle.quadrangle.specs.Projections.{projects}
use Rattle.quadrangle.proofs.AffineQuadrangleQuadrangle.project.Goals as goal

pub returns : goal.returns
returns g c = search (rules, projects (g.F.Field.model c.args.self.now.field) (g.met.F.Field.lawful c.args.self.now.field))
