use Rattle.geometry.proofs.Dual.{dual}
use Rattle.geometry.proofs.lines_meet_once.Goals as goal

pub returns : goal.returns
returns g c = dual (g.G.Geometry.model c.args.geometry.now) (g.met.G.Geometry.lawful c.args.geometry.now).one_line
