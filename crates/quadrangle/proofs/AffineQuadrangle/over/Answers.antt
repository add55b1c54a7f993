use Rattle.std.proofs.Common.{refl}
use Rattle.quadrangle.specs.Laws.{is_quadrangle, only_quadrangle}
use Rattle.quadrangle.specs.Projections.{one_pair}
use Rattle.quadrangle.proofs.AffineQuadrangle.over.Goals as goal

pub returns : goal.returns
returns g c =
    let φ = g.F.Field.model c.args.field in
    let laws = g.met.F.Field.lawful c.args.field in
    record { over = refl; meaning = is_quadrangle φ laws; only = only_quadrangle φ laws; promise = one_pair φ laws }
