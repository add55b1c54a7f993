use Rattle.std.proofs.Common.{refl}
use Rattle.euclidean.specs.Laws.{is_euclidean, only_euclidean}
use Rattle.euclidean.proofs.EuclideanPlane.over.Goals as goal

pub returns : goal.returns
returns g c =
    let φ = g.F.Field.model c.args.field in
    let laws = g.met.F.Field.lawful c.args.field in
    record { over = refl; meaning = is_euclidean φ laws; only = only_euclidean φ laws }
