use Rattle.std.proofs.Common.{refl}
use Rattle.projective.specs.Laws.{is_projective, only_projective}
use Rattle.projective.proofs.ProjectivePlane.over.Goals as goal

pub returns : goal.returns
returns g c =
    let φ = g.F.Field.model c.args.field in
    let laws = g.met.F.Field.lawful c.args.field in
    record { over = refl; meaning = is_projective φ laws; only = only_projective φ laws }
