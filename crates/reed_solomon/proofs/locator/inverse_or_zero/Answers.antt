use Rattle.std.proofs.Common.{◌∙◌}
use Rattle.reed_solomon.proofs.Adding.{reciprocal_of}
use Rattle.reed_solomon.proofs.locator.inverse_or_zero.Goals as goal

pub returns : goal.returns
returns g c =
    c.unwrap_or.ensures ∙ reciprocal_of (g.F.Field.model c.args.field.now) (g.met.F.Field.lawful c.args.field.now) c.args.a c.inverse.result c.inverse.ensures
