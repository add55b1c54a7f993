use Rattle.reed_solomon.proofs.Shift.{all_stay, one_goes}
use Rattle.reed_solomon.proofs.locator.step.Goals as goal

pub returns-in_default-clause-after : goal.returns-in_default-clause-after
returns-in_default-clause-after g c =
    λ s top j part. all_stay (g.F.Field.model c.args.field.now) (g.met.F.Field.lawful c.args.field.now) c.args.sums.now s top j part
    c.args.rows.now.items c.deref.result.now c.pivot_at.result c.deref.ensures.0 c.pivot_at.ensures c.in_default.is

pub returns-in-Some-clause-after : goal.returns-in-Some-clause-after
returns-in-Some-clause-after g c =
    λ s top j part. one_goes (g.F.Field.model c.args.field.now) (g.met.F.Field.lawful c.args.field.now) c.args.sums.now s top j part
    c.args.rows.now.items c.deref.result.now c.remove-pivot.new.self.items c.deref_mut.result.now c.clear.new.rows c.pivot_at.result c.in-Some.p
    c.remove-pivot.result c.deref.ensures.0 c.pivot_at.ensures c.in-Some.is c.remove-pivot.ensures.value c.remove-pivot.ensures.items c.remove-pivot.ensures.len
    c.deref_mut.ensures.value c.clear.ensures
