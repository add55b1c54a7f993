use Rattle.field_theory.proofs.Lawful.{lawful}
use Rattle.field_theory.proofs.defined_fields_are_lawful.Goals as goal

pub returns : goal.returns
returns c = lawful
