use Rattle.reed_solomon.specs.Meaning.{lawful}
use Rattle.code_laws.proofs.reed_solomon_is_lawful.Goals as goal

pub returns : goal.returns
returns c = lawful
