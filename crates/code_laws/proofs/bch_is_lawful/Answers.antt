use Rattle.bch.specs.Words.{lawful}
use Rattle.code_laws.proofs.bch_is_lawful.Goals as goal

pub returns : goal.returns
returns c = lawful
