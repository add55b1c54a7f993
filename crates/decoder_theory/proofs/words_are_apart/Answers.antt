use Rattle.decoder_theory.proofs.Apart.{words_apart}
use Rattle.decoder_theory.proofs.words_are_apart.Goals as goal

pub returns : goal.returns
returns c = words_apart
