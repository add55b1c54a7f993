use Rattle.decoder_theory.proofs.Running.{corrects}
use Rattle.decoder_theory.proofs.runs_correct.Goals as goal

pub returns : goal.returns
returns c = corrects
