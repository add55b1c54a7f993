use Rattle.decoder_theory.proofs.Planes.{corrects_to_bound}
use Rattle.decoder_theory.proofs.runs_correct_to_the_bound.Goals as goal

pub returns : goal.returns
returns c = corrects_to_bound
