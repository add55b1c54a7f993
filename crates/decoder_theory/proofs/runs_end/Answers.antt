use Rattle.decoder_theory.proofs.Ending.{run_ends}
use Rattle.decoder_theory.proofs.runs_end.Goals as goal

pub returns : goal.returns
returns c = run_ends
