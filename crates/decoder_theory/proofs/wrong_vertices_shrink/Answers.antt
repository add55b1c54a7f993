use Rattle.decoder_theory.proofs.Planes.{planes_shrink}
use Rattle.decoder_theory.proofs.wrong_vertices_shrink.Goals as goal

pub returns : goal.returns
returns c = planes_shrink
