use Rattle.reed_solomon_theory.proofs.decoding_is_right.Goals as goal
use Rattle.reed_solomon_theory.proofs.Mend.{mends}
use Rattle.reed_solomon_theory.proofs.Promise.{finishes, stays}

pub returns : goal.returns
returns c = record { mends = mends; finishes = finishes; stays = stays }
