use Rattle.counting.proofs.Far.{distance}
use Rattle.counting.proofs.edge_sets_are_large.Goals as goal

pub returns : goal.returns
returns c = distance
