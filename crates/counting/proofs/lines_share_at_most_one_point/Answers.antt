use Rattle.counting.proofs.Dual.{dual}
use Rattle.counting.proofs.lines_share_at_most_one_point.Goals as goal

pub returns : goal.returns
returns c = dual
