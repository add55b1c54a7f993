use Rattle.counting.proofs.Fewer.{decrease}
use Rattle.counting.proofs.rich_points_are_fewer.Goals as goal

pub returns : goal.returns
returns c = decrease
