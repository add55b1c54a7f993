use Rattle.graph_code.proofs.Passing.{no_vertex_fails}
use Rattle.graph_code.proofs.none_fails_where_all_pass.Goals as goal

pub returns : goal.returns
returns c = no_vertex_fails
