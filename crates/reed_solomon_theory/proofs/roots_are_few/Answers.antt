use Rattle.reed_solomon_theory.proofs.roots_are_few.Goals as goal
use Rattle.reed_solomon_theory.proofs.Poly.{few_roots}

pub returns : goal.returns
returns c = few_roots
