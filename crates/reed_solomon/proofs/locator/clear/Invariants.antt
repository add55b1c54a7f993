use Rattle.std.proofs.Common.{◌≡◌, ◌++◌, map, take, drop}
use Rattle.reed_solomon_theory.specs.Elimination.{cleared}
use Rattle.reed_solomon.specs.Words.{at}
use Rattle.reed_solomon.proofs.locator.clear.Given as goal

abbrev pub invariant-loop-row : goal.invariant-loop-row
invariant-loop-row g l =
    l.row-items ≡ map (cleared (g.F.Field.model l.field) (at l.sums) 0 l.v l.pivot) (take l.row-index l.initial.row-items) ++ drop l.row-index l.initial.row-items
