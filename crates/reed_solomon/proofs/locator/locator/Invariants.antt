use Rattle.std.proofs.Common.{◌≡◌, ◌+◌, ◌≤◌, [], length, get_or, drop}
use Rattle.std.specs.Slice.Iter.{windows_rest, windows_size}
use Rattle.reed_solomon_theory.specs.Elimination.{Basis}
use Rattle.reed_solomon.specs.Words.{at}
use Rattle.reed_solomon.proofs.locator.locator.Given as goal

-- after the windows so far, which begin at 0 and on
abbrev pub invariant-loop-five : goal.invariant-loop-five
invariant-loop-five g l =
    let j = length l.yielded in
    let left = l.five-iterator.iter.parts in
    Basis (g.F.Field.model l.field) (at l.sums) 5 (l.t + 1) j (length l.rows.items) (λ k. get_or l.rows.items k [])
    × (l.t + 1 ≤ j + length l.rows.items)
    × (windows_rest left ≡ drop j l.sums)
    × (windows_size left ≡ 5)
    × (l.five-iterator.n + j ≡ l.t)
