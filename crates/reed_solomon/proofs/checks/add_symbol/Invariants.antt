use Rattle.std.proofs.Common.{◌≡◌, ℕ, ◌<◌, ◌≤◌}
use Rattle.reed_solomon_theory.specs.Code.{power}
use Rattle.reed_solomon_theory.specs.Decode.{added}
use Rattle.reed_solomon.specs.Words.{at}
use Rattle.reed_solomon.proofs.checks.add_symbol.Given as goal

abbrev pub invariant-loop-sum : goal.invariant-loop-sum
invariant-loop-sum g l =
    let φ = g.F.Field.model l.field in
    (l.term ≡ φ.prod (power φ l.locator l.sum-index) l.symbol)
    × ((m : ℕ) → m < l.sum-index → at l.sum-items m ≡ added φ l.locator l.symbol (at l.initial.sum-items) m)
    × ((m : ℕ) → l.sum-index ≤ m → at l.sum-items m ≡ at l.initial.sum-items m)
