use Rattle.std.proofs.Common.{◌≡◌, ℕ, ◌<◌, length}
use Rattle.reed_solomon_theory.specs.Code.{check}
use Rattle.reed_solomon.specs.Words.{at}
use Rattle.reed_solomon.proofs.checks.add_word.Given as goal

abbrev pub invariant-loop-seat : goal.invariant-loop-seat
invariant-loop-seat g l = (j : ℕ) → j < length l.initial.sums → at l.sums j ≡ check (g.F.Field.model l.field) l.seat (at l.word) j
