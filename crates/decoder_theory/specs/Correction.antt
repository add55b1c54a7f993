-- A run on a word with few heavy lines.
use Rattle.std.specs.Prelude.{◌≡◌, ℕ, suc, ◌+◌, ◌<◌, ◌≤◌, List, length, Some}
use Rattle.refusal.specs.declared.Verdict.TheVariants.{Clean}
use Rattle.graph_code.specs.Model.{GraphModel, GraphLaws, symbols}
use Rattle.graph_code.specs.Sides.{side, other}
use Rattle.graph_code.specs.Words.{CodeWord}
use Rattle.graph_code.specs.Rounds.{turn_after, rounds}
use Rattle.decoder_theory.specs.Machine.{run}
use Rattle.decoder_theory.specs.Bounds.{wrong, heavy_lines, bound, BothShrink}

-- after i half rounds on w, how many vertices of the side decoded last are wrong
abbrev pub wrong_after : GraphModel → List ℕ → List ℕ → ℕ → ℕ
wrong_after k c w i = wrong (side k (other (turn_after i))) c (rounds k i w)

-- n half rounds on w are at most g + 1; each after the first leaves fewer vertices wrong than the one before; the last, if there is one, leaves none
pub record Descends (k : GraphModel) (c w : List ℕ) (g n : ℕ) : Type 0 where
  pub few : n ≤ g + 1
  pub falls : (i : ℕ) → 1 ≤ i → i < n → wrong_after k c w (suc i) < wrong_after k c w i
  pub none_left : 1 ≤ n → wrong_after k c w n ≡ 0

-- the run on w is clean and ends at c, which is the word after the half rounds that it made
pub record Corrected (k : GraphModel) (budget : ℕ) (c w : List ℕ) : Type 0 where
  pub clean : (run k budget w).0.verdict ≡ Some Clean
  pub word : (run k budget w).1 ≡ c
  pub by_rounds : rounds k (run k budget w).0.made w ≡ c
  pub descent : Descends k c w (heavy_lines k c w) (run k budget w).0.made

-- where the counting fact holds up to b, a word of the code with at most b heavy lines is put right
abbrev pub Corrects : Type 0
Corrects = (k : GraphModel) → GraphLaws k → (b budget : ℕ) → BothShrink k b → (c w : List ℕ) → CodeWord k c → length w ≡ symbols k
    → heavy_lines k c w ≤ b → b + 1 ≤ budget → Corrected k budget c w

-- so it is up to the bound of the code
abbrev pub CorrectsToBound : Type 0
CorrectsToBound = (k : GraphModel) → GraphLaws k → (budget : ℕ) (c w : List ℕ) → CodeWord k c → length w ≡ symbols k
    → heavy_lines k c w ≤ bound k → bound k + 1 ≤ budget → Corrected k budget c w
