-- The distance between words.
use Rattle.std.specs.Prelude.{ℕ, ◌≤◌, ◌≢◌, List}
use Rattle.ranges.specs.Ranges.{differ}
use Rattle.graph_code.specs.Model.{GraphModel, GraphLaws, symbols}
use Rattle.graph_code.specs.Words.{CodeWord}
use Rattle.decoder_theory.specs.Bounds.{spacing}

-- two different words that pass everywhere differ in at least as many symbols as the spacing of the code
abbrev pub FarApart : GraphModel → Type 0
FarApart k = (c w : List ℕ) → CodeWord k c → CodeWord k w → c ≢ w → spacing k ≤ differ (symbols k) c w

-- so it is in every graph code of lawful parts
abbrev pub WordsApart : Type 0
WordsApart = (k : GraphModel) → GraphLaws k → FarApart k
