-- The wrong symbols that the decoder finds.
use Rattle.std.specs.Prelude.{ℕ, ◌/◌, true, List, map}
use Rattle.field.specs.Model.{FieldModel}
use Rattle.reed_solomon_theory.specs.Code.{Below}
use Rattle.reed_solomon_theory.specs.Decode.{corrected}
use Rattle.reed_solomon_theory.specs.Promise.{Decoded}
use Rattle.reed_solomon.specs.declared.errors.SymbolError.{SymbolError}

-- their seats
abbrev pub seats_of : List SymbolError → List ℕ
seats_of es = map (λ e. e.seat) es

-- by how much each is more than the right symbol
abbrev pub values_of : List SymbolError → List ℕ
values_of es = map (λ e. e.value) es

-- taken from a word w of n symbols, they leave the code word that differs from w in at most half as many seats as there are checks, r
pub record Corrects (φ : FieldModel) (n r : ℕ) (w : ℕ → ℕ) (es : List SymbolError) : Type 0 where
  pub inside : Below n (seats_of es)
  pub mended : Decoded φ n r (r / 2) w (corrected φ (seats_of es) (values_of es) w) true
