-- The laws of the component codes. Numbers outside the limits mean no code, which keeps the laws too.
use Rattle.std.specs.Prelude.{ℕ}
use Rattle.field.specs.Model.{FieldModel}
use Rattle.field.specs.Laws.{FieldLaws}
use Rattle.component.specs.Model.{CodeLaws}
use Rattle.reed_solomon.specs.Model.{reed_solomon}
use Rattle.bch.specs.Bch.{bch}

-- the Reed-Solomon code of n symbols and r checks over any field
abbrev pub ReedSolomonIsLawful : Type 0
ReedSolomonIsLawful = (f : FieldModel) → FieldLaws f → (n r : ℕ) → CodeLaws (reed_solomon f n r)

-- the extended binary BCH code of n symbols and radius t
abbrev pub BchIsLawful : Type 0
BchIsLawful = (n t : ℕ) → CodeLaws (bch n t)
