-- Two different lines share at most one point, since two different points share at most one line.
use native.Mathlib.Decide.{ℕ_discrete}
use Rattle.geometry.specs.Model.{GeometryModel}
use Rattle.geometry.specs.Incidence.{OneLine, OnePoint}

pub dual : (g : GeometryModel) → OneLine g → OnePoint g
dual g one l l' p p' n a b c d = elim (ℕ_discrete p p') [ yes e ↦ e | no m ↦ absurd (n (one p p' l l' m a c b d)) ]
