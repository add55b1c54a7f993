-- Worked figures, in one table.
use Rattle.figures.specs.Fields.{FieldFigures}
use Rattle.figures.specs.Geometries.{GeometryFigures}
use Rattle.figures.specs.Codes.{CodeFigures}

pub record Figures : Type 0 where
  pub fields : FieldFigures
  pub geometries : GeometryFigures
  pub codes : CodeFigures
