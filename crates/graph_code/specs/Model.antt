-- What a graph code means: a geometry, with a component code at each point and one at each line.
use Rattle.std.specs.Prelude.{ℕ}
use Rattle.geometry.specs.Model.{GeometryModel, edges}
use Rattle.geometry.specs.Laws.{GeometryLaws}
use Rattle.component.specs.Model.{CodeModel, CodeLaws}

pub record GraphModel : Type 0 where
  pub geometry : GeometryModel
  -- the code of the symbols at a point, and that of the symbols at a line
  pub point_code : CodeModel
  pub line_code : CodeModel

-- its parts are lawful
pub record GraphLaws (k : GraphModel) : Type 0 where
  pub geometry_laws : GeometryLaws k.geometry
  pub point_laws : CodeLaws k.point_code
  pub line_laws : CodeLaws k.line_code

-- how many symbols a word has: symbol e is on edge e
abbrev pub symbols : GraphModel → ℕ
symbols k = edges k.geometry

-- the order of the field of the symbols
abbrev pub symbol_order : GraphModel → ℕ
symbol_order k = k.point_code.field.order
