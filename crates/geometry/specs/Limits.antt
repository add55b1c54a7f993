-- The limits of a geometry, and what one beyond them is refused with.
use Rattle.std.specs.Prelude.{Bool, cond, ◌&&◌, Ok, Err, Result, nat_le}
use Rattle.refusal.specs.declared.Refusal.{Refusal}
use Rattle.refusal.specs.declared.Refusal.TheVariants.{FieldOrder, GeometrySize}
use Rattle.field.specs.Defined.{listed}
use Rattle.geometry.specs.Model.{GeometryModel, edges}

-- the order of the field is at most 16, and there are at most 5,000 edges
abbrev pub fits : GeometryModel → Bool
fits g = nat_le g.order 16 && nat_le (edges g) 5000

-- a geometry is refused with number 1 if the order of its field is not listed, and then with number 2 if it does not fit
abbrev pub standing : GeometryModel → Result (Unit {0}) Refusal
standing g = cond (listed g.order) (cond (fits g) (Ok tt) (Err GeometrySize)) (Err FieldOrder)
