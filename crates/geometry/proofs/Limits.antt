-- What is known of a geometry that is not refused.
use Rattle.std.proofs.Common.{◌≡◌, ◌≤◌, true, T, leb, Ok, sym, subst, arith}
use Rattle.std.proofs.lemmas.Bool.{leb-true, and_parts, cases_Bool}
use Rattle.field.specs.Defined.{listed}
use Rattle.geometry.specs.Model.{GeometryModel, edges}
use Rattle.geometry.specs.Limits.{standing, fits}

pub within_limits : (g : GeometryModel) → standing g ≡ Ok tt → T (listed g.order) × (g.order ≤ 16) × (edges g ≤ 5000)
within_limits g e =
    let known : listed g.order ≡ true = grind (arith, cases_Bool (listed g.order)) in
    let small : fits g ≡ true = grind (arith, cases_Bool (listed g.order), cases_Bool (fits g)) in
    let parts = and_parts (leb g.order 16) (leb (edges g) 5000) small in
    (subst T (sym known) tt, leb-true g.order 16 parts.0, leb-true (edges g) 5000 parts.1)
