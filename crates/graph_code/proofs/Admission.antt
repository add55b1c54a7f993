-- What an admitted word is.
use Rattle.std.proofs.Common.{◌≡◌, ℕ, ◌<◌, ◌≤◌, ◌&&◌, eqb, leb, List, length, get_or, Ok, refl}
use Rattle.std.proofs.lemmas.Bool.{and_parts, eqb-true, leb-true}
use Rattle.std.specs.Result.{result_and}
use Rattle.refusal.specs.declared.Refusal.TheVariants.{FieldOrder, GeometrySize, CodeLimits, CodesMismatch}
use Rattle.geometry.specs.Limits.{fits}
use Rattle.component.specs.Checks.{unless}
use Rattle.component.proofs.Words.{unless_true, both_pass, word_stands, stands_from}
use Rattle.graph_code.specs.Model.{GraphModel, symbols, symbol_order}
use Rattle.graph_code.specs.Checks.{fields_listed, codes_fit, codes_match, standing, word_standing, admitted}

-- what is known of a graph code that stands
pub record Stands (k : GraphModel) : Type 0 where
  pub small : symbols k ≤ 5000
  pub point_size : k.point_code.size ≡ k.geometry.point_degree
  pub line_size : k.line_code.size ≡ k.geometry.line_degree
  pub one_order : k.point_code.field.order ≡ k.line_code.field.order

pub stands : (k : GraphModel) → standing k ≡ Ok tt → Stands k
unfolding standing
stands k h =
    let a = both_pass (unless (fields_listed k) FieldOrder) (result_and (unless (fits k.geometry) GeometrySize) (result_and (unless (codes_fit k) CodeLimits) (unless (codes_match k) CodesMismatch))) tt h in
    let b = both_pass (unless (fits k.geometry) GeometrySize) (result_and (unless (codes_fit k) CodeLimits) (unless (codes_match k) CodesMismatch)) tt a.1 in
    let c = both_pass (unless (codes_fit k) CodeLimits) (unless (codes_match k) CodesMismatch) tt b.1 in
    let fit = and_parts (leb k.geometry.order 16) (leb (symbols k) 5000) (unless_true (fits k.geometry) GeometrySize b.0) in
    let m = and_parts (eqb k.point_code.size k.geometry.point_degree)
    (eqb k.line_code.size k.geometry.line_degree && eqb k.point_code.field.order k.line_code.field.order)
    (unless_true (codes_match k) CodesMismatch c.1) in
    let n = and_parts (eqb k.line_code.size k.geometry.line_degree) (eqb k.point_code.field.order k.line_code.field.order) m.1 in
    record {
      small = leb-true (symbols k) 5000 fit.1;
      point_size = eqb-true k.point_code.size k.geometry.point_degree m.0;
      line_size = eqb-true k.line_code.size k.geometry.line_degree n.0;
      one_order = eqb-true k.point_code.field.order k.line_code.field.order n.1;
    }

-- what is known of a word that the checks let pass
pub record Admitted (k : GraphModel) (w : List ℕ) : Type 0 where
  pub code_stands : standing k ≡ Ok tt
  pub size : length w ≡ symbols k
  pub codes : (e : ℕ) → e < symbols k → get_or w e 0 < symbol_order k

pub admits : (k : GraphModel) (w : List ℕ) → admitted k w ≡ Ok tt → Admitted k w
admits k w h =
    let a = both_pass (standing k) (word_standing k w) tt h in
    let b = word_stands (symbol_order k) (symbols k) w a.1 in
    record { code_stands = a.0; size = b.0; codes = b.1 }

pub admitted_from : (k : GraphModel) (w : List ℕ) → Admitted k w → admitted k w ≡ Ok tt
admitted_from k w a = rw (a.code_stands, stands_from (symbol_order k) (symbols k) w a.size a.codes) refl
