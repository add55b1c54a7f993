-- What a call with a graph code and a word is refused with. The checks are made number by number, over all the parts at each.
use Rattle.std.specs.Prelude.{ℕ, Bool, ◌&&◌, List, Result, ◌==◌}
use Rattle.std.specs.Result.{result_and}
use Rattle.refusal.specs.declared.Refusal.{Refusal}
use Rattle.refusal.specs.declared.Refusal.TheVariants.{FieldOrder, GeometrySize, CodeLimits, CodesMismatch}
use Rattle.field.specs.Defined.{listed}
use Rattle.geometry.specs.Limits.{fits}
use Rattle.component.specs.Checks.{unless, word_standing as of_word}
use Rattle.graph_code.specs.Model.{GraphModel, symbols, symbol_order}

-- number 1: the order of each field is listed
abbrev pub fields_listed : GraphModel → Bool
fields_listed k = listed k.geometry.order && (listed k.point_code.field.order && listed k.line_code.field.order)

-- number 3: the numbers of both codes are within their limits
abbrev pub codes_fit : GraphModel → Bool
codes_fit k = k.point_code.fit && k.line_code.fit

-- number 4: each code is as long as its vertices have seats, and both have fields of one order
abbrev pub codes_match : GraphModel → Bool
codes_match k =
    (k.point_code.size == k.geometry.point_degree)
    && (k.line_code.size == k.geometry.line_degree && k.point_code.field.order == k.line_code.field.order)

-- the checks of a graph code, numbers 1 to 4
unfoldable pub standing : GraphModel → Result (Unit {0}) Refusal
standing k =
    result_and (unless (fields_listed k) FieldOrder)
    (result_and (unless (fits k.geometry) GeometrySize)
    (result_and (unless (codes_fit k) CodeLimits)
    (unless (codes_match k) CodesMismatch)))

-- the checks of a word, numbers 9 and 10
abbrev pub word_standing : GraphModel → List ℕ → Result (Unit {0}) Refusal
word_standing k w = of_word (symbol_order k) (symbols k) w

-- all of them
abbrev pub admitted : GraphModel → List ℕ → Result (Unit {0}) Refusal
admitted k w = result_and (standing k) (word_standing k w)
