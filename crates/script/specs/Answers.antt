-- What each call answers.
use Rattle.std.specs.Prelude.{◌≡◌, ℕ, cond, Some, None, Ok, Err, Option, Result, option_map}
use Rattle.std.specs.Result.{MatchResult}
use Rattle.field.specs.Model.{FieldModel, inverse}
use Rattle.field.specs.Defined.{listed, defined_field}
use Rattle.refusal.specs.declared.Refusal.{Refusal}
use Rattle.refusal.specs.declared.Refusal.TheVariants.{FieldOrder}
use Rattle.geometry.specs.Model.{GeometryModel, edges, edge_at, point_of}
use Rattle.geometry.specs.Limits.{standing}
use Rattle.any_geometry.specs.declared.Kind.{Kind}
use Rattle.any_geometry.specs.Kinds.{Projects, kind_over}
use Rattle.script.specs.declared.answer.Sizes.{Sizes}
use Rattle.script.specs.declared.answer.Value.{Value}
use Rattle.script.specs.declared.answer.Value.TheVariants.{Number, Pair, Sizes as AllSizes}
use Rattle.script.specs.declared.answer.Failure.{Failure}
use Rattle.script.specs.declared.answer.Failure.TheVariants.{Refused, Unreadable}
use Rattle.script.specs.declared.call.Operation.{Operation}
use Rattle.script.specs.declared.call.Operation.TheVariants.{Sum, Negative, Product, Inverse}
use Rattle.script.specs.declared.call.Question.{Question}
use Rattle.script.specs.declared.call.Question.TheVariants.{Size, Edge, PointSeat, Join}
use Rattle.script.specs.declared.call.Call.{Call}
use Rattle.script.specs.declared.call.Call.TheVariants.{Field, Geometry}

-- what a field answers
abbrev pub worked_out : FieldModel → Operation → Option Value
worked_out f (Sum a b) = Some (Number (f.sum a b))
worked_out f (Negative a) = Some (Number (f.neg a))
worked_out f (Product a b) = Some (Number (f.prod a b))
worked_out f (Inverse a) = option_map Number (inverse f a)

-- the field of an order answers; an order that is not listed is refused
abbrev pub field_answer : ℕ → Operation → Result (Option Value) Refusal
field_answer order operation = cond (listed order) (Ok (worked_out (defined_field order) operation)) (Err FieldOrder)

abbrev pub sizes_of : GeometryModel → Sizes
sizes_of g = record {
  points = g.points;
  lines = g.lines;
  point_degree = g.point_degree;
  line_degree = g.line_degree;
  edges = edges g;
}

-- what a geometry answers; a projection answers the joining pair, or absent if there is none
abbrev pub Asked : Kind → GeometryModel → Question → Option Value → Type 0
Asked kind g Size r = r ≡ Some (AllSizes (sizes_of g))
Asked kind g (Edge p i) r = r ≡ option_map Number (edge_at g p i)
Asked kind g (PointSeat e) r = r ≡ option_map Pair (point_of g e)
Asked kind g (Join l p) r = (found : Option (ℕ × ℕ)) × Projects kind g l p found × (r ≡ option_map Pair found)

-- a geometry that stands is asked, and another is refused
abbrev pub AskedIf : Result (Unit {0}) Refusal → Kind → GeometryModel → Question → Result (Option Value) Refusal → Type 0
AskedIf (Ok u) kind g question r = MatchResult r (Asked kind g question) (λ _. ⊥)
AskedIf (Err e) kind g question r = r ≡ Err e

-- the geometry of a kind over the field of an order answers
abbrev pub GeometryAnswers : Kind → ℕ → Question → Result (Option Value) Refusal → Type 0
GeometryAnswers kind order question r =
    AskedIf (standing (kind_over kind (defined_field order))) kind (kind_over kind (defined_field order)) question r

-- what is answered to a call
abbrev pub CallAnswers : Call → Result (Option Value) Refusal → Type 0
CallAnswers (Field order operation) r = r ≡ field_answer order operation
CallAnswers (Geometry kind order question) r = GeometryAnswers kind order question r

-- what is answered to a line: to a call its answer, and a line that cannot be read as a call is unreadable
abbrev pub Answers : Option Call → Result (Option Value) Failure → Type 0
Answers (Some call) (Ok found) = CallAnswers call (Ok found)
Answers (Some call) (Err (Refused refusal)) = CallAnswers call (Err refusal)
Answers (Some call) (Err Unreadable) = ⊥
Answers None r = r ≡ Err Unreadable
