-- How answers are written.
use Rattle.std.specs.Prelude.{ℕ, List, [], ◌++◌, Some, None, Ok, Err, Option, Result, codes, decimal}
use Rattle.refusal.specs.declared.Refusal.{Refusal}
use Rattle.refusal.specs.declared.Refusal.TheVariants.{NoSuchBlock, NoSuchCell, NotACode}
use Rattle.refusal.specs.Numbers.{number}
use Rattle.script.specs.declared.answer.Sizes.{Sizes}
use Rattle.script.specs.declared.answer.Value.{Value}
use Rattle.script.specs.declared.answer.Value.TheVariants.{Number, Pair, Sizes as AllSizes}
use Rattle.script.specs.declared.answer.Failure.{Failure}
use Rattle.script.specs.declared.answer.Failure.TheVariants.{Refused, Unreadable}

abbrev pub sizes_text : Sizes → List ℕ
sizes_text s =
    decimal s.points ++ (codes " " ++ (decimal s.lines ++ (codes " " ++ (decimal s.point_degree
    ++ (codes " " ++ (decimal s.line_degree ++ (codes " " ++ decimal s.edges)))))))

abbrev pub value_text : Value → List ℕ
value_text (Number n) = decimal n
value_text (Pair p) = decimal p.0 ++ codes " " ++ decimal p.1
value_text (AllSizes sizes) = sizes_text sizes

-- what a refusal carries, after its number
abbrev pub carried_text : Refusal → List ℕ
carried_text (NoSuchBlock block) = codes " block " ++ decimal block
carried_text (NoSuchCell cell layers) = codes " cell " ++ (decimal cell ++ (codes " layers " ++ decimal layers))
carried_text (NotACode place) = codes " place " ++ decimal place
carried_text _ = []

abbrev pub failure_text : Failure → List ℕ
failure_text Unreadable = codes "unreadable"
failure_text (Refused refusal) = codes "no " ++ decimal (number refusal) ++ carried_text refusal

-- an answer: what was found, which may be nothing, or why there is none
abbrev pub answer_text : Result (Option Value) Failure → List ℕ
answer_text (Ok (Some value)) = value_text value
answer_text (Ok None) = codes "absent"
answer_text (Err failure) = failure_text failure
