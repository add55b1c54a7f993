-- What a call of decoding answers, and what it leaves in the buffer.
use Rattle.std.specs.Prelude.{ℕ, List, Some, None, Ok, Option, Result}
use Rattle.std.specs.Result.{result_and}
use Rattle.refusal.specs.declared.Refusal.{Refusal}
use Rattle.component.specs.declared.Decoding.{Decoding}
use Rattle.component.specs.declared.Decoding.TheVariants.{Settled, Refused}
use Rattle.component.specs.Model.{CodeModel}
use Rattle.component.specs.Decoding.{decoded, settled}
use Rattle.component.specs.Checks.{admitted, left}

abbrev pub how_decoded : Option (List ℕ) → Decoding
how_decoded (Some ys) = Settled
how_decoded None = Refused

-- what the call answers
abbrev pub decode_answer : CodeModel → List ℕ → Result Decoding Refusal
decode_answer c xs = result_and (admitted c xs) (Ok (how_decoded (decoded c xs)))

-- what it leaves in the buffer
abbrev pub decode_left : CodeModel → List ℕ → List ℕ
decode_left c xs = left (admitted c xs) xs (settled c xs)
