-- The number of each refusal.
use Rattle.std.specs.Prelude.{ℕ}
use Rattle.refusal.specs.declared.Refusal.{Refusal}
use Rattle.refusal.specs.declared.Refusal.TheVariants.{FieldOrder, GeometrySize, CodeLimits, CodesMismatch, BlockCount, Budget, NoSuchBlock, NoSuchCell, VacantBlock, BufferLength, NotACode, FailsAt, Stuck, Spent, NotReduced, NoDataPlace, DataLength, AnotherCodesTable}

abbrev pub number : Refusal → ℕ
number FieldOrder = 1
number GeometrySize = 2
number CodeLimits = 3
number CodesMismatch = 4
number BlockCount = 5
number Budget = 6
number (NoSuchBlock block) = 7
number (NoSuchCell cell layers) = 7
number VacantBlock = 8
number BufferLength = 9
number (NotACode place) = 10
number (FailsAt vertex) = 11
number (Stuck report) = 12
number (Spent report) = 13
number NotReduced = 14
number NoDataPlace = 15
number DataLength = 16
number AnotherCodesTable = 17
