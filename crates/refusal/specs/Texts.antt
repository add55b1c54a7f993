-- What a refusal, and what it carries, is called where people read it.
use Rattle.std.specs.Prelude.{ℕ, List, ◌++◌, codes, decimal}
use Rattle.refusal.specs.declared.Vertex.{Vertex}
use Rattle.refusal.specs.declared.Vertex.TheVariants.{Point, Line}
use Rattle.refusal.specs.declared.Verdict.{Verdict}
use Rattle.refusal.specs.declared.Verdict.TheVariants.{Clean, Stuck, Spent}
use Rattle.refusal.specs.declared.Report.{Report}
use Rattle.refusal.specs.declared.Refusal.{Refusal}
use Rattle.refusal.specs.declared.Refusal.TheVariants.{FieldOrder, GeometrySize, CodeLimits, CodesMismatch, BlockCount, Budget, NoSuchBlock, NoSuchCell, VacantBlock, BufferLength, NotACode, FailsAt, Stuck as GotStuck, Spent as SpentBudget, NotReduced, NoDataPlace, DataLength, AnotherCodesTable}

abbrev pub vertex_text : Vertex → List ℕ
vertex_text (Point n) = codes "point " ++ decimal n
vertex_text (Line n) = codes "line " ++ decimal n

abbrev pub verdict_text : Verdict → List ℕ
verdict_text Clean = codes "clean"
verdict_text (Stuck v) = codes "stuck at " ++ vertex_text v
verdict_text (Spent v) = codes "spent at " ++ vertex_text v

abbrev pub report_text : Report → List ℕ
report_text r =
    verdict_text r.verdict ++ (codes " (half rounds: " ++ (decimal r.half_rounds
    ++ (codes ", lines that refused: " ++ (decimal r.lines_refused
    ++ (codes ", points that refused: " ++ (decimal r.points_refused ++ codes ")"))))))

abbrev pub refusal_text : Refusal → List ℕ
refusal_text FieldOrder = codes "the order of the field is not listed"
refusal_text GeometrySize = codes "the geometry has an order above 16, or more than 5,000 edges"
refusal_text CodeLimits = codes "the numbers of the component code are outside its limits"
refusal_text CodesMismatch = codes "the codes do not fit the degrees, or their fields differ"
refusal_text BlockCount = codes "the blocks are not 1 to 64, or do not fill the medium"
refusal_text Budget = codes "the budget is above 1,000, or too small to format with"
refusal_text (NoSuchBlock block) = codes "block " ++ decimal block ++ codes " is beyond the last"
refusal_text (NoSuchCell cell layers) = codes "cell " ++ (decimal cell ++ (codes " is beyond the last; the refusal passed " ++ (decimal layers ++ codes " layers")))
refusal_text VacantBlock = codes "the block holds no word"
refusal_text BufferLength = codes "a buffer has the wrong length"
refusal_text (NotACode place) = codes "the symbol at place " ++ decimal place ++ codes " is no code of the field"
refusal_text (FailsAt vertex) = codes "the word fails at " ++ vertex_text vertex
refusal_text (GotStuck report) = codes "the decoder got stuck: " ++ report_text report
refusal_text (SpentBudget report) = codes "the decoder used up its budget: " ++ report_text report
refusal_text NotReduced = codes "the table is not reduced, or holds a byte that is no code"
refusal_text NoDataPlace = codes "the code leaves no place for data"
refusal_text DataLength = codes "the data are not as many as the data places"
refusal_text AnotherCodesTable = codes "the table belongs to another code"
