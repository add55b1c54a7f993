use Rattle.std.proofs.Common.{sym, ap, ◌∙◌, bit_xor}
use Rattle.component.specs.Calls.{how_decoded}
use Rattle.bch.specs.Columns.{column}
use Rattle.bch.proofs.Decoder.{settle_two}
use Rattle.bch.proofs.BchComponentCode.settle.Goals as goal

pub returns-clause-answer : goal.returns-clause-answer
returns-clause-answer c =
    let code = c.args.self.now in
    let last = c.in-Some-pair_with.last in
    let p = c.in-Some-pair_with.ensures.found in
    let sum = p.2 ∙ ap (λ s. bit_xor s (column code.radius last)) c.syndrome-sum.ensures in
    sym (ap how_decoded (settle_two code.size code.radius c.args.word.now c.requires c.in-Some-pair_with.first last c.if-self-ne2.false p.0 p.1 sum))
