use Rattle.std.proofs.Common.{rules}
use Rattle.replay.proofs.Digits.{read_back}
use Rattle.replay.proofs.bytes.read_digits.Goals as goal

pub returns : goal.returns
returns c = read_back c.args.text.now c.decode_to_slice.new.out _ c.decode_to_slice.result c.map_err.result (search rules) (search rules) c.decode_to_slice.ensures.value (search rules)
