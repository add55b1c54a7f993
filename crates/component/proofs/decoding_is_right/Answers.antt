use Rattle.component.proofs.Search.{decoded_near, refused_far, decoded_only}
use Rattle.component.proofs.decoding_is_right.Goals as goal

pub returns : goal.returns
returns c = record { near = decoded_near; far = refused_far; only = decoded_only }
