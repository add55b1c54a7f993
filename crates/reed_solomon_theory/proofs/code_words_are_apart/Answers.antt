use Rattle.reed_solomon_theory.proofs.code_words_are_apart.Goals as goal
use Rattle.reed_solomon_theory.proofs.Apart.{distance}
use Rattle.reed_solomon_theory.proofs.Promise.{only}

pub returns : goal.returns
returns c = record { distance = distance; only = only }
