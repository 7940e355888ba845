use Rattle.fed_resolver.specs.Told.{situation_of}
use Rattle.node_files.specs.ResolvingParts.{signer_of}
use Rattle.resolve_call.proofs.RoundLaws.{one-round}
use Rattle.resolve_call.proofs.laws.one_round.Goals as goal

pub returns : goal.returns
returns c = λ node resolver request before now outcome call whole.
    one-round (situation_of request (signer_of node resolver call.pair) now.clock.last) (signer_of node resolver call.pair) call.anchors outcome call.alone whole.told
