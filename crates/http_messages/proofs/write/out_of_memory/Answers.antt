use Rattle.std.proofs.Common.{refl, codes}
use Rattle.std.specs.Fmt.{digits}
use Rattle.http_messages.specs.Responses.{head_with}
use Rattle.http_messages.proofs.write.out_of_memory.Goals as goal

pub returns : goal.returns
unfolding digits head_with
returns c = record { reason = codes "507 Insufficient Storage"; has_reason = refl; spelled = refl }
