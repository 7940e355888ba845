use Rattle.std.proofs.Common.{rules}
use Rattle.http_messages.proofs.heads.begins_blank.Goals as goal

pub returns : goal.returns
returns c = search rules
