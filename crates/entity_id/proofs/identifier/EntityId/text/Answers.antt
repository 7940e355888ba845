use Rattle.std.proofs.lemmas.Str.{IsUtf8-from_ascii}
use Rattle.entity_id.proofs.Identifying.{IsAscii-plain}
use Rattle.entity_id.proofs.identifier.EntityId.text.Goals as goal

pub returns-clause-utf8 : goal.returns-clause-utf8
returns-clause-utf8 c = rw c.as_slice.ensures (IsUtf8-from_ascii _ (IsAscii-plain _ c.self.invariant.0.plain))
