use Rattle.std.proofs.Common.{subst, sym}
use Rattle.std.specs.Str.{IsUtf8}
use Rattle.std.proofs.lemmas.Str.{is_utf8-from_IsUtf8}
use Rattle.jwk_set.proofs.WrittenKeys.{whole_text}
use Rattle.authority_core.proofs.registry.text.Goals as goal

pub returns-clause-whole : goal.returns-clause-whole
returns-clause-whole c = whole_text c.in_ok-id.id (is_utf8-from_IsUtf8 _ (subst IsUtf8 (sym c.in_ok-id.ensures) c.text.ensures.utf8))
