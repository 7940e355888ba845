use Rattle.jwk_set.proofs.Members.{own_formed}
use Rattle.jwk_set.proofs.jwk.read_own.Goals as goal

pub returns-clause-formed : goal.returns-clause-formed
returns-clause-formed c =
    own_formed c.in-Some-Some.kid.now c.in_ok-kid.kid c.is_empty.result (c.in-Some-Some.ensures.utf8 c.requires) c.if-is_empty.false c.is_empty.ensures.1 c.in_ok-kid.ensures
