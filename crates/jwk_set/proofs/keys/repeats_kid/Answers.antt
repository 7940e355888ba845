use Rattle.std.proofs.Common.{sym}
use Rattle.jwk_set.proofs.Names.{repeats_kid-nameless}
use Rattle.jwk_set.proofs.keys.repeats_kid.Goals as goal

pub returns-in-None : goal.returns-in-None
returns-in-None c = sym (repeats_kid-nameless c.args.keys.now c.args.key.now (sym c.in-None.ensures))
