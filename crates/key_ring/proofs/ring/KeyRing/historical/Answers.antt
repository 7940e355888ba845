use Rattle.key_ring.proofs.SetLaws.{told_whole}
use Rattle.key_ring.proofs.ring.KeyRing.historical.Goals as goal

pub returns-clause-whole : goal.returns-clause-whole
returns-clause-whole c = told_whole c.self.inside.keys c.as_slice.result.now c.historical_keys.result c.self.invariant.form.keys c.as_slice.ensures c.historical_keys.ensures
