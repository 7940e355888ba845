use Rattle.std.proofs.Common.{false}
use Rattle.key_ring.proofs.SetLaws.{set-form, signer-in}
use Rattle.key_ring.proofs.ring.KeyRing.live_set.Goals as goal

pub invariant_of-result : goal.invariant_of-result
invariant_of-result c =
    let form = set-form false c.self.inside.keys c.as_slice.result.now c.in_ok-keys.keys c.self.invariant c.as_slice.ensures c.in_ok-keys.ensures in
    record { few = form.few; formed = form.formed; distinct = form.distinct }

pub returns-clause-signer : goal.returns-clause-signer
returns-clause-signer c = signer-in c.self.inside.keys c.as_slice.result.now c.args.self.now c.in_ok-keys.keys c.as_slice.ensures c.self.view_is c.in_ok-keys.ensures
