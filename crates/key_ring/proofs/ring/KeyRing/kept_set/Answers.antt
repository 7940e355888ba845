use Rattle.std.proofs.Common.{true}
use Rattle.key_ring.proofs.SetLaws.{set-form}
use Rattle.key_ring.proofs.ring.KeyRing.kept_set.Goals as goal

pub invariant_of-result : goal.invariant_of-result
invariant_of-result c =
    let form = set-form true c.self.inside.keys c.as_slice.result.now c.in_ok-keys.keys c.self.invariant c.as_slice.ensures c.in_ok-keys.ensures in
    record { few = form.few; formed = form.formed; distinct = form.distinct }
