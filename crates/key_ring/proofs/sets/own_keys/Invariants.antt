use Rattle.std.proofs.Common.{◌≡◌, filter, map, take}
use Rattle.key_ring.specs.Sets.{is_published, own_key}
use Rattle.key_ring.proofs.sets.own_keys.Given as goal

abbrev pub invariant-loop-held : goal.invariant-loop-held
invariant-loop-held l = l.own ≡ map own_key (filter (λ key. is_published l.retired key.state) (take l.held-index l.keys))
