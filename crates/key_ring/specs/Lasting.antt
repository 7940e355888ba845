-- What lasts in a ring.
use Rattle.std.specs.Prelude.{IsTrue, Contains}
use Rattle.key_ring.specs.declared.key.RingKey.{RingKey}
use Rattle.key_ring.specs.Rings.{Ring, is_revoked}

-- each revoked key of the old ring stands in the new one, as it was
abbrev pub RevokedStay : Ring → Ring → Type 0
RevokedStay old new = (key : RingKey) → Contains old key → IsTrue (is_revoked key) → Contains new key
