-- The file of a new ring, which opens as the ring of its one key.
use Rattle.std.proofs.Common.{◌≡◌, ◌+◌, ℕ, List, [], ◌∷◌, Ok, Err, refl, sym, ap, ◌∙◌}
use Rattle.fed_base.specs.declared.algorithm.Alg.TheVariants.{Small}
use Rattle.key_ring.specs.declared.fault.RingFault.{RingFault}
use Rattle.key_ring.specs.declared.fault.RingFault.TheVariants.{Shape, Known, Unknown, Order, StoreFault, Memory}
use Rattle.key_ring.specs.Changes.{fresh_key}
use Rattle.key_ring.specs.Files.{IsFirstFile, Opens, repeated_in}
use Rattle.key_ring.specs.Rings.{Ring}
use Rattle.key_ring.proofs.FileLaws.{one-ring}
use Rattle.rehearsal.specs.Keys.{ring_of, seeds_of}
use Rattle.rehearsal.specs.Moments.{lifetime, moment}

-- a new ring begins before it ends, so that only memory can be wanting for its file
pub made : (key : ℕ) (fault : RingFault) → IsFirstFile Small (seeds_of key) moment (moment + lifetime) (Err fault) → fault ≡ Memory
made key Shape is = absurd (cc is)
made key (Known kid) is = absurd (cc is)
made key (Unknown kid) is = absurd (cc is)
made key (Order why) is = absurd (cc is)
made key StoreFault is = absurd (cc is)
made key Memory is = refl

pub opened : (key : ℕ) (file : List ℕ) (ring : Ring) → IsFirstFile Small (seeds_of key) moment (moment + lifetime) (Ok file) → Opens file (Ok ring) → ring ≡ ring_of key
unfolding ring_of
opened key file ring first opens = one-ring file ring (fresh_key Small (seeds_of key) moment (moment + lifetime) ∷ []) opens.0 first.1.1.0

-- and for opening it
pub opens : (key : ℕ) (file : List ℕ) (fault : RingFault) → IsFirstFile Small (seeds_of key) moment (moment + lifetime) (Ok file) → Opens file (Err fault) → fault ≡ Memory
opens key file Shape first none = absurd (none (fresh_key Small (seeds_of key) moment (moment + lifetime) ∷ []) first.1.1.0)
opens key file (Known kid) first (ring, is, twice) =
    absurd (cc (sym (ap repeated_in (one-ring file ring (fresh_key Small (seeds_of key) moment (moment + lifetime) ∷ []) is first.1.1.0)) ∙ twice))
opens key file (Unknown kid) first none = absurd none
opens key file (Order why) first none = absurd none
opens key file StoreFault first none = absurd none
opens key file Memory first none = refl
