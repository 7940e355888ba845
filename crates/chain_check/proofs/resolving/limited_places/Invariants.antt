use Rattle.std.proofs.Common.{◌≡◌, map, take}
use Rattle.chain_check.specs.Metadata.{place_of}
use Rattle.chain_check.specs.Reading.{claims_in}
use Rattle.chain_check.proofs.resolving.limited_places.Given as goal

abbrev pub invariant-loop-entry : goal.invariant-loop-entry
invariant-loop-entry l = l.places ≡ map place_of (claims_in (take l.entry-index l.below))
