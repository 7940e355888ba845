use Rattle.std.proofs.Common.{◌≡◌, take}
use Rattle.std.specs.List.{filter}
use Rattle.chain_limits.specs.Types.{stays}
use Rattle.chain_limits.proofs.types.those_that_stay.Given as goal

abbrev pub invariant-loop-member : goal.invariant-loop-member
invariant-loop-member l = l.kept ≡ filter (λ m. stays l.names m.name) (take l.member-index l.members)
