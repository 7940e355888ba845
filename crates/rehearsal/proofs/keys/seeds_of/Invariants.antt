use Rattle.std.proofs.Common.{◌≡◌, ◌*◌, length, take}
use Rattle.rehearsal.specs.Keys.{numbers_from}
use Rattle.rehearsal.proofs.keys.seeds_of.Given as goal

abbrev pub invariant-loop-at : goal.invariant-loop-at
invariant-loop-at l = (length l.seeds ≡ 48) × (take l.at l.seeds ≡ numbers_from (48 * l.key) l.at)
