use Rattle.std.proofs.Common.{◌≡◌, ◌<◌, take}
use Rattle.statement_shelf.specs.Entries.{part_of}
use Rattle.statement_shelf.proofs.commons.part_of.Given as goal

abbrev pub invariant-loop-byte : goal.invariant-loop-byte
invariant-loop-byte l = (l.part ≡ part_of (take l.byte-index l.byte-items)) × (l.part < 8)
