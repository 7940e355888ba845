use Rattle.std.proofs.Common.{◌≡◌, [], None, drop}
use Rattle.node_config.specs.Addresses.{numbers_after}
use Rattle.node_config.proofs.addresses.read_numbers.Given as goal

abbrev pub invariant-loop-byte : goal.invariant-loop-byte
invariant-loop-byte l = numbers_after [] None l.text ≡ numbers_after l.done l.begun (drop l.byte-index l.text)
