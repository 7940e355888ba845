use Rattle.std.proofs.Common.{◌≡◌, ◌++◌, take, flat_map}
use Rattle.cli_show.specs.Indented.{inset_byte}
use Rattle.cli_show.proofs.indented.append_inset.Given as goal

abbrev pub invariant-loop-byte : goal.invariant-loop-byte
invariant-loop-byte l = l.text ≡ l.initial.text ++ flat_map (inset_byte l.margin) (take l.byte-index l.bytes)
