use Rattle.std.proofs.Common.{◌≡◌, ◌++◌, take, flat_map}
use Rattle.plain_notes.specs.Strings.{shown_byte}
use Rattle.plain_notes.proofs.strings.append_shown.Given as goal

abbrev pub invariant-loop-byte : goal.invariant-loop-byte
invariant-loop-byte l = l.string ≡ l.initial.string ++ flat_map (shown_byte l.calm) (take l.byte-index l.text)
