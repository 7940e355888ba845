use Rattle.std.proofs.Common.{◌≡◌, drop}
use Rattle.plain_notes.specs.Strings.{calm_after}
use Rattle.plain_notes.proofs.strings.is_calm.Given as goal

abbrev pub invariant-loop-byte : goal.invariant-loop-byte
invariant-loop-byte l = calm_after 0 l.text ≡ calm_after l.before (drop l.byte-index l.text)
