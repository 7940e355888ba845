use Rattle.std.proofs.Common.{◌≡◌, drop}
use Rattle.config_warnings.specs.Twice.{scanned, start}
use Rattle.config_warnings.proofs.scan.scanned.Given as goal

abbrev pub invariant-loop-byte : goal.invariant-loop-byte
invariant-loop-byte l = scanned start l.text ≡ scanned l.scan (drop l.byte-index l.text)
