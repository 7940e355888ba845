use Rattle.std.proofs.Common.{◌≡◌, ◌-◌, length, take}
use Rattle.std.specs.Prelude.{reverse}
use Rattle.httparse.specs.Grammar.{skip_ows}
use Rattle.http_messages.proofs.connection.skip_back.Given as goal

abbrev pub invariant-loop-at : goal.invariant-loop-at
invariant-loop-at l = skip_ows (reverse (take (length l.text - l.at) l.text)) ≡ skip_ows (reverse l.text)
