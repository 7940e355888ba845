use Rattle.std.proofs.Common.{◌≡◌, drop, map}
use Rattle.httparse.specs.Spans.{header_bytes}
use Rattle.http_messages.specs.Connections.{asks_close}
use Rattle.http_messages.proofs.connection.asks_close.Given as goal

abbrev pub invariant-loop-line : goal.invariant-loop-line
invariant-loop-line l = asks_close (map (header_bytes l.buf) (drop l.line-index l.lines)) ≡ asks_close (map (header_bytes l.buf) l.lines)
