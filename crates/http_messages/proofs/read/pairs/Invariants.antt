use Rattle.std.proofs.Common.{◌≡◌, ◌++◌, map}
use Rattle.form_urlencoded.specs.Parse.{pairs_left}
use Rattle.http_messages.specs.Requests.{pair_of, pairs_of}
use Rattle.http_messages.proofs.read.pairs.Given as goal

abbrev pub invariant-loop-pair : goal.invariant-loop-pair
invariant-loop-pair l = l.found ++ map pair_of (pairs_left l.pair-iterator) ≡ pairs_of l.query
