use Rattle.std.proofs.Common.{◌≡◌, drop, bytes_eq}
use Rattle.std.specs.List.{list_any}
use Rattle.resolve_round.proofs.known.has_key.Given as goal

abbrev pub invariant-loop-key : goal.invariant-loop-key
invariant-loop-key l = list_any (λ key. bytes_eq key l.public) l.keys ≡ list_any (λ key. bytes_eq key l.public) (drop l.key-index l.keys)
