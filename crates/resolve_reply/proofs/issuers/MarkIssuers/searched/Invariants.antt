use Rattle.std.proofs.Common.{◌≡◌, drop}
use Rattle.std.specs.List.{filter_map}
use Rattle.entity_statement.specs.Forms.{once, once_after}
use Rattle.resolve_reply.proofs.issuers.MarkIssuers.searched.Given as goal

abbrev pub invariant-loop-issuer : goal.invariant-loop-issuer
invariant-loop-issuer l =
    once (filter_map (λ issuer. issuer) l.self.by_mark) ≡ once_after l.searched (filter_map (λ issuer. issuer) (drop l.issuer-index l.self.by_mark))
