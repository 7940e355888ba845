use Rattle.std.proofs.Common.{[], ◌∷◌, ◌++◌, ap₂, ◌∙◌}
use Rattle.fed_resolver.specs.Going.{first_text}
use Rattle.fed_resolver.proofs.KeptLaws.{keys-of-text}
use Rattle.fed_resolver.proofs.ResultLaws.{ok-on}
use Rattle.fed_resolver.proofs.issuers.keep_issuer.Goals as goal

pub returns : goal.returns
returns c =
    let own = c.in_ok-keys.ensures in
    ok-on c.push.result _ _ c.push.ensures.ok
    (λ are. (
      c.in_ok-keys.keys,
      are ∙ ap₂ (λ i t. c.args.found.now ++ record { id = i; keys = c.in_ok-keys.keys; text = t } ∷ []) c.in_ok-id.ensures c.in_ok-text.ensures,
      keys-of-text (first_text c.args.chain.now) own.0 c.in_ok-keys.keys own.1 own.2,
    ))
