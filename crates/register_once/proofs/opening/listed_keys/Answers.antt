use Rattle.std.proofs.Common.{Some, None, ap, ◌∙◌}
use Rattle.jwk_set.specs.declared.set.JwkSet.{JwkSet}
use Rattle.register_once.proofs.AnchorKeyLaws.{booked-found}
use Rattle.register_once.proofs.opening.listed_keys.Goals as goal

pub returns-in_ok-copy-in-Some : goal.returns-in_ok-copy-in-Some
returns-in_ok-copy-in-Some c =
    ap (λ (set : JwkSet). Some set.keys) c.in_ok-copy-in-Some.ensures ∙ booked-found c.args.anchor.now c.args.anchors.now (Some c.in-Some.listed.now) c.in-Some.ensures

pub returns-in-None : goal.returns-in-None
returns-in-None c = booked-found c.args.anchor.now c.args.anchors.now None c.in-None.ensures
