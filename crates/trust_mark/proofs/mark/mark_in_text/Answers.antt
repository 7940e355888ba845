use Rattle.trust_mark.specs.Claims.{mark_claims, mark_of_tree}
use Rattle.trust_mark.proofs.PayloadLaws.{gives-then}
use Rattle.trust_mark.proofs.mark.mark_in_text.Goals as goal

pub returns : goal.returns
unfolding mark_claims
returns c = gives-then c.of_claims.result _ c.in_ok-claims.claims mark_of_tree c.in_ok-claims.ensures c.of_claims.ensures
