use Rattle.std.proofs.Common.{refl, sym, ◌∙◌}
use Rattle.entity_statement.specs.Claims.{told_owner}
use Rattle.trust_mark.proofs.CountLaws.{zero-counted}
use Rattle.trust_mark.proofs.DelegationLaws.{answered, stray, stray-tests, tests-counted}
use Rattle.trust_mark.proofs.delegation.is_good.Goals as goal

pub returns-then-not-is_for-clause-delegated : goal.returns-then-not-is_for-clause-delegated
returns-then-not-is_for-clause-delegated g c =
    let read = c.requires.read in
    stray c.args.mark.now c.args.t (told_owner c.args.owner.now) c.requires.text c.args.delegation.now.claims c.requires.there read.0 _ refl (sym c.is_for.ensures ∙ c.if-not-is_for.true)

pub returns-then-not-is_for-clause-counted : goal.returns-then-not-is_for-clause-counted
returns-then-not-is_for-clause-counted g c =
    let read = c.requires.read in
    zero-counted _ _ (stray-tests c.args.mark.now c.args.t (told_owner c.args.owner.now) c.requires.text c.args.delegation.now.claims c.requires.there read.0 (sym c.is_for.ensures ∙ c.if-not-is_for.true))

pub is_sealed-requires : goal.is_sealed-requires
is_sealed-requires g c = let read = c.requires.read in read.2

pub returns-clause-delegated : goal.returns-clause-delegated
returns-clause-delegated g c =
    let read = c.requires.read in
    answered c.args.mark.now c.args.t (told_owner c.args.owner.now) c.requires.text c.args.delegation.now.claims c.requires.there read.0 (sym c.is_for.ensures ∙ c.if-not-is_for.false) _ read.1 c.is_sealed.result c.is_sealed.ensures.sealed

pub returns-clause-counted : goal.returns-clause-counted
returns-clause-counted g c =
    let read = c.requires.read in
    tests-counted c.args.mark.now c.args.t (told_owner c.args.owner.now) c.requires.text c.args.delegation.now.claims c.requires.there read.0 (sym c.is_for.ensures ∙ c.if-not-is_for.false) _ read.1 c.is_sealed.result _ _ c.is_sealed.ensures.counted
