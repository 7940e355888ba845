use Rattle.sealed.proofs.SealLaws.{sealed-test, tells-counted, tells-sealed}
use Rattle.sealed.proofs.testing.is_sealed.Goals as goal

pub returns-clause-sealed : goal.returns-clause-sealed
returns-clause-sealed g c = tells-sealed c.check_sealed.result c.was_sealed.result _ c.was_sealed.ensures c.check_sealed.ensures.decides

pub returns-clause-test : goal.returns-clause-test
returns-clause-test g c = sealed-test c.args.set.now.keys c.args.compact.now c.was_sealed.result c.requires (returns-clause-sealed g c)

pub returns-clause-counted : goal.returns-clause-counted
returns-clause-counted g c =
    tells-counted c.args.set.now.keys c.args.compact.now c.was_sealed.result _ _ c.requires c.check_sealed.result c.was_sealed.ensures c.check_sealed.ensures.checked c.check_sealed.ensures.counted
