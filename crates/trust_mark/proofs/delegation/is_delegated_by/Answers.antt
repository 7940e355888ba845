use Rattle.entity_statement.specs.Claims.{told_owner}
use Rattle.trust_mark.specs.Marks.{delegation_of}
use Rattle.trust_mark.proofs.CountLaws.{zero-counted}
use Rattle.trust_mark.proofs.DelegationLaws.{absent-tests, unread-tests}
use Rattle.trust_mark.proofs.ReadingLaws.{read-none, read-some}
use Rattle.trust_mark.proofs.delegation.is_delegated_by.Goals as goal

pub returns-in_default-clause-counted : goal.returns-in_default-clause-counted
returns-in_default-clause-counted g c =
    zero-counted _ _ (absent-tests c.args.mark.now c.args.t (told_owner c.args.owner.now) c.in_default.is)

pub is_good-good-requires : goal.is_good-good-requires
is_good-good-requires g c = record {
  text = c.in-Some.text;
  there = c.in-Some.is;
  read = read-some delegation_of c.in-Some.text c.as_slice.result.now c.in_ok-delegation.field-0 c.in-Some-2.delegation c.as_slice.ensures c.in-Some-2.is c.in_ok-delegation.ensures;
}

pub returns-in-None-clause-counted : goal.returns-in-None-clause-counted
returns-in-None-clause-counted g c =
    zero-counted _ _ (unread-tests c.args.mark.now c.args.t (told_owner c.args.owner.now) c.in-Some.text c.in-Some.is (read-none delegation_of c.in-Some.text c.as_slice.result.now c.in_ok-delegation.field-0 c.as_slice.ensures c.in-None.is c.in_ok-delegation.ensures))
