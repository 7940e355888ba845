use Rattle.trust_mark.specs.Grammar.{IsDelegation}
use Rattle.trust_mark.proofs.GrammarLaws.{delegation-found, delegation-only}
use Rattle.trust_mark.proofs.PayloadLaws.{found_by, only_by}
use Rattle.trust_mark.proofs.mark.read_delegation.Goals as goal

pub returns-clause-found : goal.returns-clause-found
returns-clause-found c = found_by (IsDelegation c.args.compact.now) c.delegation_in_text.result _ (delegation-found c.args.compact.now) c.delegation_in_text.ensures

pub returns-clause-only : goal.returns-clause-only
returns-clause-only c = λ mark is. only_by c.delegation_in_text.result _ mark (delegation-only c.args.compact.now mark is) c.delegation_in_text.ensures
