use Rattle.std.proofs.Common.{◌∙◌, ap, subst, sym}
use Rattle.chain_climb.specs.Walks.{IsStanding, search_of}
use Rattle.chain_climb.proofs.SessionLaws.{either-way, on-err, on-ok, says-fits, says-given}
use Rattle.chain_climb.proofs.session.Session.give.Goals as goal

pub give-requires-clause-fits : goal.give-requires-clause-fits
give-requires-clause-fits c = says-fits c.self.inside.state c.self.invariant c.args.self.now c.self.view_is c.args.answer c.requires

pub invariant_of-self : goal.invariant_of-self
invariant_of-self c = either-way c.give.result (λ given. given.standing) (λ same. subst IsStanding (sym same) c.self.invariant) c.give.ensures.ok c.give.ensures.err

pub returns-clause-ok : goal.returns-clause-ok
returns-clause-ok c = on-ok c.give.result (says-given c.self.inside.state c.self.invariant c.args.self.now c.self.view_is c.give.new.self c.args.answer) c.give.ensures.ok

pub returns-clause-err : goal.returns-clause-err
returns-clause-err c = on-err c.give.result (λ same. ap search_of same ∙ c.self.view_is) c.give.ensures.err
