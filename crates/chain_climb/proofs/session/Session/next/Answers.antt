use Rattle.std.proofs.Common.{arith}
use Rattle.std.proofs.lemmas.Result.{IfOk-weaker}
use Rattle.chain_climb.proofs.SessionLaws.{says-bounded, says-complete, says-found, says-new, says-next, says-stays, says-want}
use Rattle.chain_climb.proofs.session.Session.next.Goals as goal

pub returns-clause-want : goal.returns-clause-want
returns-clause-want c = IfOk-weaker _ _ _ (says-want c.self.inside.state c.self.invariant c.args.self.now c.self.view_is) c.next.ensures.next

pub returns-clause-next : goal.returns-clause-next
returns-clause-next c = IfOk-weaker _ _ _ (says-next c.self.inside.state c.self.invariant c.args.self.now c.self.view_is) c.next.ensures.next

pub returns-clause-stays : goal.returns-clause-stays
returns-clause-stays c = IfOk-weaker _ _ _ (says-stays c.self.inside.state c.self.invariant c.args.self.now c.self.view_is) c.next.ensures.next

pub returns-clause-new : goal.returns-clause-new
returns-clause-new c = IfOk-weaker _ _ _ (says-new c.self.inside.state c.self.invariant c.args.self.now c.self.view_is) c.next.ensures.next

pub returns-clause-found : goal.returns-clause-found
returns-clause-found c = IfOk-weaker _ _ _ (says-found c.self.inside.state c.self.invariant c.args.self.now c.self.view_is) c.next.ensures.next

pub returns-clause-complete : goal.returns-clause-complete
returns-clause-complete c = IfOk-weaker _ _ _ (says-complete c.self.inside.state c.self.invariant c.args.self.now c.self.view_is) c.next.ensures.next

pub returns-clause-bounded : goal.returns-clause-bounded
returns-clause-bounded c = IfOk-weaker _ _ _ (λ want next. says-bounded c.self.inside.state c.self.invariant c.args.self.now c.self.view_is) c.next.ensures.next
