use Rattle.std.proofs.Common.{[], refl, sym, ◌∙◌, ◌∷◌}
use Rattle.chain_climb.specs.Sessions.{is_call, is_fault}
use Rattle.chain_climb.proofs.GiveLaws.{call-left, counted-if, fault-left, new-flag, page-taken, page_arm-known, page_arm-ready, same-session, shrunk}
use Rattle.chain_climb.proofs.state.State.take_page.Goals as goal

pub go_on-requires-clause-known : goal.go_on-requires-clause-known
go_on-requires-clause-known c = page_arm-known c.args.self.now c.requires.standing c.args.page c.push.new.self c.as_slice-3.result.now c.in_ok-push.ensures.ok c.as_slice-3.ensures

pub go_on-requires-clause-ready : goal.go_on-requires-clause-ready
go_on-requires-clause-ready c = page_arm-ready c.args.self.now c.requires.standing c.args.page c.push.new.self c.as_slice-3.result.now c.in_ok-push.ensures.ok c.as_slice-3.ensures c.requires.waits

pub counted-self-requires : goal.counted-self-requires
counted-self-requires c =
    λ is. call-left c.args.self.now c.requires.standing c.args.page c.requires.waits c.requires.fits
    (sym (new-flag c.args.self.now.pages _ c.args.page.url _ _ _ (is_call c.args.page.answer) _ c.asked-known.ensures c.as_slice.ensures c.as_slice-2.ensures c.called.ensures c.is_new-call.ensures) ∙ is)

pub counted-self-requires-in-Ok : goal.counted-self-requires-in-Ok
counted-self-requires-in-Ok c =
    λ is. fault-left c.args.self.now c.requires.standing c.args.page c.requires.waits c.requires.fits
    (sym (new-flag c.args.self.now.pages _ c.args.page.url _ _ _ (is_fault c.args.page.answer) _ c.asked-known.ensures c.as_slice.ensures c.as_slice-2.ensures c.failed.ensures c.is_new-fault.ensures) ∙ is)

pub returns-in-Ok-clause-ok : goal.returns-in-Ok-clause-ok
returns-in-Ok-clause-ok c =
    page-taken c.args.self.now c.requires.standing c.args.page c.requires.waits c.requires.fits c.push.new.self c.go_on.new.queue c.in-Ok.place _ _ c.in_ok-push.ensures.ok c.requires.new
    (rw c.as_slice-3.ensures at c.in-Ok.ensures.resumed)
    (counted-if _ _ c.args.self.now.calls _
    (new-flag c.args.self.now.pages _ c.args.page.url _ _ _ (is_call c.args.page.answer) _ c.asked-known.ensures c.as_slice.ensures c.as_slice-2.ensures c.called.ensures c.is_new-call.ensures) c.counted-self.ensures)
    (counted-if _ _ c.args.self.now.faults _
    (new-flag c.args.self.now.pages _ c.args.page.url _ _ _ (is_fault c.args.page.answer) _ c.asked-known.ensures c.as_slice.ensures c.as_slice-2.ensures c.failed.ensures c.is_new-fault.ensures) c.counted-self-in-Ok.ensures)

pub returns-in-Err-clause-err : goal.returns-in-Err-clause-err
returns-in-Err-clause-err c =
    same-session c.args.self.now c.shrink-in-Err.new.items c.args.self.now.verdicts c.shrink.new.items
    (shrunk c.args.self.now.pages c.push.new.self c.shrink-in-Err.new.items c.len-answered.result (c.args.page ∷ [], c.in_ok-push.ensures.ok) c.len-answered.ensures c.shrink-in-Err.ensures) refl
    (shrunk c.args.self.now.queue c.go_on.new.queue c.shrink.new.items c.len-count.result c.in-Err.ensures.grows c.len-count.ensures c.shrink.ensures)
