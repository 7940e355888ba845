use Rattle.std.proofs.Common.{[], refl, ◌∷◌}
use Rattle.chain_climb.proofs.GiveLaws.{same-session, shrunk, verdict-found, verdict-has, verdict-known, verdict-passed}
use Rattle.chain_climb.proofs.state.State.take_verdict.Goals as goal

pub go_on_behind-requires-clause-known : goal.go_on_behind-requires-clause-known
go_on_behind-requires-clause-known c = verdict-known c.args.self.now c.requires.standing c.requires.stage c.args.verdict c.requires.path c.requires.fits c.as_slice.result.now c.as_slice.ensures

pub go_on_behind-requires-clause-at : goal.go_on_behind-requires-clause-at
go_on_behind-requires-clause-at c = verdict-has c.args.self.now c.requires.standing c.requires.stage c.args.verdict c.requires.path c.requires.fits

pub returns-then-valid-clause-ok : goal.returns-then-valid-clause-ok
returns-then-valid-clause-ok c =
    verdict-found c.args.self.now c.requires.standing c.requires.stage c.args.verdict c.requires.path c.requires.fits c.push.new.self _ c.if-valid.ensures refl c.in_ok-push.ensures.ok

pub returns-in-Ok-clause-ok : goal.returns-in-Ok-clause-ok
returns-in-Ok-clause-ok c =
    verdict-passed c.args.self.now c.requires.standing c.requires.stage c.args.verdict c.requires.path c.requires.fits c.push.new.self c.go_on_behind.new.queue c.in-Ok.place _ c.if-valid.ensures refl
    c.in_ok-push.ensures.ok (rw c.as_slice.ensures at c.in-Ok.ensures.reached)

pub returns-in-Err-clause-err : goal.returns-in-Err-clause-err
returns-in-Err-clause-err c =
    same-session c.args.self.now c.args.self.now.pages c.shrink-in-Err.new.items c.shrink.new.items refl
    (shrunk c.args.self.now.verdicts c.push.new.self c.shrink-in-Err.new.items c.len-judged.result (c.args.verdict ∷ [], c.in_ok-push.ensures.ok) c.len-judged.ensures c.shrink-in-Err.ensures)
    (shrunk c.args.self.now.queue c.go_on_behind.new.queue c.shrink.new.items c.len-count.result c.in-Err.ensures.grows c.len-count.ensures c.shrink.ensures)
