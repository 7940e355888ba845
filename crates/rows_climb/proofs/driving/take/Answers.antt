use Rattle.chain_climb.specs.Wants.{next_want}
use Rattle.chain_climb.proofs.SessionLaws.{on-ok}
use Rattle.rows_climb.proofs.FollowingLaws.{fits-url, followed}
use Rattle.rows_climb.proofs.driving.take.Goals as goal

pub give-requires : goal.give-requires
give-requires c =
    fits-url c.args.session.now c.args.urls.now c.args.case.now.calls c.requires.follows (next_want c.args.session.now) c.args.url _ _ _ c.requires.wants
    c.is_among-known.ensures c.calls.ensures c.answer_of-answer.ensures

pub returns : goal.returns
returns c =
    on-ok c.push.result
    (followed c.args.session.now c.give.new.self c.args.urls.now c.push.new.self c.args.case.now.calls c.requires.follows c.args.url _ c.requires.wants
    (fits-url c.args.session.now c.args.urls.now c.args.case.now.calls c.requires.follows (next_want c.args.session.now) c.args.url _ _ _ c.requires.wants
    c.is_among-known.ensures c.calls.ensures c.answer_of-answer.ensures)
    c.in_ok-give.ensures.ok)
    c.push.ensures.ok
