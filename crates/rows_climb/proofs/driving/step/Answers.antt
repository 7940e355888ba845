use Rattle.chain_climb.specs.Wants.{next_want}
use Rattle.rows_climb.proofs.FollowingLaws.{fits-verdict, wants-config, wants-superior}
use Rattle.rows_climb.proofs.driving.step.Goals as goal

pub take_configuration-requires-clause-wants : goal.take_configuration-requires-clause-wants
take_configuration-requires-clause-wants c = wants-config c.in_ok-entity.field-0 (next_want c.args.session.now) c.in-Config.entity c.in-Config.url c.in_ok-entity.ensures.want c.in-Config.is

pub take_statement-requires-clause-wants : goal.take_statement-requires-clause-wants
take_statement-requires-clause-wants c =
    wants-superior c.in_ok-entity.field-0 (next_want c.args.session.now) c.in-Superior.superior c.in-Superior.subject c.in-Superior.url c.in_ok-entity.ensures.want c.in-Superior.is

pub give-requires : goal.give-requires
give-requires c =
    fits-verdict c.args.session.now c.args.urls.now c.args.case.now.calls c.requires c.in_ok-entity.field-0 c.in-Judge.path c.in_ok-answer-in-Judge.answer c.in_ok-entity.ensures.want c.in-Judge.is
    c.in_ok-answer-in-Judge.ensures
