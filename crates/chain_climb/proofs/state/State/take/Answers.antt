use Rattle.std.proofs.Common.{refl}
use Rattle.chain_climb.proofs.SessionLaws.{config-new, on-ok, superior-new}
use Rattle.chain_climb.proofs.WantLaws.{config-given, config-waits, judge-at, superior-given, superior-waits, verdict-given}
use Rattle.chain_climb.proofs.state.State.take.Goals as goal

pub take_configuration-requires-clause-waits : goal.take_configuration-requires-clause-waits
take_configuration-requires-clause-waits c = config-waits c.args.self.now c.args.want c.in-Config.entity c.in-Config.url c.requires.want c.in-Config.is

pub take_page-requires-clause-waits : goal.take_page-requires-clause-waits
take_page-requires-clause-waits c =
    superior-waits c.args.self.now c.args.want c.in-Superior.superior c.in-Superior.subject c.in-Superior.url c.requires.want c.in-Superior.is

pub take_verdict-requires-clause-stage : goal.take_verdict-requires-clause-stage
take_verdict-requires-clause-stage c = (judge-at c.args.self.now c.requires.standing c.args.want c.in-Judge.path c.requires.want c.in-Judge.is).0

pub take_verdict-requires-clause-path : goal.take_verdict-requires-clause-path
take_verdict-requires-clause-path c = (judge-at c.args.self.now c.requires.standing c.args.want c.in-Judge.path c.requires.want c.in-Judge.is).1

pub take_configuration-requires-clause-new : goal.take_configuration-requires-clause-new
take_configuration-requires-clause-new c =
    config-new c.args.self.now c.requires.standing c.args.want c.in-Config.entity _ c.in-Config.url c.requires.next c.in-Config.is refl

pub take_page-requires-clause-new : goal.take_page-requires-clause-new
take_page-requires-clause-new c =
    superior-new c.args.self.now c.requires.standing c.args.want c.in-Superior.superior c.in-Superior.subject c.in-Superior.url c.requires.next c.in-Superior.is

pub returns-in-Config-clause-ok : goal.returns-in-Config-clause-ok
returns-in-Config-clause-ok c =
    on-ok c.take_configuration.result
    (config-given c.args.self.now c.take_configuration.new.self c.args.answer c.args.want c.in-Config.entity c.in-Config.url c.report-answer.result c.requires.want c.in-Config.is c.report-answer.ensures)
    c.take_configuration.ensures.ok

pub returns-in-Superior-clause-ok : goal.returns-in-Superior-clause-ok
returns-in-Superior-clause-ok c =
    on-ok c.take_page.result
    (superior-given c.args.self.now c.take_page.new.self c.args.answer c.args.want c.in-Superior.superior c.in-Superior.subject c.in-Superior.url c.report-answer-in-Superior.result c.requires.want c.in-Superior.is
    c.report-answer-in-Superior.ensures)
    c.take_page.ensures.ok

pub returns-in-Judge-clause-ok : goal.returns-in-Judge-clause-ok
returns-in-Judge-clause-ok c =
    on-ok c.take_verdict.result (verdict-given c.args.self.now c.take_verdict.new.self c.args.answer c.args.want c.in-Judge.path c.requires.want c.in-Judge.is) c.take_verdict.ensures.ok
