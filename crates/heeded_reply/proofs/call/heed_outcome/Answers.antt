use Rattle.std.proofs.Common.{rules, ◌≡◌, Ok, subst}
use Rattle.std.specs.Prelude.{IfOk}
use Rattle.fed_resolver.specs.Outcomes.{HasConfigs}
use Rattle.fed_resolver.specs.Told.{situation_of}
use Rattle.resolve_reply.specs.Replies.{SaysReply}
use Rattle.heeded_reply.specs.Heeding.{caller_of}
use Rattle.heeded_reply.specs.Stages.{wire_seen}
use Rattle.heeded_reply.proofs.CallLaws.{hears-some}
use Rattle.heeded_reply.proofs.HeedLaws.{heedable}
use Rattle.heeded_reply.proofs.call.heed_outcome.Goals as goal

pub heed_reply-requires-clause-heedable : goal.heed_reply-requires-clause-heedable
heed_reply-requires-clause-heedable g c = λ lives within.
    let is : c.args.outcome.now.result ≡ Ok c.in-Ok.reply = search rules in
    heedable (situation_of c.args.request.now c.args.asked.now.signer.now c.args.asked.now.moment) c.args.asked.now.signer.now c.args.outcome.now.trace c.in-Ok.reply
    (subst (λ r. IfOk r (HasConfigs (situation_of c.args.request.now c.args.asked.now.signer.now c.args.asked.now.moment) c.args.asked.now.signer.now c.args.outcome.now.trace)) is c.requires.configs)
    (subst (λ r. IfOk r (λ reply. SaysReply reply.claims)) is c.requires.says)

pub returns-in-Ok-heed_reply-clause-hears : goal.returns-in-Ok-heed_reply-clause-hears
returns-in-Ok-heed_reply-clause-hears g c =
    let is : c.args.outcome.now.result ≡ Ok c.in-Ok.reply = search rules in
    hears-some (caller_of c.args.request.now c.args.asked.now.signer.now c.args.routes c.args.asked.now.moment) c.args.outcome.now.trace
    (wire_seen g.N.Network c.args.net.now) (wire_seen g.N.Network c.heed_reply.new.net) c.in-Ok.reply c.args.outcome.now.result c.in-Ok-heed_reply.heeded is
    c.requires.chain_exp c.requires.configs c.in-Ok-heed_reply.ensures.heeds
