use Rattle.trust_mark.proofs.StatusLaws.{three-added}
use Rattle.trust_mark.proofs.status.add_texts.Goals as goal

pub returns : goal.returns
returns c =
    three-added c.add_text-3.result c.args.members.now c.add_text.new.members c.add_text-2.new.members c.add_text-3.new.members _ _ _
    c.in_ok-add_text.ensures c.in_ok-add_text-2.ensures c.add_text-3.ensures
