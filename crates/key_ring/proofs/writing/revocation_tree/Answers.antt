use Rattle.std.proofs.Common.{ap, codes, refl}
use Rattle.fed_json.specs.Members.{text_member}
use Rattle.key_ring.proofs.RingForms.{revocation-made}
use Rattle.key_ring.proofs.writing.revocation_tree.Goals as goal

pub returns : goal.returns
returns c =
    revocation-made c.new-members.result c.add_text.new.members c.add_number.new.members _ _ c.args.at c.args.reason
    c.new-members.ensures c.in_ok-add_text.ensures c.in_ok-add_number.ensures (ap (text_member (codes "reason")) c.word.ensures) refl
