use Rattle.key_ring.proofs.MemberLaws.{plain-added}
use Rattle.key_ring.proofs.sets.add_plain.Goals as goal

pub returns : goal.returns
returns c =
    plain-added c.add_text-4.result c.args.members.now c.add_text.new.members c.add_number.new.members c.add_text-2.new.members c.add_text-3.new.members c.add_text-4.new.members
    c.args.alg _ _ c.args.kid.now c.args.exp _ c.args.public.now c.in_ok-add_text.ensures c.in_ok-add_number.ensures c.in_ok-add_text-2.ensures c.in_ok-add_text-3.ensures
    c.algorithm_name.ensures.name c.as_slice.ensures c.encode_32.ensures c.add_text-4.ensures
