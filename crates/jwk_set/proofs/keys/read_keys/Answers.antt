use Rattle.std.proofs.Common.{sym, ap, ◌∙◌}
use Rattle.jwk_set.specs.KeySets.{repeats_kid}
use Rattle.jwk_set.proofs.Sets.{gathered_none, gathered_shape, gathered_double, gathered_more, gathered_all}
use Rattle.jwk_set.proofs.keys.read_keys.Goals as goal

pub loop-member-init : goal.loop-member-init
loop-member-init c = gathered_none c.new-keys.result c.args.members.now c.new-keys.ensures

pub returns-in_default-clause-exact : goal.returns-in_default-clause-exact
returns-in_default-clause-exact c =
    gathered_shape c.loop-member.keys c.args.members.now c.loop-member.member-index c.len-place.result c.member-item.result c.in_ok-key.field-0
    c.loop-member.invariant c.loop-member-test.true c.member-item.is c.in_ok-key.ensures.exact c.in_default.is c.len-place.ensures

pub returns-then-repeats_kid-clause-exact : goal.returns-then-repeats_kid-clause-exact
returns-then-repeats_kid-clause-exact c =
    gathered_double c.loop-member.keys c.args.members.now c.loop-member.member-index c.len-place.result c.member-item.result c.in_ok-key.field-0 c.in-Some.key
    c.loop-member.invariant c.loop-member-test.true c.member-item.is c.in_ok-key.ensures.exact c.in-Some.is
    (ap (λ ks. repeats_kid ks c.in-Some.key) (sym c.as_slice.ensures) ∙ sym c.repeats_kid.ensures ∙ c.if-repeats_kid.true) c.len-place.ensures

pub loop-member-preserved : goal.loop-member-preserved
loop-member-preserved c =
    gathered_more c.loop-member.keys c.push.new.self c.args.members.now c.loop-member.member-index c.member-item.result c.in_ok-key.field-0 c.in-Some.key
    c.loop-member.invariant c.loop-member-test.true c.member-item.is c.in_ok-key.ensures.exact c.in-Some.is c.in_ok-key.ensures.formed
    (ap (λ ks. repeats_kid ks c.in-Some.key) (sym c.as_slice.ensures) ∙ sym c.repeats_kid.ensures ∙ c.if-repeats_kid.false) c.in_ok-push.ensures.ok

pub returns-clause-exact : goal.returns-clause-exact
returns-clause-exact c = gathered_all c.loop-member.keys c.args.members.now c.loop-member.member-index c.loop-member.invariant c.loop-member-test.false
