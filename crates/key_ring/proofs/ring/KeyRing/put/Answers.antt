use Rattle.std.proofs.Common.{◌∙◌, ap, ap₂, map, sym}
use Rattle.std.specs.Option.{option_copied}
use Rattle.key_ring.specs.Changes.{may_follow, with_state}
use Rattle.key_ring.specs.Rings.{has_live, key_at}
use Rattle.key_ring.specs.declared.key.RingKey.{RingKey}
use Rattle.key_ring.proofs.ChangeLaws.{put-ring}
use Rattle.key_ring.proofs.ring.KeyRing.put.Goals as goal

pub keep-requires : goal.keep-requires
keep-requires g c =
    put-ring c.self.inside.keys c.args.kid.now c.args.state c.in-Some.held.now c.in_ok-changed.changed c.self.invariant c.requires
    (sym (ap₂ key_at c.as_slice-2.ensures c.as_slice.ensures) ∙ sym c.key_at.ensures ∙ ap option_copied c.in-Some.is)
    (ap (λ (k : RingKey). may_follow c.args.state k.state) (sym c.key.ensures) ∙ sym c.may_follow.ensures ∙ c.if-not-may_follow.false)
    (c.in_ok-changed.ensures ∙ ap₂ (λ kid ks. map (with_state kid c.args.state) ks) c.as_slice-4.ensures c.as_slice-3.ensures)
    (ap has_live (sym c.as_slice-5.ensures) ∙ sym c.has_live.ensures ∙ c.if-not-has_live.false)
