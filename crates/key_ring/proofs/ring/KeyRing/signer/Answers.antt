use Rattle.std.proofs.Common.{◌∙◌, ap, find, sym}
use Rattle.std.specs.Option.{option_copied}
use Rattle.key_ring.specs.Rings.{is_live}
use Rattle.key_ring.proofs.SetLaws.{never_silent}
use Rattle.key_ring.proofs.ring.KeyRing.signer.Goals as goal

pub unreachable-requires : goal.unreachable-requires
unreachable-requires c =
    never_silent c.self.inside.keys c.self.invariant.form.live (ap (find is_live) (sym c.as_slice.ensures) ∙ sym c.first_live.ensures ∙ ap option_copied c.in-None.is)
