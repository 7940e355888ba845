use Rattle.std.proofs.Common.{◌<◌, ◌∙◌, ◌∷◌, ap, ap₂, arith, length, sym}
use Rattle.key_ring.specs.Rings.{has_key, most_keys}
use Rattle.key_ring.proofs.ChangeLaws.{add-ring}
use Rattle.key_ring.proofs.ring.KeyRing.rotate.Goals as goal

pub keep-requires : goal.keep-requires
keep-requires g c =
    let order : c.args.at < c.args.exp = omega arith in
    let room : length c.self.inside.keys < most_keys = omega arith in
    let new = c.in_ok-held.ensures in
    add-ring c.self.inside.keys c.args.alg c.args.seeds.now c.args.at c.args.exp c.fresh_key.result c.in_ok-held.held c.in_ok-held.kid c.in_ok-changed.changed c.self.invariant order c.requires room
    c.fresh_key.ensures.is c.fresh_key.ensures.formed new.0 new.1
    (ap₂ has_key (sym c.as_slice-2.ensures) (sym c.as_slice.ensures) ∙ sym c.has_key.ensures ∙ c.if-has_key.false)
    (c.in_ok-changed.ensures ∙ ap (λ ks. c.in_ok-held.held ∷ ks) c.as_slice-3.ensures)
