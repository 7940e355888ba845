use Rattle.std.proofs.Common.{◌<◌, arith, length, subst, sym}
use Rattle.chain_climb.specs.declared.path.Path.{Path}
use Rattle.chain_climb.proofs.NextLaws.{path-known, read-at_hand}
use Rattle.chain_climb.proofs.state.State.chain_at_hand.Goals as goal

pub with_chain-requires : goal.with_chain-requires
with_chain-requires c =
    subst (λ (p : Path). 0 < length p.entities)
    (sym (read-at_hand c.index-as_slice-self.result _ c.args.self.now.queue c.args.self.now.place.at c.index-as_slice-self.is c.as_slice.ensures (omega (arith, c.requires.at.0, c.requires.at.1))))
    (path-known c.args.self.now c.requires.standing c.requires.at).some
