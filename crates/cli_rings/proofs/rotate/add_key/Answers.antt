use Rattle.std.proofs.Common.{◌≡◌, ℕ, List, ap₂, subst}
use Rattle.std.specs.Prelude.{IfOk}
use Rattle.key_ring.specs.Changes.{add_key, kid_added}
use Rattle.cli_rings.specs.Rotations.{change_reply}
use Rattle.cli_rings.proofs.RotateLaws.{change_made, change_refused}
use Rattle.cli_rings.proofs.rotate.add_key.Goals as goal

-- src/rotate.rt
pub returns-in-Ok : goal.returns-in-Ok
returns-in-Ok c =
    let added = add_key c.args.alg c.args.seeds.now in
    let name = kid_added c.args.alg c.args.seeds.now in
    let same : added c.seconds.result c.seconds-2.result ≡ added c.args.at c.args.exp = ap₂ added c.seconds.ensures.seconds c.seconds-2.ensures.seconds in
    subst (λ change. IfOk c.changed.result (λ reply. reply ≡ change_reply c.args.ring change name)) same
    (change_made c.changed.result c.args.ring (added c.seconds.result c.seconds-2.result) name c.in-Ok.kid _ _ c.new-name.result _ c.in-Ok.ensures.made.answer c.in-Ok.ensures.made.left.files
    c.new-name.ensures c.file.ensures c.in-Ok.ensures.kid c.changed.ensures)

-- src/rotate.rt
pub returns : goal.returns
returns c =
    let added = add_key c.args.alg c.args.seeds.now in
    let name = kid_added c.args.alg c.args.seeds.now in
    let same : added c.seconds.result c.seconds-2.result ≡ added c.args.at c.args.exp = ap₂ added c.seconds.ensures.seconds c.seconds-2.ensures.seconds in
    subst (λ change. IfOk c.refused.result (λ reply. reply ≡ change_reply c.args.ring change name)) same
    (change_refused (List ℕ) c.refused.result c.args.ring (added c.seconds.result c.seconds-2.result) name c.in-Err.fault c.in-Err.ensures.made.answer c.refused.ensures)
