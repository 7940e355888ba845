use Rattle.std.proofs.Common.{◌≡◌, ◌≤◌, ◌-◌, ◌*◌, ◌++◌, length, arith}
use Rattle.wots_xmss.specs.Wots.{instance_of, wots_signature}
use Rattle.wots_xmss.specs.Xmss.{xmss_bytes}
use Rattle.wots_xmss.specs.Hypertree.{layer_signature}
use Rattle.sign_many.specs.Jobs.{AreDone, IsLayerDone}
use Rattle.sign_many.proofs.JobLaws.{length-layers}
use Rattle.sign_many.proofs.LayerLaws.{layers-again, layers-below, layer-top, layer-signed, layers-joined, no-layers, mul-pred, room-top}
use Rattle.sign_many.proofs.work.Work.+sign_layers.Goals as goal

pub returns-then-layers-eq0 : goal.returns-then-layers-eq0
returns-then-layers-eq0 t c = no-layers c.args.self.now c.args.layers _ c.args.parts.now c.if-layers-eq0.true c.requires.done

pub split_at_mut-below-requires : goal.split_at_mut-below-requires
split_at_mut-below-requires t c =
    let now = c.args.self.now in
    let size : c.xmss_bytes.result ≡ xmss_bytes now.params.tree_height = rw (← c.self.view_is) c.xmss_bytes.ensures.value in
    let some : 1 ≤ c.args.layers = omega (arith, c.if-layers-eq0.false) in
    rw size (omega (arith, length-layers now c.args.layers c.args.parts.now c.requires.done, mul-pred (xmss_bytes now.params.tree_height) c.args.layers some))

pub message_of-message-requires-clause-done : goal.message_of-message-requires-clause-done
message_of-message-requires-clause-done t c =
    let now = c.args.self.now in
    let size : c.xmss_bytes.result ≡ xmss_bytes now.params.tree_height = rw (← c.self.view_is) c.xmss_bytes.ensures.value in
    let some : 1 ≤ c.args.layers = omega (arith, c.if-layers-eq0.false) in
    rw (c.split_at_mut-below.ensures.front, size) (layers-below now (c.args.layers - 1) c.args.parts.now (layers-again now c.args.layers c.args.parts.now some c.requires.done))

pub split_at_mut-chains-requires : goal.split_at_mut-chains-requires
split_at_mut-chains-requires t c =
    let now = c.args.self.now in
    let size : c.xmss_bytes.result ≡ xmss_bytes now.params.tree_height = rw (← c.self.view_is) c.xmss_bytes.ensures.value in
    let some : 1 ≤ c.args.layers = omega (arith, c.if-layers-eq0.false) in
    let part : length c.split_at_mut-below.result.1.now ≡ length c.args.parts.now - xmss_bytes now.params.tree_height * (c.args.layers - 1) = rw (← size) (omega (arith, c.split_at_mut-below.ensures.back_len)) in
    let top : length c.split_at_mut-below.result.1.now ≡ xmss_bytes now.params.tree_height =
    room-top (xmss_bytes now.params.tree_height) c.args.layers (length c.args.parts.now) (length c.split_at_mut-below.result.1.now) some (length-layers now c.args.layers c.args.parts.now c.requires.done) part in
    omega (arith, top)

pub wots_sign_with-requires : goal.wots_sign_with-requires
wots_sign_with-requires t c = record { room = c.split_at_mut-chains.ensures.front_len }

pub sign_layers-requires : goal.sign_layers-requires
sign_layers-requires t c =
    let now = c.args.self.now in
    let size : c.xmss_bytes.result ≡ xmss_bytes now.params.tree_height = rw (← c.self.view_is) c.xmss_bytes.ensures.value in
    let some : 1 ≤ c.args.layers = omega (arith, c.if-layers-eq0.false) in
    let below : AreDone now 1 (c.args.layers - 1) c.split_at_mut-below.result.0.now =
    rw (c.split_at_mut-below.ensures.front, size) (layers-below now (c.args.layers - 1) c.args.parts.now (layers-again now c.args.layers c.args.parts.now some c.requires.done)) in
    (omega (arith, c.decreases, some), (omega (arith, c.requires.inside), below))

pub returns : goal.returns
returns t c =
    let now = c.args.self.now in
    let h = now.params.tree_height in
    let size : c.xmss_bytes.result ≡ xmss_bytes h = rw (← c.self.view_is) c.xmss_bytes.ensures.value in
    let some : 1 ≤ c.args.layers = omega (arith, c.if-layers-eq0.false) in
    let layer = c.args.layers - 1 in
    let done : IsLayerDone now layer c.split_at_mut-below.result.1.now =
    rw (c.split_at_mut-below.ensures.back, size) (layer-top now layer c.args.parts.now (layers-again now c.args.layers c.args.parts.now some c.requires.done)) in
    let signed : c.wots_sign_with.new.out ≡ wots_signature (instance_of now.place.seed layer c.tree_at.result c.leaf_at.result) now.sk_seed c.message_of-message.result =
    rw (c.wots_sign_with.ensures.signature, ← c.self.view_is) in
    let part : c.wots_sign_with.new.out ++ c.split_at_mut-chains.result.1.now ≡ layer_signature h now.place now.sk_seed c.args.key.now layer =
    rw c.split_at_mut-chains.ensures.back
    (layer-signed now layer c.tree_at.result c.leaf_at.result c.args.key.now c.message_of-message.result c.wots_sign_with.new.out c.split_at_mut-below.result.1.now done c.tree_at.ensures c.leaf_at.ensures.value c.message_of-message.ensures signed) in
    layers-joined (layer_signature h now.place now.sk_seed c.args.key.now) c.args.layers layer c.sign_layers.new.parts _ (omega (arith, some)) c.sign_layers.ensures part
