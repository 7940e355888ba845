use Rattle.std.proofs.Common.{◌≡◌, ◌∙◌, length, rules}
use Rattle.wots_xmss.specs.Wots.{wots_bytes}
use Rattle.wots_xmss.specs.Xmss.{path_bytes, xmss_node, xmss_path}
use Rattle.sign_many.proofs.LayerLaws.{layer-done}
use Rattle.sign_many.proofs.work.Work.do_layer.Goals as goal

pub returns : goal.returns
returns c =
    let t = c.args.self.now in
    let root : c.copy_from_slice.new.self ≡ xmss_node t.place.seed t.sk_seed c.args.layer c.tree_at.result t.params.tree_height 0 =
    c.copy_from_slice.ensures.after ∙ rw (c.tree_path_with-root.ensures.root, ← c.self.view_is) in
    let path : c.tree_path_with-root.new.path ≡ xmss_path t.params.tree_height t.place.seed t.sk_seed c.args.layer c.tree_at.result c.leaf_at.result =
    rw (c.tree_path_with-root.ensures.path, ← c.self.view_is) in
    let lroot : length c.copy_from_slice.new.self ≡ 16 = search rules in
    let lchains : length c.split_at_mut-chains.result.0.now ≡ wots_bytes = search rules in
    let lpath : length c.tree_path_with-root.new.path ≡ path_bytes t.params.tree_height = search rules in
    layer-done t c.args.layer c.tree_at.result c.leaf_at.result c.copy_from_slice.new.self c.split_at_mut-chains.result.0.now c.tree_path_with-root.new.path
    lroot lchains lpath c.tree_at.ensures c.leaf_at.ensures.value root path
