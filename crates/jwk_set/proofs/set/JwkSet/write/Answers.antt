use Rattle.std.proofs.Common.{◌≡◌, length, ◌≤◌, ap, ◌∙◌, subst, rules}
use Rattle.fed_json.specs.declared.tree.Json.{Object}
use Rattle.fed_json.specs.Forms.{whole}
use Rattle.jwk_set.specs.KeySets.{key_set_in}
use Rattle.jwk_set.proofs.WrittenSets.{set_members, written_tree, written_whole, written_read}
use Rattle.jwk_set.proofs.set.JwkSet.write.Goals as goal

pub returns-clause-tree : goal.returns-clause-tree
returns-clause-tree c =
    let is : Object c.push-2.new.self ≡ Object (set_members c.loop-key.trees) = search rules in
    let past = subst (λ keys. length keys ≤ c.loop-key.key-index) c.as_slice-key-items.ensures c.loop-key-test.false in
    is ∙ written_tree c.loop-key.trees c.args.self.now.keys c.loop-key.key-index c.loop-key.invariant past

pub returns-clause-whole : goal.returns-clause-whole
returns-clause-whole c =
    let is : Object c.push-2.new.self ≡ Object (set_members c.loop-key.trees) = search rules in
    ap whole is ∙ written_whole c.loop-key.trees c.args.self.now.keys c.loop-key.key-index c.loop-key.invariant

pub returns-clause-reads_back : goal.returns-clause-reads_back
returns-clause-reads_back c =
    let is : Object c.push-2.new.self ≡ Object (set_members c.loop-key.trees) = search rules in
    let past = subst (λ keys. length keys ≤ c.loop-key.key-index) c.as_slice-key-items.ensures c.loop-key-test.false in
    ap key_set_in is ∙ written_read c.loop-key.trees c.args.self.now.keys c.loop-key.key-index c.loop-key.invariant past c.args.self.now.few c.args.self.now.distinct
