use Rattle.std.proofs.Common.{◌≡◌, ap, ◌∙◌, rules}
use Rattle.fed_json.specs.declared.tree.Json.{Object}
use Rattle.fed_json.specs.Forms.{whole}
use Rattle.fed_json.proofs.Booleans.{left_true, right_true}
use Rattle.jwk_set.specs.Keys.{key_in}
use Rattle.jwk_set.specs.Trees.{own_tree}
use Rattle.jwk_set.proofs.WrittenKeys.{own_whole, own_read}
use Rattle.jwk_set.proofs.jwk.write_own.Goals as goal

pub returns-clause-whole : goal.returns-clause-whole
returns-clause-whole c =
    let is : Object c.push-4.new.self ≡ own_tree c.args.kid.now c.args.alg c.args.public.now = search rules in
    ap whole is ∙ own_whole c.args.kid.now c.args.alg c.args.public.now (right_true _ _ c.requires)

pub returns-clause-reads_back : goal.returns-clause-reads_back
returns-clause-reads_back c =
    let is : Object c.push-4.new.self ≡ own_tree c.args.kid.now c.args.alg c.args.public.now = search rules in
    ap key_in is ∙ own_read c.args.kid.now c.args.alg c.args.public.now (left_true _ _ c.requires) c.fits-public c.told-public
