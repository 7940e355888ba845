use Rattle.std.proofs.Common.{◌≡◌, ◌≤◌, rules, subst, sym}
use Rattle.fed_json.specs.Forms.{IsWhole, nesting}
use Rattle.fed_json.specs.declared.tree.Json.{Object}
use Rattle.key_ring.specs.Files.{tree_of}
use Rattle.key_ring.proofs.RingForms.{tree_shallow, tree_whole}
use Rattle.key_ring.proofs.writing.tree_of.Goals as goal

pub returns-clause-whole : goal.returns-clause-whole
unfolding tree_of
returns-clause-whole c =
    let is : Object c.add_number.new.members ≡ tree_of c.args.version c.args.keys.now = search rules in
    subst IsWhole (sym is) (tree_whole c.args.version c.args.keys.now c.requires.keys)

pub returns-clause-shallow : goal.returns-clause-shallow
unfolding tree_of
returns-clause-shallow c =
    let is : Object c.add_number.new.members ≡ tree_of c.args.version c.args.keys.now = search rules in
    subst (λ tree. nesting tree ≤ 127) (sym is) (tree_shallow c.args.version c.args.keys.now)
