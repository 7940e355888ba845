use Rattle.std.proofs.Common.{nat_cmp, rules}
use Rattle.std.specs.Cmp.Lexicographic.{slice_cmp}
use Rattle.std.proofs.lemmas.Fn.{always_returns_same}
use Rattle.fed_json.specs.declared.tree.Member.{Member}
use Rattle.chain_check.proofs.Halves.{found, not_found}
use Rattle.chain_check.proofs.metadata.find_in_order.Goals as goal

pub returns-in-Ok : goal.returns-in-Ok
returns-in-Ok c =
    found c.args.name.now c.args.members.now c.in-Ok.at c.index-members-at.result c.requires c.in-Ok.ensures.bound
    (c.in-Ok.ensures.position (λ (y : Member). slice_cmp nat_cmp y.name c.args.name.now) (always_returns_same _ _ _ (λ a r f called. search rules)))

pub returns-in-Err : goal.returns-in-Err
returns-in-Err c =
    not_found c.args.name.now c.args.members.now c.in-Err.field-0 c.requires (c.in-Err.ensures.position (λ (y : Member). slice_cmp nat_cmp y.name c.args.name.now) (always_returns_same _ _ _ (λ a r f called. search rules)))
