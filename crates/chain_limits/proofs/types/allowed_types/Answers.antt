use Rattle.std.proofs.Common.{◌≡◌, ◌∙◌, ap, sym, Some, Ok}
use Rattle.fed_json.specs.declared.tree.Json.{Object}
use Rattle.fed_json.specs.Trees.{as_object}
use Rattle.fed_json.proofs.Accessors.{as_object-Object}
use Rattle.chain_limits.specs.Types.{members_allowed}
use Rattle.chain_limits.proofs.Kept.{types_allowed-Object, copied, keeps, stays_formed}
use Rattle.chain_limits.proofs.Named.{members-stay}
use Rattle.chain_limits.proofs.types.allowed_types.Goals as goal

pub returns-in_default-clause-types : goal.returns-in_default-clause-types
returns-in_default-clause-types c = copied c.copy.result c.args.places.now c.args.metadata.now c.in_default.not-Object c.copy.ensures

pub returns-in_default-clause-allowed : goal.returns-in_default-clause-allowed
returns-in_default-clause-allowed c = keeps c.copy.result c.args.places.now c.args.metadata.now (returns-in_default-clause-types c)

pub returns-in_default-clause-well_formed : goal.returns-in_default-clause-well_formed
returns-in_default-clause-well_formed c = stays_formed c.copy.result c.args.places.now c.args.metadata.now (returns-in_default-clause-types c)

pub returns-clause-types : goal.returns-clause-types
returns-clause-types c =
    let object : as_object c.args.metadata.now ≡ Some c.in-Object.members = ap as_object c.in-Object.is ∙ as_object-Object c.in-Object.members in
    let kept : c.in_ok-kept.kept ≡ members_allowed c.args.places.now c.in-Object.members =
    c.in_ok-kept.ensures ∙ members-stay c.args.places.now c.as_slice.result.now c.in_ok-names.names c.in-Object.members c.as_slice-2.result.now c.as_slice.ensures c.as_slice-2.ensures c.in_ok-names.ensures in
    ap Object kept ∙ sym (types_allowed-Object c.args.places.now c.args.metadata.now c.in-Object.members object)

pub returns-clause-allowed : goal.returns-clause-allowed
returns-clause-allowed c = keeps (Ok (Object c.in_ok-kept.kept)) c.args.places.now c.args.metadata.now (returns-clause-types c)

pub returns-clause-well_formed : goal.returns-clause-well_formed
returns-clause-well_formed c = stays_formed (Ok (Object c.in_ok-kept.kept)) c.args.places.now c.args.metadata.now (returns-clause-types c)
