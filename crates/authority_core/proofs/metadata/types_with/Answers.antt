use Rattle.std.proofs.Common.{◌≡◌, ◌∷◌, [], IfOk, rules, subst}
use Rattle.fed_json.specs.declared.tree.Json.{Object}
use Rattle.fed_json.specs.Reading.{member_of}
use Rattle.authority_core.specs.Endpoints.{federation_entity}
use Rattle.authority_core.proofs.MetadataLaws.{parameters-rising, types-with-of}
use Rattle.authority_core.proofs.metadata.types_with.Goals as goal

pub members_over-requires-clause-own : goal.members_over-requires-clause-own
members_over-requires-clause-own c = parameters-rising c.args.types.now c.parameters_of-configured.result.now c.parameters_of-configured.ensures c.requires.types

pub returns : goal.returns
returns c =
    let own : c.as_slice.result.now ≡ member_of federation_entity (Object c.in_ok-parameters.parameters) ∷ [] = search rules in
    subst (λ x. IfOk c.members_over-2.result (λ all. all ≡ x))
    (types-with-of c.args.endpoints.now c.args.types.now c.parameters_of-configured.result.now c.in_ok-parameters.parameters c.as_slice.result.now
    c.parameters_of-configured.ensures c.in_ok-parameters.ensures own)
    c.members_over-2.ensures
