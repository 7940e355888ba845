use Rattle.std.proofs.Common.{◌∙◌, ap}
use Rattle.chain_check.proofs.Overrides.{formed, is_type, is_value}
use Rattle.authority_core.proofs.MetadataLaws.{configured-types, types-metadata}
use Rattle.authority_core.proofs.metadata.own_metadata.Goals as goal

pub types_with-requires-clause-types : goal.types_with-requires-clause-types
types_with-requires-clause-types c = ap (formed is_type) c.configured-types.ensures ∙ configured-types c.args.node.now.claims c.requires

pub returns-clause-metadata : goal.returns-clause-metadata
returns-clause-metadata c =
    types-metadata c.as_slice.result.now c.configured-types.result.now c.in_ok-types.types (ap (formed is_value) c.as_slice.ensures ∙ c.in_ok-endpoints.ensures.formed)
    (ap (formed is_type) c.configured-types.ensures ∙ configured-types c.args.node.now.claims c.requires) c.in_ok-types.ensures
