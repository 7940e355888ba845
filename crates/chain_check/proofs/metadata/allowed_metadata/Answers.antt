use Rattle.std.proofs.Common.{sym, ◌∙◌, subst}
use Rattle.std.proofs.lemmas.Result.{IfOk-weaker}
use Rattle.fed_json.specs.Metadata.{IsMetadata}
use Rattle.chain_check.proofs.Overrides.{metadata-types_allowed}
use Rattle.chain_check.proofs.ResolveLaws.{allowed-is}
use Rattle.chain_check.proofs.metadata.allowed_metadata.Goals as goal

pub returns-clause-tree : goal.returns-clause-tree
returns-clause-tree c =
    IfOk-weaker c.allowed_types.result _ _ (λ tree is. is ∙ allowed-is _ c.args.places.now c.in_ok-metadata.metadata c.requires.places c.in_ok-metadata.ensures.tree) c.allowed_types.ensures.types

pub returns-clause-metadata : goal.returns-clause-metadata
returns-clause-metadata c =
    IfOk-weaker c.allowed_types.result _ _ (λ tree is. subst IsMetadata (sym is) (metadata-types_allowed c.args.places.now c.in_ok-metadata.metadata c.in_ok-metadata.ensures.metadata)) c.allowed_types.ensures.types
