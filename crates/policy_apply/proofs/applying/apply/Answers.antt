use Rattle.std.proofs.Common.{◌∙◌, Ok, ap, subst}
use Rattle.std.proofs.lemmas.Result.{err_from_is_err_and}
use Rattle.fed_json.specs.Forms.{whole, members_whole}
use Rattle.fed_json.specs.declared.tree.Json.{Object}
use Rattle.fed_json.specs.Metadata.{IsMetadata}
use Rattle.fed_json.proofs.Booleans.{left_true}
use Rattle.policy_apply.specs.Applying.{HasType, parameter_at}
use Rattle.policy_apply.proofs.Walking.{object_members-whole}
use Rattle.policy_apply.proofs.Places.{applying-ok, applying-is, applying-err, applying-first, first-utf8, acted-at, types-same}
use Rattle.policy_apply.proofs.Whole.{types-good}
use Rattle.policy_apply.proofs.KeepsMerged.{keeps-both, keeps-all}
use Rattle.policy_apply.proofs.Laws.{stays-at, kept-at, again-at}
use Rattle.policy_apply.proofs.applying.apply.Goals as goal

pub apply_types-requires-clause-metadata : goal.apply_types-requires-clause-metadata
apply_types-requires-clause-metadata c =
    ap members_whole c.object_members.ensures ∙ object_members-whole c.args.metadata.now (left_true (whole c.args.metadata.now) _ c.requires.metadata)

pub returns-in_err-types-clause-applied : goal.returns-in_err-types-clause-applied
returns-in_err-types-clause-applied c =
    let p = err_from_is_err_and c.from_residual.result c.from_residual.ensures.1 in
    rw (p.1, p.2) (applying-err c.args.policy.now c.types.result.now c.args.metadata.now c.object_members.result.now c.in_err-types.field-0.0 c.types.ensures.types c.object_members.ensures c.in_err-types.ensures)

pub returns-in_err-types-clause-first : goal.returns-in_err-types-clause-first
returns-in_err-types-clause-first c =
    let p = err_from_is_err_and c.from_residual.result c.from_residual.ensures.1 in
    let good = left_true (whole c.args.metadata.now) _ c.requires.metadata in
    rw (p.1, p.2) (applying-first c.args.policy.now c.types.result.now c.args.metadata.now c.object_members.result.now c.in_err-types.field-0.0 good c.types.ensures.types c.object_members.ensures c.in_err-types.ensures)

pub returns-in_err-types-clause-utf8 : goal.returns-in_err-types-clause-utf8
returns-in_err-types-clause-utf8 c =
    let p = err_from_is_err_and c.from_residual.result c.from_residual.ensures.1 in
    let good = left_true (whole c.args.metadata.now) _ c.requires.metadata in
    rw (p.1, p.2) (first-utf8 c.args.policy.now c.args.metadata.now c.in_err-types.field-0.0 c.types.ensures.formed good
    (applying-first c.args.policy.now c.types.result.now c.args.metadata.now c.object_members.result.now c.in_err-types.field-0.0 good c.types.ensures.types c.object_members.ensures c.in_err-types.ensures))

pub returns-clause-applied : goal.returns-clause-applied
returns-clause-applied c =
    applying-is c.args.policy.now c.args.metadata.now c.in_ok-types.types
    (applying-ok c.args.policy.now c.types.result.now c.args.metadata.now c.object_members.result.now c.in_ok-types.types c.types.ensures.types c.object_members.ensures c.in_ok-types.ensures)

pub returns-clause-types : goal.returns-clause-types
returns-clause-types c =
    let both = applying-ok c.args.policy.now c.types.result.now c.args.metadata.now c.object_members.result.now c.in_ok-types.types c.types.ensures.types c.object_members.ensures c.in_ok-types.ensures in
    λ t. subst (λ ms. (HasType (Object ms) t → HasType c.args.metadata.now t) × (HasType c.args.metadata.now t → HasType (Object ms) t)) both.1 (types-same c.args.policy.now c.args.metadata.now t)

pub returns-clause-acted : goal.returns-clause-acted
returns-clause-acted c =
    let both = applying-ok c.args.policy.now c.types.result.now c.args.metadata.now c.object_members.result.now c.in_ok-types.types c.types.ensures.types c.object_members.ensures c.in_ok-types.ensures in
    λ t p there. acted-at c.args.policy.now c.args.metadata.now both.0 t p there ∙ ap (λ ms. Ok (parameter_at (Object ms) t p)) both.1

pub returns-clause-metadata : goal.returns-clause-metadata
returns-clause-metadata c =
    let both = applying-ok c.args.policy.now c.types.result.now c.args.metadata.now c.object_members.result.now c.in_ok-types.types c.types.ensures.types c.object_members.ensures c.in_ok-types.ensures in
    subst (λ ms. IsMetadata (Object ms)) both.1 (types-good c.args.policy.now c.args.metadata.now c.types.ensures.formed c.requires.metadata)

pub returns-clause-keeps_within : goal.returns-clause-keeps_within
returns-clause-keeps_within c =
    let both = applying-ok c.args.policy.now c.types.result.now c.args.metadata.now c.object_members.result.now c.in_ok-types.types c.types.ensures.types c.object_members.ensures c.in_ok-types.ensures in
    λ t p there words. kept-at c.args.policy.now c.args.metadata.now c.in_ok-types.types both c.requires.combines t p there words

pub returns-clause-keeps_within_both : goal.returns-clause-keeps_within_both
returns-clause-keeps_within_both c =
    let both = applying-ok c.args.policy.now c.types.result.now c.args.metadata.now c.object_members.result.now c.in_ok-types.types c.types.ensures.types c.object_members.ensures c.in_ok-types.ensures in
    λ upper lower ok t p there words. keeps-both upper lower c.args.policy.now ok t p _ (kept-at c.args.policy.now c.args.metadata.now c.in_ok-types.types both c.requires.combines t p there words)

pub returns-clause-keeps_within_all : goal.returns-clause-keeps_within_all
returns-clause-keeps_within_all c =
    let both = applying-ok c.args.policy.now c.types.result.now c.args.metadata.now c.object_members.result.now c.in_ok-types.types c.types.ensures.types c.object_members.ensures c.in_ok-types.ensures in
    λ top lowers ok t p there words. keeps-all top lowers c.args.policy.now ok t p _ (kept-at c.args.policy.now c.args.metadata.now c.in_ok-types.types both c.requires.combines t p there words)

pub returns-clause-again : goal.returns-clause-again
returns-clause-again c =
    let both = applying-ok c.args.policy.now c.types.result.now c.args.metadata.now c.object_members.result.now c.in_ok-types.types c.types.ensures.types c.object_members.ensures c.in_ok-types.ensures in
    λ t p there words. again-at c.args.policy.now c.args.metadata.now c.in_ok-types.types both c.requires.combines t p there words

pub returns-clause-stays : goal.returns-clause-stays
returns-clause-stays c =
    let both = applying-ok c.args.policy.now c.types.result.now c.args.metadata.now c.object_members.result.now c.in_ok-types.types c.types.ensures.types c.object_members.ensures c.in_ok-types.ensures in
    λ t p there none. stays-at c.args.policy.now c.args.metadata.now c.in_ok-types.types both c.requires.combines t p there none
