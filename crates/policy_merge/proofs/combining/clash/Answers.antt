use Rattle.std.proofs.Common.{◌∙◌}
use Rattle.std.specs.Option.{option_copied}
use Rattle.std.proofs.lemmas.Result.{IfOk-weaker}
use Rattle.policy_merge.specs.Combining.{pairs}
use Rattle.policy_merge.proofs.Clashes.{clash-members}
use Rattle.policy_merge.proofs.combining.clash.Goals as goal

pub returns : goal.returns
unfolding pairs
returns c = IfOk-weaker c.first_apart.result _ _
    (λ found is. is ∙ clash-members c.args.name.now c.args.operators.now (option_copied c.given_members-value_members.result) (option_copied c.given_members-default_members.result)
    (c.given_members-value_members.ensures c.args.name.now c.in_ok-value_words.ensures) (c.given_members-default_members.ensures c.args.name.now c.in_ok-default_words.ensures)) c.first_apart.ensures
