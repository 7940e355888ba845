use Rattle.std.proofs.Common.{◌∙◌, ap, sym}
use Rattle.std.proofs.lemmas.Result.{IfOk-weaker}
use Rattle.chain_climb.specs.declared.want.End.TheVariants.{Found as FoundPath}
use Rattle.chain_climb.specs.declared.place.Stage.TheVariants.{Leaf, Hint, Judge, Found, Ended}
use Rattle.chain_climb.specs.declared.want.Want.TheVariants.{Judge as JudgePath, Done}
use Rattle.chain_climb.proofs.NextLaws.{next-arm, want-arm, wanted-is}
use Rattle.chain_climb.proofs.state.State.next.Goals as goal

pub returns-in-Leaf-clause-want : goal.returns-in-Leaf-clause-want
returns-in-Leaf-clause-want c = IfOk-weaker _ _ _ (λ want. want-arm c.args.self.now Leaf c.in-Leaf.is want) c.leaf_want.ensures

pub returns-in-Leaf-clause-next : goal.returns-in-Leaf-clause-next
returns-in-Leaf-clause-next c = IfOk-weaker _ _ _ (λ want. next-arm c.args.self.now c.requires Leaf c.in-Leaf.is want) c.leaf_want.ensures

pub returns-in-Hint-clause-want : goal.returns-in-Hint-clause-want
returns-in-Hint-clause-want c = IfOk-weaker _ _ _ (λ want. want-arm c.args.self.now Hint c.in-Hint.is want) c.hint_want.ensures

pub returns-in-Hint-clause-next : goal.returns-in-Hint-clause-next
returns-in-Hint-clause-next c = IfOk-weaker _ _ _ (λ want. next-arm c.args.self.now c.requires Hint c.in-Hint.is want) c.hint_want.ensures

pub returns-in_ok-chain_at_hand-in-Judge-clause-want : goal.returns-in_ok-chain_at_hand-in-Judge-clause-want
returns-in_ok-chain_at_hand-in-Judge-clause-want c = ap (λ p. JudgePath p) c.in_ok-chain_at_hand-in-Judge.ensures ∙ sym (wanted-is c.args.self.now Judge c.in-Judge.is)

pub returns-in_ok-chain_at_hand-in-Judge-clause-next : goal.returns-in_ok-chain_at_hand-in-Judge-clause-next
returns-in_ok-chain_at_hand-in-Judge-clause-next c = next-arm c.args.self.now c.requires Judge c.in-Judge.is _ (ap (λ p. JudgePath p) c.in_ok-chain_at_hand-in-Judge.ensures)

pub returns-in_ok-chain_at_hand-in-Found-clause-want : goal.returns-in_ok-chain_at_hand-in-Found-clause-want
returns-in_ok-chain_at_hand-in-Found-clause-want c = ap (λ p. Done (FoundPath p)) c.in_ok-chain_at_hand-in-Found.ensures ∙ sym (wanted-is c.args.self.now Found c.in-Found.is)

pub returns-in_ok-chain_at_hand-in-Found-clause-next : goal.returns-in_ok-chain_at_hand-in-Found-clause-next
returns-in_ok-chain_at_hand-in-Found-clause-next c = next-arm c.args.self.now c.requires Found c.in-Found.is _ (ap (λ p. Done (FoundPath p)) c.in_ok-chain_at_hand-in-Found.ensures)

pub returns-in-Ended-clause-want : goal.returns-in-Ended-clause-want
returns-in-Ended-clause-want c = c.plain_end.ensures ∙ sym (wanted-is c.args.self.now Ended c.in-Ended.is)

pub returns-in-Ended-clause-next : goal.returns-in-Ended-clause-next
returns-in-Ended-clause-next c = next-arm c.args.self.now c.requires Ended c.in-Ended.is _ c.plain_end.ensures
