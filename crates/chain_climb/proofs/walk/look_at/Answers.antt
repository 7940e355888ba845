use Rattle.std.proofs.Common.{subst, sym}
use Rattle.chain_climb.specs.Walks.{IsKnown, Looked, from_to}
use Rattle.chain_climb.proofs.StepLaws.{read-in}
use Rattle.std.specs.Prelude.{IfOk}
use Rattle.chain_climb.proofs.walk.look_at.Goals as goal

pub look_at_path-requires : goal.look_at_path-requires
look_at_path-requires c =
    subst (IsKnown c.args.pages.now) (sym (read-in _ _ _ c.args.queue.now c.args.at c.requires.within c.in_ok-path.ensures c.index-as_slice-at.is c.as_slice.ensures)) c.requires.known

pub returns-clause-looked : goal.returns-clause-looked
returns-clause-looked c =
    subst (λ p. IfOk c.look_at_path.result (Looked c.args.pages.now c.args.bounds c.args.anchor.now p (from_to c.args.queue.now c.look_at_path.new.queue)))
    (read-in _ _ _ c.args.queue.now c.args.at c.requires.within c.in_ok-path.ensures c.index-as_slice-at.is c.as_slice.ensures) c.look_at_path.ensures.looked
