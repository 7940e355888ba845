use Rattle.std.proofs.Common.{subst, sym}
use Rattle.chain_climb.specs.Walks.{HasHint, RestTried, from_to}
use Rattle.chain_climb.proofs.StepLaws.{read-in}
use Rattle.std.specs.Prelude.{IfOk}
use Rattle.chain_climb.proofs.walk.try_rest_at.Goals as goal

pub try_rest-requires : goal.try_rest-requires
try_rest-requires c =
    subst (λ p. HasHint c.args.pages.now p c.args.from) (sym (read-in _ _ _ c.args.queue.now c.args.at c.requires.within c.in_ok-path.ensures c.index-as_slice-at.is c.as_slice.ensures)) c.requires.hint

pub returns-clause-tried : goal.returns-clause-tried
returns-clause-tried c =
    subst (λ p. IfOk c.try_rest.result (RestTried c.args.pages.now c.args.most p c.args.from (from_to c.args.queue.now c.try_rest.new.queue)))
    (read-in _ _ _ c.args.queue.now c.args.at c.requires.within c.in_ok-path.ensures c.index-as_slice-at.is c.as_slice.ensures) c.try_rest.ensures.tried
