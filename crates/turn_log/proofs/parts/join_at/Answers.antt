use Rattle.std.proofs.Common.{ℕ, ◌<◌, sym, subst}
use Rattle.turn_log.specs.Passes.{account, IsJoined}
use Rattle.turn_log.proofs.PartLists.{changed}
use Rattle.turn_log.proofs.parts.join_at.Goals as goal

pub returns-clause-joined : goal.returns-clause-joined
returns-clause-joined g c =
    changed c.args.passes.now.items c.args.at (λ old new. IsJoined (account old) (account c.args.other) (account new)) c.index_mut-pass.result.now c.join.new.pass (subst (λ (n : ℕ). c.args.at < n) (sym c.requires.passes.count) c.requires.at) c.index_mut-pass.ensures.value c.join.ensures.joined
