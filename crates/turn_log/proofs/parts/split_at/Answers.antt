use Rattle.std.proofs.Common.{◌≡◌, ◌<◌, ℕ, false, sym, subst}
use Rattle.turn_log.specs.Passes.{account, is_alone, lent, untaken}
use Rattle.turn_log.proofs.PartLists.{changed}
use Rattle.turn_log.proofs.parts.split_at.Goals as goal

pub returns-clause-same : goal.returns-clause-same
returns-clause-same g c =
    changed c.args.passes.now.items c.args.at (λ old new. (account new ≡ lent (account old)) × (account c.split.result ≡ untaken (account old)) × (is_alone c.split.result ≡ false)) c.index_mut-pass.result.now c.split.new.pass (subst (λ (n : ℕ). c.args.at < n) (sym c.requires.passes.count) c.requires.at) c.index_mut-pass.ensures.value
    (c.split.ensures.same, c.split.ensures.untaken.0, c.split.ensures.untaken.1)
