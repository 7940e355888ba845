use Rattle.std.proofs.Common.{ℕ, ◌<◌, sym, subst}
use Rattle.turn_log.specs.Passes.{Extends, IsWorn}
use Rattle.turn_log.proofs.PartLists.{changed, if_ok, if_err}
use Rattle.turn_log.proofs.parts.act_at.Goals as goal

pub returns-clause-told : goal.returns-clause-told
returns-clause-told g c =
    let xs = c.args.passes.now.items in
    if_ok c.act.result _ _ (λ r h. changed xs c.args.at (λ old new. Extends old c.args.call r new) c.index_mut-pass.result.now c.act.new.pass (subst (λ (n : ℕ). c.args.at < n) (sym c.requires.passes.count) c.requires.at) c.index_mut-pass.ensures.value h) c.act.ensures.told

pub returns-clause-worn : goal.returns-clause-worn
returns-clause-worn g c =
    let xs = c.args.passes.now.items in
    if_err c.act.result _ _ (λ e h. changed xs c.args.at (λ old new. IsWorn old e.count new) c.index_mut-pass.result.now c.act.new.pass (subst (λ (n : ℕ). c.args.at < n) (sym c.requires.passes.count) c.requires.at) c.index_mut-pass.ensures.value h) c.act.ensures.worn
