use Rattle.std.proofs.Common.{sym}
use Rattle.wots_xmss.proofs.HypertreeLaws.{tree_at-div}
use Rattle.sign_many.proofs.work.Work.tree_at.Goals as goal

pub returns : goal.returns
returns c = rw (← c.self.view_is) (sym (tree_at-div c.self.inside.params.tree_height c.self.inside.tree c.args.layer))
