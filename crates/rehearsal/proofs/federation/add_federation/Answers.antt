use Rattle.std.proofs.lemmas.Result.{IfOk-weaker}
use Rattle.rehearsal.proofs.FederationLaws.{adds-federation}
use Rattle.rehearsal.proofs.federation.add_federation.Goals as goal

pub returns : goal.returns
returns c =
    IfOk-weaker c.add_superior-3.result _ _
    (λ anchor adds. adds-federation c.args.params c.args.pages.now c.add_leaf.new.pages c.add_superior.new.pages c.add_superior-2.new.pages c.add_superior-3.new.pages
    c.in_ok-leaf.leaf c.in_ok-lower.lower c.in_ok-upper.upper anchor c.in_ok-leaf.ensures c.in_ok-lower.ensures c.in_ok-upper.ensures adds)
    c.add_superior-3.ensures
