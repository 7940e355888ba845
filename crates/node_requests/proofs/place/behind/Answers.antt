use Rattle.std.proofs.lemmas.Bool.Decides.{Decides-eqb}
use Rattle.std.proofs.lemmas.Slice.Eq.{strip_prefix_is}
use Rattle.node_requests.proofs.place.behind.Goals as goal

pub returns : goal.returns
returns c = strip_prefix_is Decides-eqb c.args.path.now c.args.node.now c.strip_prefix.result c.strip_prefix.ensures.cases
