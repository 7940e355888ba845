use Rattle.fed_resolver.proofs.CauseLaws.{one-cause}
use Rattle.fed_resolver.proofs.PartLaws.{whole-part}
use Rattle.fed_resolver.proofs.ToldLaws.{hit-looked}
use Rattle.fed_resolver.proofs.laws.traces.Goals as goal

pub returns : goal.returns
returns c = record { one_cause = one-cause; whole_in_part = whole-part; hits_are_looks = hit-looked }
