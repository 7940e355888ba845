use Rattle.std.proofs.Common.{rules, refl}
use Rattle.chain_climb.specs.declared.answer.Origin.TheVariants.{Shelf, Link}
use Rattle.chain_climb.specs.declared.answer.Report.TheVariants.{Useless}
use Rattle.resolve_search.proofs.answering.useless.Goals as goal

pub returns-in-Hit : goal.returns-in-Hit
returns-in-Hit c = record { report = Useless Shelf; is = refl; ok = tt; none = refl; called = search rules }

pub returns-in-Fetched : goal.returns-in-Fetched
returns-in-Fetched c = record { report = Useless Link; is = refl; ok = tt; none = refl; called = search rules }
