use Rattle.std.proofs.Common.{codes, sym, ap, ◌∙◌}
use Rattle.std.specs.Option.{option_copied}
use Rattle.entity_statement.specs.Table.{critical, said}
use Rattle.entity_statement.proofs.claims.check_critical.Goals as goal

pub returns-in_default : goal.returns-in_default
returns-in_default c = ap (said tt (critical (codes "crit"))) (sym c.find.ensures.value ∙ ap (λ o. option_copied o) c.in_default.is)
