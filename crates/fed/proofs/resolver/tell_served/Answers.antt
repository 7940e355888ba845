use Rattle.std.proofs.Common.{rules, ◌≡◌, refl}
use Rattle.fed.proofs.resolver.tell_served.Goals as goal

pub returns-then-status-eq0-clause-joins : goal.returns-then-status-eq0-clause-joins
returns-then-status-eq0-clause-joins g c =
    let is : c.write_line-status.result ≡ 0 = search rules in
    record { held = λ zero. (c.args.pass, refl, refl); none = λ other. absurd (other is) }
