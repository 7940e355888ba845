use Rattle.std.proofs.Common.{◌<◌, ◌≤◌, ◌-◌, length, arith}
use Rattle.chain_check.proofs.NameLaws.{issuer-there, same-exactly, subject-there}
use Rattle.chain_check.proofs.names.is_linked.Goals as goal

pub returns-else-j-eq0 : goal.returns-else-j-eq0
returns-else-j-eq0 c =
    let es = c.args.entries.now in
    let below : c.args.j - 1 < length es = omega (arith, c.requires) in
    let some : 1 ≤ c.args.j = omega (arith, c.if-j-eq0.false) in
    let same = same-exactly c.eq.result _ _ _ _ c.eq.ensures (subject-there es c.args.j c.index-entries-j.result c.requires) (issuer-there es (c.args.j - 1) c.index-entries-j-else-j-eq0.result below) in
    (λ yes _. same.0 yes, λ linked. same.1 (linked some))
