use Rattle.std.proofs.Common.{◌<◌, ◌+◌, length, below_more, arith}
use Rattle.std.proofs.lemmas.Bool.{both_ways}
use Rattle.chain_check.specs.Reading.{claims_in}
use Rattle.chain_check.proofs.NameLaws.{issuer-there, length-claims, same-exactly}
use Rattle.chain_check.proofs.names.is_distinct.Goals as goal

pub returns-then-eq : goal.returns-then-eq
returns-then-eq c =
    let es = c.args.entries.now in
    let earlier : c.loop-i.i < length es = omega arith in
    let same = same-exactly c.eq.result _ _ _ _ c.eq.ensures (issuer-there es c.loop-i.i c.index-entries-i.result earlier) (issuer-there es c.args.j c.index-entries-j.result c.requires) in
    let further : c.args.j + 1 < length (claims_in es) = omega (arith, length-claims es) in
    (λ bad. cc bad, λ distinct. absurd (distinct further c.loop-i.i c.loop-i-test.true (same.0 c.if-eq.true)))

pub loop-i-preserved : goal.loop-i-preserved
loop-i-preserved c =
    let es = c.args.entries.now in
    let earlier : c.loop-i.i < length es = omega arith in
    let same = same-exactly c.eq.result _ _ _ _ c.eq.ensures (issuer-there es c.loop-i.i c.index-entries-i.result earlier) (issuer-there es c.args.j c.index-entries-j.result c.requires) in
    below_more _ _ c.loop-i.invariant (λ one. both_ways c.eq.result c.if-eq.false (same.1 one))
