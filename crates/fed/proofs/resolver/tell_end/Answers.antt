use Rattle.std.proofs.Common.{arith, lit<, refl, subst}
use Rattle.fed.specs.Resolvers.{HasCountedAt}
use Rattle.fed.proofs.ResolveLaws.{holds-none, lines-other}
use Rattle.fed.proofs.ResolverLaws.{joins_none, line_other}
use Rattle.fed.proofs.resolver.tell_end.Goals as goal

pub returns-in-Served-clause-worn : goal.returns-in-Served-clause-worn
returns-in-Served-clause-worn g c = holds-none _ _ c.requires.worn (lines-other 0 _ _ _ _ _ _ c.tell_served.ensures.told (lit< tt))

pub returns-in-Input-clause-joins : goal.returns-in-Input-clause-joins
returns-in-Input-clause-joins g c = joins_none _ c.requires.joined c.args.end _ (line_other 2 _ _ _ _ _ _ c.write_line.ensures (lit< tt))

pub returns-in-Input-clause-worn : goal.returns-in-Input-clause-worn
returns-in-Input-clause-worn g c = holds-none _ _ c.requires.worn (lines-other 2 _ _ _ _ _ _ c.write_line.ensures (lit< tt))

pub returns-in-StoreFailed-clause-joins : goal.returns-in-StoreFailed-clause-joins
returns-in-StoreFailed-clause-joins g c = joins_none _ c.requires.joined c.args.end 6 (λ zero. absurd (omega (arith, zero)))

pub returns-in-StoreFailed-clause-worn : goal.returns-in-StoreFailed-clause-worn
returns-in-StoreFailed-clause-worn g c = holds-none _ _ c.requires.worn (λ eight. absurd (omega (arith, eight)))

pub returns-in-NetworkFailed-clause-joins : goal.returns-in-NetworkFailed-clause-joins
returns-in-NetworkFailed-clause-joins g c = joins_none _ c.requires.joined c.args.end 7 (λ zero. absurd (omega (arith, zero)))

pub returns-in-NetworkFailed-clause-worn : goal.returns-in-NetworkFailed-clause-worn
returns-in-NetworkFailed-clause-worn g c = holds-none _ _ c.requires.worn (λ eight. absurd (omega (arith, eight)))

pub returns-in-Unsettled-clause-joins : goal.returns-in-Unsettled-clause-joins
returns-in-Unsettled-clause-joins g c = joins_none _ c.requires.joined c.args.end 7 (λ zero. absurd (omega (arith, zero)))

pub returns-in-Unsettled-clause-worn : goal.returns-in-Unsettled-clause-worn
returns-in-Unsettled-clause-worn g c = holds-none _ _ c.requires.worn (λ eight. absurd (omega (arith, eight)))

pub returns-in-Memory-clause-joins : goal.returns-in-Memory-clause-joins
returns-in-Memory-clause-joins g c = joins_none _ c.requires.joined c.args.end 5 (λ zero. absurd (omega (arith, zero)))

pub returns-in-Memory-clause-worn : goal.returns-in-Memory-clause-worn
returns-in-Memory-clause-worn g c = holds-none _ _ c.requires.worn (λ eight. absurd (omega (arith, eight)))

pub returns-in-Worn-clause-worn : goal.returns-in-Worn-clause-worn
returns-in-Worn-clause-worn g c = record { held = λ eight. (c.in-Worn.pass, refl, subst HasCountedAt c.in-Worn.is c.requires.counted); none = λ other. absurd (other refl) }
