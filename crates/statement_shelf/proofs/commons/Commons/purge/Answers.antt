use Rattle.std.proofs.Common.{rules, ◌≡◌, ◌<◌, ◌≤◌, arith, subst}
use Rattle.turn_log.specs.Groups.{known}
use Rattle.statement_shelf.specs.Passes.{EndsWornCall, IsPurgeOfSome}
use Rattle.statement_shelf.specs.declared.calls.ShelfCall.TheVariants.{Purge}
use Rattle.statement_shelf.proofs.PurgeEnds.{EndedBefore, ended-all, ended-more, ended-none, ended-worn, stays-more}
use Rattle.statement_shelf.proofs.Purges.{PurgedBefore, before-all, before-more, before-none, before-worn}
use Rattle.statement_shelf.proofs.commons.Commons.purge.Goals as goal

pub loop-at-init : goal.loop-at-init
loop-at-init g c = (c.requires, λ h. h, before-none (known c.args.pass.now) c.args.moment, ended-none c.args.pass.now c.args.moment)

pub returns-in_err-count-clause-worn : goal.returns-in_err-count-clause-worn
returns-in_err-count-clause-worn g c =
    let less : c.loop-at.at < 8 = search rules in
    let some : IsPurgeOfSome c.args.moment (known c.args.pass.now) (known c.purge_part.new.pass) =
    before-worn c.args.moment c.loop-at.at c.loop-at.dropped (known c.args.pass.now) (known c.loop-at.pass) (known c.purge_part.new.pass) less c.loop-at.invariant.2 c.in_err-count.ensures.worn.1 in
    let count = c.in_err-count.ensures.worn.0 in
    search rules

pub overflow_add-dropped : goal.overflow_add-dropped
overflow_add-dropped g c =
    let less : c.loop-at.at < 8 = search rules in
    let low : c.loop-at.dropped ≤ 256 = let l = c.loop-at.invariant.2.few in omega (arith, l, less) in
    let few : c.in_ok-count.count ≤ 32 = c.in_ok-count.ensures.few in
    search rules

pub loop-at-preserved : goal.loop-at-preserved
loop-at-preserved g c = (
  c.in_ok-count.ensures.of,
  λ h. c.in_ok-count.ensures.whole (c.loop-at.invariant.1 h),
  before-more c.args.moment c.loop-at.at c.loop-at.dropped c.in_ok-count.count (known c.args.pass.now) (known c.loop-at.pass) (known c.purge_part.new.pass) c.loop-at.invariant.2
      c.in_ok-count.ensures.told c.in_ok-count.ensures.few,
  ended-more c.args.moment c.loop-at.at c.loop-at.dropped c.in_ok-count.count c.args.pass.now c.loop-at.pass c.purge_part.new.pass c.loop-at.invariant.3
      c.in_ok-count.ensures.told c.in_ok-count.ensures.ends c.purge_part.ensures.alone,
)

pub returns-clause-told : goal.returns-clause-told
returns-clause-told g c =
    let done : c.loop-at.at ≡ 8 = search rules in
    before-all c.args.moment c.loop-at.dropped (known c.args.pass.now) (known c.loop-at.pass)
    (subst (λ n. PurgedBefore c.args.moment n c.loop-at.dropped (known c.args.pass.now) (known c.loop-at.pass)) done c.loop-at.invariant.2)

pub returns-clause-ends : goal.returns-clause-ends
returns-clause-ends g c =
    let done : c.loop-at.at ≡ 8 = search rules in
    ended-all c.args.moment c.loop-at.dropped c.args.pass.now c.loop-at.pass
    (subst (λ n. EndedBefore c.args.moment n c.loop-at.dropped c.args.pass.now c.loop-at.pass) done c.loop-at.invariant.3)

pub returns-clause-alone : goal.returns-clause-alone
returns-clause-alone g c = c.loop-at.invariant.3.alone

pub returns-in_err-count-clause-alone : goal.returns-in_err-count-clause-alone
returns-in_err-count-clause-alone g c = stays-more c.args.pass.now c.loop-at.pass c.purge_part.new.pass c.loop-at.invariant.3.alone c.purge_part.ensures.alone

pub returns-in_err-count-clause-first_worn : goal.returns-in_err-count-clause-first_worn
returns-in_err-count-clause-first_worn g c =
    let less : c.loop-at.at < 8 = search rules in
    let first : EndsWornCall (Purge c.args.moment) c.args.pass.now c.purge_part.new.pass =
    ended-worn c.args.moment c.loop-at.at c.loop-at.dropped c.args.pass.now c.loop-at.pass c.purge_part.new.pass less c.loop-at.invariant.3 c.in_err-count.ensures.worn.1 in
    search rules
