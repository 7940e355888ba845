use Rattle.std.proofs.Common.{◌≡◌, ◌<◌, length, take, refl, sym, ap, ◌∙◌, subst, arith}
use Rattle.std.proofs.Math.Seq.{take-length}
use Rattle.std.proofs.lemmas.Result.{err_from_is_err_and}
use Rattle.resolve_round.specs.Knowing.{AnswersStand}
use Rattle.resolve_round.specs.Proving.{AddsProves, ProvesAt, ProvesEach}
use Rattle.resolve_round.proofs.CallLaws.{acted-of, cache-checks, cache-none, cache-then}
use Rattle.resolve_round.proofs.Elements.{among-get}
use Rattle.resolve_round.proofs.ProvingLaws.{adds-none, adds-one, each-none, each-one}
use Rattle.resolve_round.proofs.proving.prove_tested.Goals as goal

pub loop-at-init : goal.loop-at-init
loop-at-init g c = record {
  uses = cache-none c.args.call.now tt c.requires.of;
  adds = adds-none c.args.call.now.trace.now.checks c.args.call.now.trace.now.events c.args.call.now.trace.now.events refl;
  each = each-none c.args.url.now c.args.text.now c.args.call.now.trace.now.events c.args.call.now.trace.now.events;
}

pub prove_check-requires-clause-of : goal.prove_check-requires-clause-of
prove_check-requires-clause-of g c = acted-of c.args.call.now c.loop-at.call c.loop-at.invariant.uses.acts

pub prove_check-requires-clause-within : goal.prove_check-requires-clause-within
prove_check-requires-clause-within g c =
    let same = cache-checks c.args.call.now.trace.now c.loop-at.call.trace.now c.loop-at.invariant.uses.only in
    let all = c.len-count.ensures in
    subst (λ checks. c.loop-at.at < length checks) (sym same) (omega (arith, c.loop-at-test.true, all))

pub prove_check-requires-clause-answers : goal.prove_check-requires-clause-answers
prove_check-requires-clause-answers g c =
    subst AnswersStand (sym (cache-checks c.args.call.now.trace.now c.loop-at.call.trace.now c.loop-at.invariant.uses.only)) c.requires.answers

pub returns-in_err-prove_check-clause-uses : goal.returns-in_err-prove_check-clause-uses
returns-in_err-prove_check-clause-uses g c =
    let p = err_from_is_err_and c.from_residual.result c.from_residual.ensures.1 in
    rw (p.1, p.2) (cache-then c.args.call.now c.loop-at.call c.prove_check.new.call tt _ c.loop-at.invariant.uses c.in_err-prove_check.ensures.uses)

pub returns-in_err-prove_check-clause-only : goal.returns-in_err-prove_check-clause-only
returns-in_err-prove_check-clause-only g c =
    subst (AddsProves c.args.call.now.trace.now.checks c.args.call.now.trace.now.events) (sym c.in_err-prove_check.ensures.err) c.loop-at.invariant.adds

pub loop-at-preserved : goal.loop-at-preserved
loop-at-preserved g c =
    let old = c.args.call.now.trace.now in
    let mid = c.loop-at.call.trace.now in
    let new = c.prove_check.new.call.trace.now in
    let at = c.loop-at.at in
    let all = c.len-count.ensures in
    let less : at < length old.checks = omega (arith, c.loop-at-test.true, all) in
    let one = subst (λ checks. ProvesAt checks at c.args.url.now c.args.text.now mid.events new.events) (cache-checks old mid c.loop-at.invariant.uses.only) c.in_ok-prove_check.ensures.ok in
    let among = among-get old.checks at one.check less one.there in
    record {
      uses = cache-then c.args.call.now c.loop-at.call c.prove_check.new.call tt _ c.loop-at.invariant.uses c.in_ok-prove_check.ensures.uses;
      adds = adds-one old.checks one.check c.args.url.now c.args.text.now old.events mid.events new.events among c.loop-at.invariant.adds one.proves;
      each = each-one old.checks at one.check c.args.url.now c.args.text.now old.events c.loop-at.invariant.adds.more mid.events new.events less one.there c.loop-at.invariant.adds.are c.loop-at.invariant.each one.proves;
    }

pub returns-clause-uses : goal.returns-clause-uses
returns-clause-uses g c = c.loop-at.invariant.uses

pub returns-clause-proved : goal.returns-clause-proved
returns-clause-proved g c =
    let old = c.args.call.now.trace.now in
    let all = c.len-count.ensures in
    let end : c.loop-at.at ≡ length old.checks = omega (arith, c.loop-at-test.false, c.loop-at.auto.at-end, all) in
    subst (λ checks. ProvesEach checks c.args.url.now c.args.text.now old.events c.loop-at.call.trace.now.events) (ap (λ n. take n old.checks) end ∙ take-length old.checks) c.loop-at.invariant.each
