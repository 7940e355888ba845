use Rattle.std.proofs.Common.{◌<◌, ◌∷◌, [], ◌++◌, length, refl, ap, ◌∙◌, arith}
use Rattle.std.proofs.lemmas.List.{length_push}
use Rattle.std.proofs.lemmas.Result.{err_from_is_err_and}
use Rattle.std.proofs.lemmas.List.Sums.{count_by-le-length}
use Rattle.resolve_round.specs.declared.trace.Got.TheVariants.{Hit}
use Rattle.resolve_round.specs.Asking.{with_ask}
use Rattle.resolve_round.specs.Courses.{is_hit}
use Rattle.resolve_round.proofs.GettingLaws.{ask_of}
use Rattle.resolve_round.proofs.LinkLaws.{same-search}
use Rattle.resolve_round.proofs.getting.add_hit.Goals as goal

pub prove-unreachable-requires : goal.prove-unreachable-requires
prove-unreachable-requires c =
    let hits = c.requires.hits in
    let few = count_by-le-length is_hit c.args.search.now.asks in
    let pushed = ap length c.in_ok-push.ensures.ok in
    let more = length_push c.args.search.now.asks (ask_of c.in_ok-url.url (Hit c.args.proven)) in
    let len = c.len.ensures in
    let less : c.args.search.now.hits < c.len.result = omega (arith, hits, few, pushed, more, len) in
    let not = c.if-prove.true in
    omega (arith, less, not)

pub returns-clause-ok : goal.returns-clause-ok
returns-clause-ok c =
    let asks = c.in_ok-push.ensures.ok ∙ ap (λ u. c.args.search.now.asks ++ ask_of u (Hit c.args.proven) ∷ []) c.in_ok-url.ensures in
    same-search _ (with_ask c.args.search.now (ask_of c.args.url.now (Hit c.args.proven))) refl asks refl refl refl refl refl

pub returns-in_err-push-clause-err : goal.returns-in_err-push-clause-err
returns-in_err-push-clause-err c =
    let p = err_from_is_err_and c.from_residual-in_err-push.result c.from_residual-in_err-push.ensures.1 in
    rw p.1 (same-search _ c.args.search.now refl c.in_err-push.ensures.err refl refl refl refl refl)
