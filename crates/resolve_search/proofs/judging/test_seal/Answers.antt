use Rattle.std.proofs.Common.{◌<◌, length, sym, ap, subst}
use Rattle.std.proofs.lemmas.Result.{err_from_is_err_and}
use Rattle.std.specs.Option.{option_copied}
use Rattle.chain_check.specs.Judging.{texts_of}
use Rattle.resolve_search.specs.Judging.{case_at}
use Rattle.resolve_round.proofs.CallLaws.{tests-err, tests-ok, tests-stop}
use Rattle.resolve_search.proofs.ChainLaws.{needs-within, wanted-fails, wanted-got, wanted-may, wanted-more, wanted-sealed, wanted-splits}
use Rattle.resolve_round.proofs.GettingLaws.{holds-answers}
use Rattle.resolve_search.proofs.judging.test_seal.Goals as goal

pub bounds-as_slice-place : goal.bounds-as_slice-place
bounds-as_slice-place g c =
    subst (λ l. c.args.place < length l) (sym c.as_slice.ensures)
    (needs-within (case_at c.args.call.now.trace.now c.args.aim.now.anchor (texts_of c.args.chain)) c.args.chain c.args.place c.args.public.now c.requires.needs)

-- the text was got
pub unreachable-requires : goal.unreachable-requires
unreachable-requires g c =
    wanted-got c.args.call.now.trace.now c.args.search.now c.args.aim.now.anchor c.args.chain c.args.place c.args.public.now c.requires.needs c.as_slice.result.now c.index-as_slice-place.result c.as_slice.ensures c.index-as_slice-place.is
    c.as_slice-2.result.now (option_copied c.url_got.result) c.as_slice-2.ensures c.requires.got c.url_got.ensures
    (ap option_copied c.in_default.is)

pub text_verifies-requires-clause-compact : goal.text_verifies-requires-clause-compact
text_verifies-requires-clause-compact g c = wanted-splits c.args.call.now.trace.now c.args.search.now c.args.aim.now.anchor c.args.chain c.args.place c.args.public.now c.requires.needs c.as_slice.result.now c.index-as_slice-place.result c.as_slice.ensures c.index-as_slice-place.is

pub text_verifies-requires-clause-answers : goal.text_verifies-requires-clause-answers
text_verifies-requires-clause-answers g c = holds-answers c.args.aim.now.age c.args.search.now c.args.call.now.trace.now c.requires.holds

-- ---- memory was wanting

pub returns-in_err-text_verifies-clause-judges : goal.returns-in_err-text_verifies-clause-judges
returns-in_err-text_verifies-clause-judges g c =
    let p = err_from_is_err_and c.from_residual.result c.from_residual.ensures.1 in
    let may = wanted-may c.args.call.now.trace.now c.args.search.now c.args.aim.now.anchor c.args.chain c.args.place c.args.public.now c.requires.needs c.as_slice.result.now c.index-as_slice-place.result c.as_slice.ensures c.index-as_slice-place.is
    c.as_slice-2.result.now (option_copied c.url_got.result) c.as_slice-2.ensures c.requires.got c.url_got.ensures c.in-Some.url.now (ap option_copied c.in-Some.is) in
    rw (p.1, p.2) (record {
      tests = tests-err g.G.Ledger.count c.args.call.now c.text_verifies.new.call _ c.in_err-text_verifies.ensures.tests;
      holds = c.in_err-text_verifies.ensures.stays_true c.args.aim.now.age c.args.search.now may c.requires.holds;
      good = tt;
    })

pub returns-in_err-with_seal-clause-judges : goal.returns-in_err-with_seal-clause-judges
returns-in_err-with_seal-clause-judges g c =
    let p = err_from_is_err_and c.from_residual-in_err-with_seal.result c.from_residual-in_err-with_seal.ensures.1 in
    let may = wanted-may c.args.call.now.trace.now c.args.search.now c.args.aim.now.anchor c.args.chain c.args.place c.args.public.now c.requires.needs c.as_slice.result.now c.index-as_slice-place.result c.as_slice.ensures c.index-as_slice-place.is
    c.as_slice-2.result.now (option_copied c.url_got.result) c.as_slice-2.ensures c.requires.got c.url_got.ensures c.in-Some.url.now (ap option_copied c.in-Some.is) in
    rw (p.1, p.2) (record {
      tests = tests-stop g.G.Ledger.count c.args.call.now c.text_verifies.new.call _ c.in_ok-text_verifies.ensures.tests;
      holds = c.in_ok-text_verifies.ensures.stays_true c.args.aim.now.age c.args.search.now may c.requires.holds;
      good = tt;
    })

-- ---- it verifies

pub with_seal-requires-clause-place : goal.with_seal-requires-clause-place
with_seal-requires-clause-place g c = needs-within (case_at c.args.call.now.trace.now c.args.aim.now.anchor (texts_of c.args.chain)) c.args.chain c.args.place c.args.public.now c.requires.needs

pub with_seal-requires-clause-sealed : goal.with_seal-requires-clause-sealed
with_seal-requires-clause-sealed g c =
    wanted-sealed c.args.call.now.trace.now c.args.search.now c.args.aim.now.anchor c.args.chain c.args.place c.args.public.now c.requires.needs c.as_slice.result.now c.index-as_slice-place.result c.as_slice.ensures c.index-as_slice-place.is
    (rw c.if-branch.true at c.in_ok-text_verifies.ensures.answer)

pub returns-in_ok-with_seal-clause-judges : goal.returns-in_ok-with_seal-clause-judges
returns-in_ok-with_seal-clause-judges g c =
    let may = wanted-may c.args.call.now.trace.now c.args.search.now c.args.aim.now.anchor c.args.chain c.args.place c.args.public.now c.requires.needs c.as_slice.result.now c.index-as_slice-place.result c.as_slice.ensures c.index-as_slice-place.is
    c.as_slice-2.result.now (option_copied c.url_got.result) c.as_slice-2.ensures c.requires.got c.url_got.ensures c.in-Some.url.now (ap option_copied c.in-Some.is) in
    record {
      tests = tests-ok g.G.Ledger.count c.args.call.now c.text_verifies.new.call _ _ c.in_ok-text_verifies.ensures.tests;
      holds = c.in_ok-text_verifies.ensures.stays_true c.args.aim.now.age c.args.search.now may c.requires.holds;
      good = λ good. c.in_ok-text_verifies.ensures.proved c.args.search.now may.obtained good;
    }

pub returns-in_ok-with_seal-clause-turn : goal.returns-in_ok-with_seal-clause-turn
returns-in_ok-with_seal-clause-turn g c =
    λ n tried.
    wanted-more c.args.call.now.trace.now c.args.search.now c.args.aim.now.anchor c.args.chain c.args.place c.args.public.now c.requires.needs c.as_slice.result.now c.index-as_slice-place.result c.as_slice.ensures c.index-as_slice-place.is c.text_verifies.new.call.trace.now n c.in_ok-with_seal.field-0
    c.in_ok-with_seal.ensures c.in_ok-text_verifies.ensures.stays_known (c.in_ok-text_verifies.ensures.good c.if-branch.true) tried

-- ---- it doesn't

pub returns-else-branch-clause-judges : goal.returns-else-branch-clause-judges
returns-else-branch-clause-judges g c =
    let may = wanted-may c.args.call.now.trace.now c.args.search.now c.args.aim.now.anchor c.args.chain c.args.place c.args.public.now c.requires.needs c.as_slice.result.now c.index-as_slice-place.result c.as_slice.ensures c.index-as_slice-place.is
    c.as_slice-2.result.now (option_copied c.url_got.result) c.as_slice-2.ensures c.requires.got c.url_got.ensures c.in-Some.url.now (ap option_copied c.in-Some.is) in
    record {
      tests = tests-ok g.G.Ledger.count c.args.call.now c.text_verifies.new.call _ _ c.in_ok-text_verifies.ensures.tests;
      holds = c.in_ok-text_verifies.ensures.stays_true c.args.aim.now.age c.args.search.now may c.requires.holds;
      good = λ good. c.in_ok-text_verifies.ensures.proved c.args.search.now may.obtained good;
    }

pub returns-else-branch-clause-turn : goal.returns-else-branch-clause-turn
returns-else-branch-clause-turn g c =
    λ n tried.
    wanted-fails c.args.call.now.trace.now c.args.search.now c.args.aim.now.anchor c.args.chain c.args.place c.args.public.now c.requires.needs c.as_slice.result.now c.index-as_slice-place.result c.as_slice.ensures c.index-as_slice-place.is
    (rw c.if-branch.false at c.in_ok-text_verifies.ensures.answer)
