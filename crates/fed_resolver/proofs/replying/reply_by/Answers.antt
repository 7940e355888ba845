use Rattle.std.proofs.Common.{◌≡◌, ◌+◌, ℕ, IsTrue, length, Some, Ok, Err, refl, sym, subst, inl}
use Rattle.std.specs.List.{list_all}
use Rattle.std.specs.Str.{is_utf8}
use Rattle.std.proofs.lemmas.Result.{err_from_is_err_and}
use Rattle.entity_statement.specs.Signed.{statement_of}
use Rattle.entity_statement.specs.Told.{told}
use Rattle.resolve_reply.specs.Marks.{judging_by, looked_at, tests_of_marks}
use Rattle.resolve_round.specs.Pages.{chain_of}
use Rattle.resolve_round.specs.Rounds.{pages_in}
use Rattle.resolve_round.specs.declared.halt.Halt.TheVariants as halt
use Rattle.resolve_search.proofs.CallLaws.{acts-around}
use Rattle.fed_resolver.specs.Going.{first_text, last_text}
use Rattle.fed_resolver.specs.Outcomes.{asked_query}
use Rattle.fed_resolver.specs.Told.{situation_of}
use Rattle.fed_resolver.proofs.AnswerLaws.{reply-all, reply-configs, reply-end}
use Rattle.fed_resolver.proofs.ChainTexts.{valid-utf8}
use Rattle.fed_resolver.proofs.MarkCounts.{leaf-tests}
use Rattle.fed_resolver.proofs.StretchLaws.{stumbles-none}
use Rattle.fed_resolver.proofs.TickLaws.{checks-counted, marks-counted, some-counted, some-marks}
use Rattle.fed_resolver.proofs.replying.reply_by.Goals as goal
use Rattle.fed_base.specs.Counts.{counted}

pub returns-in_err-issuers-clause-goes : goal.returns-in_err-issuers-clause-goes
returns-in_err-issuers-clause-goes g c =
    let p = err_from_is_err_and c.from_residual.result c.from_residual.ensures.1 in
    rw (p.1, p.2) c.in_err-issuers.ensures.goes

pub returns-in_err-issuers-clause-counted : goal.returns-in_err-issuers-clause-counted
returns-in_err-issuers-clause-counted g c = λ before start.
    let p = err_from_is_err_and c.from_residual.result c.from_residual.ensures.1 in
    rw p.1 (some-counted c.found_issuers.new.call.trace.now before (g.G.Ledger.count c.found_issuers.new.call.steps.now.ledger)
    (checks-counted c.args.call.now.trace.now.checks c.found_issuers.new.call.trace.now.checks before (g.G.Ledger.count c.args.call.now.steps.now.ledger) (g.G.Ledger.count c.found_issuers.new.call.steps.now.ledger) start c.in_err-issuers.ensures.counted))

pub sealed_reply-requires-clause-writable : goal.sealed_reply-requires-clause-writable
sealed_reply-requires-clause-writable g c = λ lives within.
    let found = c.requires.leaf.is_found in
    let query = asked_query (situation_of c.args.request.now c.args.signer.now c.args.t) c.args.call.now.trace.now in
    let utf8 = valid-utf8 (chain_of (pages_in c.requires.leaf.rounds.last) c.requires.leaf.path) query.anchor query.keys query.moment found.verdict.0 in
    (found.written, subst (λ ts. IsTrue (list_all is_utf8 ts)) (sym found.are) utf8)

pub returns-in_err-reply-clause-goes : goal.returns-in_err-reply-clause-goes
returns-in_err-reply-clause-goes g c =
    let p = err_from_is_err_and c.from_residual-in_err-reply.result c.from_residual-in_err-reply.ensures.1 in
    rw (p.1, p.2) (inl c.in_ok-issuers.ensures.goes)

pub returns-in_err-reply-clause-walked : goal.returns-in_err-reply-clause-walked
returns-in_err-reply-clause-walked g c =
    let p = err_from_is_err_and c.from_residual-in_err-reply.result c.from_residual-in_err-reply.ensures.1 in
    rw p.1 (stumbles-none g.L.Link.gave c.args.link.now c.found_issuers.new.link c.args.call.now.trace.now c.found_issuers.new.call.trace.now c.in_ok-issuers.ensures.walked)

pub returns-in_err-reply-clause-counted : goal.returns-in_err-reply-clause-counted
returns-in_err-reply-clause-counted g c = λ before start.
    let p = err_from_is_err_and c.from_residual-in_err-reply.result c.from_residual-in_err-reply.ensures.1 in
    let here = judging_by c.args.ends.now.leaf.sub (told c.args.ends.now.anchor) c.in_ok-issuers.issuers.found c.args.t in
    let mid = checks-counted c.args.call.now.trace.now.checks c.found_issuers.new.call.trace.now.checks before (g.G.Ledger.count c.args.call.now.steps.now.ledger) (g.G.Ledger.count c.found_issuers.new.call.steps.now.ledger) start c.in_ok-issuers.ensures.counted in
    rw p.1 (some-marks c.found_issuers.new.call.trace.now (tests_of_marks here (looked_at c.args.ends.now.leaf.marks)) before (g.G.Ledger.count c.found_issuers.new.call.steps.now.ledger) (g.G.Ledger.count c.sealed_reply.new.steps.ledger) mid
    (leaf-tests here c.args.ends.now.leaf.marks) c.in_err-reply.ensures.counted)

pub returns-clause-whole : goal.returns-clause-whole
returns-clause-whole g c =
    let goes = c.in_ok-issuers.ensures.goes in
    let own = told c.args.ends.now.leaf in
    let anchor = told c.args.ends.now.anchor in
    let here = judging_by own.sub anchor c.in_ok-issuers.issuers.found c.args.t in
    let own_reads : statement_of (first_text c.args.chain.texts) ≡ Some own = c.requires.ends.0 in
    let anchor_reads : statement_of (last_text c.args.chain.texts) ≡ Some anchor = c.requires.ends.1 in
    (reply-all c.args.request.now c.args.signer.now c.args.t c.args.call.now.trace.now c.found_issuers.new.call.trace.now c.args.chain c.requires.leaf goes.call goes.continues.more goes.continues.are goes.continues.works
    c.in_ok-issuers.ensures.counted.more c.in_ok-issuers.ensures.counted.are goes.told c.in_ok-issuers.ensures.good own anchor own_reads anchor_reads c.in_ok-issuers.issuers.found c.in_ok-issuers.ensures.issuers.searched
    c.in_ok-reply.reply c.in_ok-reply.ensures.reply 0 (counted (length c.found_issuers.new.call.trace.now.checks + tests_of_marks here (looked_at own.marks)) 0) refl).whole

pub returns-clause-chain_exp : goal.returns-clause-chain_exp
returns-clause-chain_exp g c =
    let goes = c.in_ok-issuers.ensures.goes in
    let own = told c.args.ends.now.leaf in
    let anchor = told c.args.ends.now.anchor in
    let own_reads : statement_of (first_text c.args.chain.texts) ≡ Some own = c.requires.ends.0 in
    let anchor_reads : statement_of (last_text c.args.chain.texts) ≡ Some anchor = c.requires.ends.1 in
    reply-end c.args.request.now c.args.signer.now c.args.t c.args.call.now.trace.now c.found_issuers.new.call.trace.now c.args.chain c.requires.leaf goes.call goes.continues.more goes.continues.are goes.continues.works
    c.in_ok-issuers.ensures.counted.more c.in_ok-issuers.ensures.counted.are goes.told c.in_ok-issuers.ensures.good own anchor own_reads anchor_reads c.in_ok-issuers.issuers.found c.in_ok-issuers.ensures.issuers.searched
    c.in_ok-reply.reply c.in_ok-reply.ensures.reply

pub returns-clause-configs : goal.returns-clause-configs
returns-clause-configs g c =
    let goes = c.in_ok-issuers.ensures.goes in
    let own = told c.args.ends.now.leaf in
    let anchor = told c.args.ends.now.anchor in
    let own_reads : statement_of (first_text c.args.chain.texts) ≡ Some own = c.requires.ends.0 in
    let anchor_reads : statement_of (last_text c.args.chain.texts) ≡ Some anchor = c.requires.ends.1 in
    reply-configs c.args.request.now c.args.signer.now c.args.t c.args.call.now.trace.now c.found_issuers.new.call.trace.now c.args.chain c.requires.leaf goes.call goes.continues.more goes.continues.are goes.continues.works
    c.in_ok-issuers.ensures.counted.more c.in_ok-issuers.ensures.counted.are goes.told c.in_ok-issuers.ensures.good own anchor own_reads anchor_reads c.in_ok-issuers.issuers.found c.in_ok-issuers.ensures.issuers.searched
    c.in_ok-reply.reply c.in_ok-reply.ensures.reply

pub returns-clause-counted : goal.returns-clause-counted
returns-clause-counted g c = λ before start.
    let goes = c.in_ok-issuers.ensures.goes in
    let own = told c.args.ends.now.leaf in
    let anchor = told c.args.ends.now.anchor in
    let here = judging_by own.sub anchor c.in_ok-issuers.issuers.found c.args.t in
    let own_reads : statement_of (first_text c.args.chain.texts) ≡ Some own = c.requires.ends.0 in
    let anchor_reads : statement_of (last_text c.args.chain.texts) ≡ Some anchor = c.requires.ends.1 in
    let mid = checks-counted c.args.call.now.trace.now.checks c.found_issuers.new.call.trace.now.checks before (g.G.Ledger.count c.args.call.now.steps.now.ledger) (g.G.Ledger.count c.found_issuers.new.call.steps.now.ledger) start c.in_ok-issuers.ensures.counted in
    reply-all c.args.request.now c.args.signer.now c.args.t c.args.call.now.trace.now c.found_issuers.new.call.trace.now c.args.chain c.requires.leaf goes.call goes.continues.more goes.continues.are goes.continues.works
    c.in_ok-issuers.ensures.counted.more c.in_ok-issuers.ensures.counted.are goes.told c.in_ok-issuers.ensures.good own anchor own_reads anchor_reads c.in_ok-issuers.issuers.found c.in_ok-issuers.ensures.issuers.searched
    c.in_ok-reply.reply c.in_ok-reply.ensures.reply before (g.G.Ledger.count c.sealed_reply.new.steps.ledger)
    (marks-counted (length c.found_issuers.new.call.trace.now.checks) (tests_of_marks here (looked_at own.marks)) before (g.G.Ledger.count c.found_issuers.new.call.steps.now.ledger) (g.G.Ledger.count c.sealed_reply.new.steps.ledger) mid c.in_ok-reply.ensures.counted)

pub returns-in_err-issuers-clause-acts : goal.returns-in_err-issuers-clause-acts
returns-in_err-issuers-clause-acts g c =
    let p = err_from_is_err_and c.from_residual.result c.from_residual.ensures.1 in
    rw (p.1, p.2) c.in_err-issuers.ensures.acts

pub returns-in_err-issuers-clause-walked : goal.returns-in_err-issuers-clause-walked
returns-in_err-issuers-clause-walked g c =
    let p = err_from_is_err_and c.from_residual.result c.from_residual.ensures.1 in
    rw p.1 c.in_err-issuers.ensures.walked

pub returns-in_err-reply-clause-acts : goal.returns-in_err-reply-clause-acts
returns-in_err-reply-clause-acts g c =
    let p = err_from_is_err_and c.from_residual-in_err-reply.result c.from_residual-in_err-reply.ensures.1 in
    rw (p.1, p.2) (acts-around {A = ℕ} c.args.call.now c.args.call.now c.found_issuers.new.call _ (Err halt.Memory) (c.in_ok-issuers.ensures.acts, tt) (record { commons = refl; pass = refl; trace = refl; steps = refl }) (record { commons = refl; pass = refl; trace = refl; steps = refl }) refl refl refl refl)

pub returns-clause-acts : goal.returns-clause-acts
returns-clause-acts g c =
    acts-around c.args.call.now c.args.call.now c.found_issuers.new.call _ (Ok c.in_ok-reply.reply) c.in_ok-issuers.ensures.acts (record { commons = refl; pass = refl; trace = refl; steps = refl }) (record { commons = refl; pass = refl; trace = refl; steps = refl }) refl refl refl refl
