use Rattle.std.proofs.Common.{refl, sym, ap, ◌∙◌}
use Rattle.std.proofs.lemmas.Result.{err_from_is_err_and}
use Rattle.sealed.specs.Deciding.{is_sealed_by}
use Rattle.sealed.specs.Tests.{tests_under}
use Rattle.entity_statement.specs.Told.{told}
use Rattle.trust_mark.specs.Marks.{case_of}
use Rattle.trust_mark.proofs.CountLaws.{refused-tests, sealed-counted, unsealed-counted, wanting-counted, zero-counted}
use Rattle.trust_mark.proofs.VerdictLaws.{claims-told, good-told, undelegated-told, unsealed-told}
use Rattle.trust_mark.proofs.verifying.verdict_on.Goals as goal
use Rattle.fed_base.specs.Counts.{counted}

pub returns-in-Some-clause-verdict : goal.returns-in-Some-clause-verdict
returns-in-Some-clause-verdict g c =
    let case = case_of c.args.entry.now c.args.leaf.now (told c.args.anchor.now) c.args.issuer_keys.now.keys c.args.t in
    let read = c.requires in
    let first = sym (c.in-Some.ensures c.args.issuer_keys.now.keys) in
    claims-told case c.args.signed.now.claims read.0 c.in-Some.reason first

pub returns-in-Some-clause-counted : goal.returns-in-Some-clause-counted
returns-in-Some-clause-counted g c =
    let case = case_of c.args.entry.now c.args.leaf.now (told c.args.anchor.now) c.args.issuer_keys.now.keys c.args.t in
    let read = c.requires in
    let first = sym (c.in-Some.ensures c.args.issuer_keys.now.keys) in
    zero-counted _ _ (refused-tests case c.args.signed.now.claims read.0 c.in-Some.reason first)

pub returns-then-not-branch-clause-verdict : goal.returns-then-not-branch-clause-verdict
returns-then-not-branch-clause-verdict g c =
    let case = case_of c.args.entry.now c.args.leaf.now (told c.args.anchor.now) c.args.issuer_keys.now.keys c.args.t in
    let read = c.requires in
    let pass = sym (c.claims_reason.ensures c.args.issuer_keys.now.keys) ∙ c.in_default.is in
    unsealed-told case c.args.signed.now.claims read.0 pass _ read.1 _ c.in_ok-is_sealed.ensures.sealed c.if-not-branch.true

pub returns-then-not-branch-clause-counted : goal.returns-then-not-branch-clause-counted
returns-then-not-branch-clause-counted g c =
    let case = case_of c.args.entry.now c.args.leaf.now (told c.args.anchor.now) c.args.issuer_keys.now.keys c.args.t in
    let read = c.requires in
    let pass = sym (c.claims_reason.ensures c.args.issuer_keys.now.keys) ∙ c.in_default.is in
    let test = ap (λ x. is_sealed_by x c.args.issuer_keys.now.keys) (sym read.1) ∙ sym c.in_ok-is_sealed.ensures.test ∙ c.if-not-branch.true in
    let count = c.in_ok-is_sealed.ensures.counted ∙ ap (λ x. counted (tests_under c.args.issuer_keys.now.keys x) (g.L.Ledger.count c.args.steps.now.ledger)) read.1 in
    unsealed-counted case c.args.signed.now.claims read.0 pass _ _ test count

pub returns-in_err-is_delegated-clause-counted : goal.returns-in_err-is_delegated-clause-counted
returns-in_err-is_delegated-clause-counted g c =
    let case = case_of c.args.entry.now c.args.leaf.now (told c.args.anchor.now) c.args.issuer_keys.now.keys c.args.t in
    let read = c.requires in
    let pass = sym (c.claims_reason.ensures c.args.issuer_keys.now.keys) ∙ c.in_default.is in
    let test = ap (λ x. is_sealed_by x c.args.issuer_keys.now.keys) (sym read.1) ∙ sym c.in_ok-is_sealed.ensures.test ∙ c.if-not-branch.false in
    let count = c.in_ok-is_sealed.ensures.counted ∙ ap (λ x. counted (tests_under c.args.issuer_keys.now.keys x) (g.L.Ledger.count c.args.steps.now.ledger)) read.1 in
    let p = err_from_is_err_and c.from_residual-in_err-is_delegated.result c.from_residual-in_err-is_delegated.ensures.1 in
    rw p.1 (wanting-counted case c.args.signed.now.claims read.0 pass _ _ _ test count c.in_err-is_delegated.ensures.counted)

pub returns-then-not-branch-2-clause-verdict : goal.returns-then-not-branch-2-clause-verdict
returns-then-not-branch-2-clause-verdict g c =
    let case = case_of c.args.entry.now c.args.leaf.now (told c.args.anchor.now) c.args.issuer_keys.now.keys c.args.t in
    let read = c.requires in
    let pass = sym (c.claims_reason.ensures c.args.issuer_keys.now.keys) ∙ c.in_default.is in
    undelegated-told case c.args.signed.now.claims read.0 pass _ read.1 _ c.in_ok-is_sealed.ensures.sealed c.if-not-branch.false _ c.in_ok-is_delegated.ensures.delegated c.if-not-branch-2.true

pub returns-then-not-branch-2-clause-counted : goal.returns-then-not-branch-2-clause-counted
returns-then-not-branch-2-clause-counted g c =
    let case = case_of c.args.entry.now c.args.leaf.now (told c.args.anchor.now) c.args.issuer_keys.now.keys c.args.t in
    let read = c.requires in
    let pass = sym (c.claims_reason.ensures c.args.issuer_keys.now.keys) ∙ c.in_default.is in
    let test = ap (λ x. is_sealed_by x c.args.issuer_keys.now.keys) (sym read.1) ∙ sym c.in_ok-is_sealed.ensures.test ∙ c.if-not-branch.false in
    let count = c.in_ok-is_sealed.ensures.counted ∙ ap (λ x. counted (tests_under c.args.issuer_keys.now.keys x) (g.L.Ledger.count c.args.steps.now.ledger)) read.1 in
    sealed-counted case c.args.signed.now.claims read.0 pass _ _ _ test count c.in_ok-is_delegated.ensures.counted

pub returns-clause-verdict : goal.returns-clause-verdict
returns-clause-verdict g c =
    let case = case_of c.args.entry.now c.args.leaf.now (told c.args.anchor.now) c.args.issuer_keys.now.keys c.args.t in
    let read = c.requires in
    let pass = sym (c.claims_reason.ensures c.args.issuer_keys.now.keys) ∙ c.in_default.is in
    good-told case c.args.signed.now.claims read.0 pass _ read.1 _ c.in_ok-is_sealed.ensures.sealed c.if-not-branch.false _ c.in_ok-is_delegated.ensures.delegated _ refl c.if-not-branch-2.false

pub returns-clause-counted : goal.returns-clause-counted
returns-clause-counted g c =
    let case = case_of c.args.entry.now c.args.leaf.now (told c.args.anchor.now) c.args.issuer_keys.now.keys c.args.t in
    let read = c.requires in
    let pass = sym (c.claims_reason.ensures c.args.issuer_keys.now.keys) ∙ c.in_default.is in
    let test = ap (λ x. is_sealed_by x c.args.issuer_keys.now.keys) (sym read.1) ∙ sym c.in_ok-is_sealed.ensures.test ∙ c.if-not-branch.false in
    let count = c.in_ok-is_sealed.ensures.counted ∙ ap (λ x. counted (tests_under c.args.issuer_keys.now.keys x) (g.L.Ledger.count c.args.steps.now.ledger)) read.1 in
    sealed-counted case c.args.signed.now.claims read.0 pass _ _ _ test count c.in_ok-is_delegated.ensures.counted
