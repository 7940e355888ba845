use Rattle.std.proofs.Common.{sym, ap, ◌∙◌}
use Rattle.trust_mark.proofs.CountLaws.{zero-counted}
use Rattle.mark_status.specs.Stages.{asking_by}
use Rattle.mark_status.specs.Tells.{tell_of_status}
use Rattle.mark_status.proofs.AnswerLaws.{about-tests, about-told, stray-tests, stray-told}
use Rattle.mark_status.proofs.question.Question.tell_by.Goals as goal
use Rattle.fed_base.specs.Counts.{counted}

pub returns-then-not-is_answered-clause-tell : goal.returns-then-not-is_answered-clause-tell
returns-then-not-is_answered-clause-tell g c =
    let here = asking_by c.args.mark.now c.args.self.now in
    let other = sym c.is_answered.ensures ∙ c.if-not-is_answered.true in
    sym (ap tell_of_status (stray-told here c.args.signed.now.compact.whole c.args.signed.now.claims c.requires.0 other))

pub returns-then-not-is_answered-clause-counted : goal.returns-then-not-is_answered-clause-counted
returns-then-not-is_answered-clause-counted g c =
    let here = asking_by c.args.mark.now c.args.self.now in
    let other = sym c.is_answered.ensures ∙ c.if-not-is_answered.true in
    zero-counted _ _ (stray-tests here c.args.signed.now.compact.whole c.args.signed.now.claims c.requires.0 other)

pub returns-then-not-branch-clause-tell : goal.returns-then-not-branch-clause-tell
returns-then-not-branch-clause-tell g c =
    let here = asking_by c.args.mark.now c.args.self.now in
    let about = sym c.is_answered.ensures ∙ c.if-not-is_answered.false in
    let unsealed = sym c.in_ok-is_sealed.ensures.test ∙ c.if-not-branch.true in
    sym (ap tell_of_status (about-told here c.args.signed.now.compact.whole c.args.signed.now.claims c.requires.0 _ about unsealed))

pub returns-then-not-branch-clause-counted : goal.returns-then-not-branch-clause-counted
returns-then-not-branch-clause-counted g c =
    let here = asking_by c.args.mark.now c.args.self.now in
    let about = sym c.is_answered.ensures ∙ c.if-not-is_answered.false in
    let tests = about-tests here c.args.signed.now.compact.whole c.args.signed.now.claims c.requires.0 about in
    c.in_ok-is_sealed.ensures.counted ∙ ap (λ n. counted n (g.L.Ledger.count c.args.steps.now.ledger)) (sym tests)

pub returns-clause-tell : goal.returns-clause-tell
returns-clause-tell g c =
    let here = asking_by c.args.mark.now c.args.self.now in
    let about = sym c.is_answered.ensures ∙ c.if-not-is_answered.false in
    let sealed = sym c.in_ok-is_sealed.ensures.test ∙ c.if-not-branch.false in
    c.of.ensures ∙ sym (ap tell_of_status (about-told here c.args.signed.now.compact.whole c.args.signed.now.claims c.requires.0 _ about sealed))

pub returns-clause-counted : goal.returns-clause-counted
returns-clause-counted g c =
    let here = asking_by c.args.mark.now c.args.self.now in
    let about = sym c.is_answered.ensures ∙ c.if-not-is_answered.false in
    let tests = about-tests here c.args.signed.now.compact.whole c.args.signed.now.claims c.requires.0 about in
    c.in_ok-is_sealed.ensures.counted ∙ ap (λ n. counted n (g.L.Ledger.count c.args.steps.now.ledger)) (sym tests)
