use Rattle.std.proofs.Common.{sym, subst, ◌∙◌}
use Rattle.std.specs.Prelude.{IfSome}
use Rattle.jws_form.specs.Compact.{IsCompact}
use Rattle.trust_mark.specs.Claims.{status_claims}
use Rattle.trust_mark.specs.Signed.{status_answer_of}
use Rattle.trust_mark.proofs.ReadingLaws.{kept-reading}
use Rattle.trust_mark.proofs.signed.signed_answer.Goals as goal

pub returns-in-Some : goal.returns-in-Some
unfolding status_answer_of
returns-in-Some c =
    let splits = sym c.in-Some.is ∙ c.in_ok-compact.ensures.exact in
    let is = subst (λ o. IfSome o (IsCompact c.args.text.now)) c.in-Some.is c.in_ok-compact.ensures.found in
    kept-reading status_claims c.args.text.now c.in-Some.compact splits is c.read-read.result c.kept.result c.read-read.ensures.exact c.kept.ensures
