use Rattle.std.proofs.Common.{◌<◌, refl, sym, ap, ◌∙◌, below_more, subst}
use Rattle.entity_statement.specs.Use.{current_at}
use Rattle.entity_statement.specs.declared.signed.SignedStatement.{SignedStatement}
use Rattle.chain_check.proofs.NameLaws.{length-claims}
use Rattle.chain_check.proofs.SignatureLaws.{current-there, not-current-there}
use Rattle.chain_check.proofs.signatures.check_times.Goals as goal

pub returns-then-not-is_current : goal.returns-then-not-is_current
returns-then-not-is_current c =
    let es = c.args.entries.now in (
      refl,
      record {
        within = subst (λ n. c.loop-j.j < n) (sym (length-claims es)) c.loop-j-test.true;
        before = c.loop-j.invariant;
        here = not-current-there es c.loop-j.j c.index-entries-j.result c.args.t c.loop-j-test.true (ap (λ (e : SignedStatement). current_at e.statement.iat e.statement.exp c.args.t) (sym c.index-entries-j.is) ∙ sym c.is_current.ensures ∙ c.if-not-is_current.true);
      },
    )

pub loop-j-preserved : goal.loop-j-preserved
loop-j-preserved c =
    below_more _ _ c.loop-j.invariant (current-there c.args.entries.now c.loop-j.j c.index-entries-j.result c.args.t c.loop-j-test.true (ap (λ (e : SignedStatement). current_at e.statement.iat e.statement.exp c.args.t) (sym c.index-entries-j.is) ∙ sym c.is_current.ensures ∙ c.if-not-is_current.false))
