use Rattle.std.proofs.Common.{◌≡◌, get_or, sym, ◌∙◌}
use Rattle.std.specs.Prelude.{fold, min}
use Rattle.chain_check.specs.Reading.{claims_in}
use Rattle.chain_check.proofs.NameLaws.{subject-there}
use Rattle.chain_check.proofs.ResolveLaws.{least-is}
use Rattle.chain_check.proofs.resolving.resolve.Goals as goal

pub returns-clause-resolved : goal.returns-clause-resolved
returns-clause-resolved c =
    let es = c.args.entries.now in
    let ends : c.least_exp.result ≡ fold (λ exp s. min exp s.exp) (get_or es 0 c.index-entries-0-2.result).statement.exp (claims_in es) = c.least_exp.ensures in (
      c.in_ok-metadata.ensures.resolved.0,
      record {
        leaf = c.in_ok-copy.ensures ∙ sym (subject-there es 0 c.index-entries-0.result c.requires);
        exp = ends ∙ least-is es c.index-entries-0-2.result c.requires;
        metadata = c.in_ok-metadata.ensures.resolved.1;
      },
    )
