use Rattle.std.proofs.Common.{codes, unwrap_or, sym, ap, ◌∙◌}
use Rattle.fed_json.specs.Trees.{find}
use Rattle.fed_json.specs.Metadata.{is_metadata}
use Rattle.entity_statement.specs.Claims.{no_metadata}
use Rattle.entity_statement.proofs.reading.read_claims.Goals as goal

pub invariant_of-result : goal.invariant_of-result
invariant_of-result c =
    record {
      issued = c.in_ok-common.ensures.issued;
      ends = c.in_ok-common.ensures.ends;
      once = c.in-Ok.ensures.once;
      parameters =
          ap is_metadata (c.take_metadata.ensures ∙ ap (λ ms. unwrap_or (find (codes "metadata") ms) no_metadata) (sym c.as_slice-2.ensures))
          ∙ c.in-Ok.ensures.parameters;
      names = c.in-Ok.ensures.names;
      marks_utf8 = c.in-Ok.ensures.marks_utf8;
      issuers_utf8 = c.in-Ok.ensures.issuers_utf8;
      owners_utf8 = c.in-Ok.ensures.owners_utf8;
    }
