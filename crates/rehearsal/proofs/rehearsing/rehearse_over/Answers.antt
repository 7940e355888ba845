use Rattle.std.proofs.Common.{subst}
use Rattle.std.proofs.lemmas.Result.{IfOk-weaker}
use Rattle.turn_log.specs.Groups.{known}
use Rattle.rehearsal.specs.Configurations.{IsConfigured, resolver_key, resolving_by}
use Rattle.rehearsal.specs.Keys.{ring_of}
use Rattle.rehearsal.proofs.rehearsing.rehearse_over.Goals as goal

pub returns-clause-asked : goal.returns-clause-asked
returns-clause-asked g c =
    let is = c.in_ok-opened.ensures in
    IfOk-weaker c.rehearse_by.result _ _
    (λ summary twice. record {
      resolver = is.node.0;
      configured = subst (λ keys. IsConfigured (resolving_by keys) (ring_of resolver_key) is.node.0) c.as_slice.ensures is.node.1;
      node = c.in_ok-opened.opened.node;
      resolves = is.node.2;
      knows = known c.in_ok-opened.opened.pass;
      parts_unused = is.unused.parts_unused;
      book_unused = is.unused.book_unused;
      asked = twice;
    })
    c.rehearse_by.ensures.asked
