use Rattle.std.proofs.Common.{◌∙◌, arith}
use Rattle.fed.proofs.ResolveLaws.{holds-none, unserved_resolver}
use Rattle.fed.proofs.ResolverLaws.{counted_of}
use Rattle.fed.proofs.resolver.serve_as_resolver.Goals as goal

pub tell_end-status-requires-clause-counted : goal.tell_end-status-requires-clause-counted
tell_end-status-requires-clause-counted g c = counted_of _ _ _ _ c.serve_resolver-end.result c.serve_resolver-end.ensures.ends

pub returns-clause-runs : goal.returns-clause-runs
returns-clause-runs g c = record {
  end = c.serve_resolver-end.result;
  ended = c.serve_resolver-end.ensures.ends;
  told = c.tell_end-status.ensures.told c.args.order.connections (c.as_slice.ensures ∙ c.in-Ok.ensures);
  joins = c.tell_end-status.ensures.joins;
}

pub returns-in_default-clause-runs : goal.returns-in_default-clause-runs
returns-in_default-clause-runs g c = unserved_resolver _ _ c.requires.joined _ _

pub returns-in_default-clause-worn : goal.returns-in_default-clause-worn
returns-in_default-clause-worn g c = holds-none _ _ c.requires.worn (λ eight. absurd (omega (arith, eight)))
