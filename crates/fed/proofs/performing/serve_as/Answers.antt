use Rattle.std.proofs.Common.{rules, refl}
use Rattle.fed.proofs.AuthorityLaws.{runs_service}
use Rattle.fed.proofs.RehearsalLaws.{rehearses_service}
use Rattle.fed.proofs.ResolveLaws.{authority-other, holds-none, resolves_service}
use Rattle.fed.proofs.ResolverLaws.{runs_resolver}
use Rattle.fed.proofs.performing.serve_as.Goals as goal

pub returns-in-Authority-clause-runs : goal.returns-in-Authority-clause-runs
returns-in-Authority-clause-runs g c =
    runs_service _ c.args.service _ _ _ _ c.in-Authority.config_file c.in-Authority.port c.in-Authority.connections c.in-Authority.stream (search rules) c.serve-status.ensures.runs c.requires.joined

pub returns-in-Authority-clause-worn : goal.returns-in-Authority-clause-worn
returns-in-Authority-clause-worn g c = holds-none _ _ c.requires.worn (authority-other _ _ _ _ _ c.serve-status.ensures.runs)

pub returns-in-Resolve-clause-runs : goal.returns-in-Resolve-clause-runs
returns-in-Resolve-clause-runs g c =
    resolves_service _ c.args.service _ _ _ _ c.in-Resolve.config_file c.in-Resolve.sub c.in-Resolve.anchor c.in-Resolve.heed _ (search rules) c.new-types.ensures c.resolve_as-status.ensures.runs c.requires.joined

pub returns-in-Resolver-clause-runs : goal.returns-in-Resolver-clause-runs
returns-in-Resolver-clause-runs g c = runs_resolver _ c.args.service _ _ _ _ _ _ _ (search rules) c.serve_as_resolver-status.ensures.runs

pub returns-in-Rehearse-clause-runs : goal.returns-in-Rehearse-clause-runs
returns-in-Rehearse-clause-runs g c = rehearses_service _ c.args.service _ _ _ _ c.in-Rehearse.params (search rules) c.rehearse.ensures.runs refl refl c.requires.joined
