use Rattle.std.proofs.Common.{refl}
use Rattle.resolver_service.proofs.DeskLaws.{no_calls, uncalled_at}
use Rattle.resolver_service.proofs.ShareLaws.{have_halves}
use Rattle.resolver_service.proofs.desks.desk_with.Goals as goal

pub returns-in-Ok-clause-new : goal.returns-in-Ok-clause-new
returns-in-Ok-clause-new g c = record {
  free = refl;
  pass = no_calls _ _ c.in-Ok.ensures.untaken;
  routed = refl;
  silent = c.requires.silent;
  uncalled = uncalled_at _ _ _ _ c.requires.calls c.requires.faults c.new.ensures;
  unread = c.requires.readings;
}

pub returns-in-Ok-clause-ready : goal.returns-in-Ok-clause-ready
returns-in-Ok-clause-ready g c = record { peer = refl; result = refl; pass = c.in-Ok.ensures.of_result }

pub returns-in-Ok-clause-halves : goal.returns-in-Ok-clause-halves
returns-in-Ok-clause-halves g c = have_halves _ _ _ c.in-Ok.ensures.halved c.in-Ok.ensures.untaken
