use Rattle.std.proofs.Common.{refl}
use Rattle.resolve_call.proofs.call.open_call.Goals as goal

pub returns : goal.returns
returns g c = record {
  signer = refl;
  routes = refl;
  new = record {
    opened = c.in_ok-commons.ensures.opened;
    of = c.in_ok-commons.ensures.of;
    unused = c.in_ok-commons.ensures.unused;
    whole = c.in_ok-commons.ensures.whole;
  };
}
