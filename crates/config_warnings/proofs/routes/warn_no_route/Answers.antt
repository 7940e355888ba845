use Rattle.std.proofs.Common.{◌∙◌}
use Rattle.config_warnings.specs.declared.warning.Kind.TheVariants.{NoRoute}
use Rattle.config_warnings.proofs.Gathering.{same_place}
use Rattle.config_warnings.proofs.routes.warn_no_route.Goals as goal

pub returns : goal.returns
returns c =
    same_place c.warn.result c.args.out.now c.warn.new.out NoRoute c.as_slice.result.now _ c.args.host.now c.warn.ensures (c.as_slice.ensures ∙ c.in_ok-place.ensures)
