use Rattle.resolve_world.proofs.Worlds.{has-world}
use Rattle.resolve_world.proofs.laws.calls_are_sessions.Goals as goal

pub returns : goal.returns
returns c = has-world
