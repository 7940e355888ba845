-- What an authority answers with beside its node and its clock.
use Rattle.std.specs.Prelude.{None}
use Rattle.fed_base.specs.Ledgers.{plain_count}
use Rattle.fed_serve.specs.Resolutions.{CallAt, call_at}
use Rattle.turn_log.specs.Groups.{known}
use Rattle.node_service.specs.declared.tools.Tools.{Tools}

-- what a call is made with by these: the link gets nothing, and never fails
abbrev pub call_with : Tools → CallAt
call_with tools = call_at (known tools.pass) None tools.link.calls 0 (plain_count tools.steps.ledger)
