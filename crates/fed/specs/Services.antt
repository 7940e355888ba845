-- What is done over a network, or over one in memory, by what the words ask for, and the pass that is handed out.
use Rattle.std.specs.Prelude.{◌≡◌, ℕ, [], Bool, true, false, Option, None}
use Rattle.turn_log.specs.declared.pass.PassSeat.{PassSeat}
use Rattle.turn_log.specs.declared.group.Group.{Group}
use Rattle.statement_shelf.specs.Book.{Book}
use Rattle.statement_shelf.specs.Entries.{Part}
use Rattle.statement_shelf.specs.declared.calls.ShelfCall.{ShelfCall}
use Rattle.statement_shelf.specs.declared.calls.ShelfReply.{ShelfReply}
use Rattle.statement_shelf.specs.declared.calls.BookCall.{BookCall}
use Rattle.statement_shelf.specs.declared.calls.BookReply.{BookReply}
use Rattle.node_service.specs.Streams.{IsAnsweredBy}
use Rattle.resolver_service.specs.Batches.{ServiceViews}
use Rattle.resolve_call.specs.Calls.{Question}
use Rattle.cli_words.specs.declared.service.Service.{Service}
use Rattle.cli_words.specs.declared.service.Service.TheVariants.{Authority, Rehearse, Resolve, Resolver}
use Rattle.fed.specs.Authorities.{Outside, RunsAuthority}
use Rattle.fed.specs.Heeding.{RunsHeed}
use Rattle.fed.specs.Rehearsals.{RunsRehearsal}
use Rattle.fed.specs.Resolvers.{RunsResolver}
use Rattle.fed.specs.Resolving.{RunsResolve}

-- an entity is resolved, and where it is asked for the issuers of the reply's marks are asked about them
abbrev pub RunsResolving : {P : Type 0} → Bool → Question → Outside P → Outside P → ℕ → Type 0
RunsResolving false question before now status = RunsResolve question before now status
RunsResolving true question before now status = RunsHeed question before now status

module _ {P N C S T : Type 0} where
  abbrev pub RunsService : ServiceViews P N C → Service → Outside P → Outside P → Option (Group (PassSeat S Part ShelfCall ShelfReply) (PassSeat T Book BookCall BookReply)) → ℕ → Type 0
  RunsService views (Authority config port connections stream) before now joined status =
      RunsAuthority (IsAnsweredBy stream views.peer) (record { config = config; post = record { port = port; connections = connections } }) before now status × (joined ≡ None)
  RunsService views (Resolver config port connections) before now joined status =
      RunsResolver views (record { config = config; post = record { port = port; connections = connections } }) before now joined status
  RunsService views (Resolve config sub anchor heed) before now joined status =
      RunsResolving heed (record { config = config; request = record { sub = sub; anchor = anchor; types = [] } }) before now status × (joined ≡ None)
  RunsService views (Rehearse params) before now joined status = RunsRehearsal params before now status × (joined ≡ None)
