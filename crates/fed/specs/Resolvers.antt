-- What `resolver` does: the outside before and after, the pass that is handed out, and the status.
use Rattle.std.specs.Prelude.{◌≡◌, ◌≢◌, ℕ, Option, Some, None}
use Rattle.turn_log.specs.Groups.{known}
use Rattle.turn_log.specs.Runs.{call_limit}
use Rattle.turn_log.specs.declared.pass.PassSeat.{PassSeat}
use Rattle.turn_log.specs.declared.group.Group.{Group}
use Rattle.statement_shelf.specs.Book.{Book}
use Rattle.statement_shelf.specs.Entries.{Part}
use Rattle.statement_shelf.specs.declared.calls.ShelfCall.{ShelfCall}
use Rattle.statement_shelf.specs.declared.calls.ShelfReply.{ShelfReply}
use Rattle.statement_shelf.specs.declared.calls.BookCall.{BookCall}
use Rattle.statement_shelf.specs.declared.calls.BookReply.{BookReply}
use Rattle.statement_shelf.specs.Passes.{CommonsKnown}
use Rattle.resolve_round.specs.Acts.{HasCounted}
use Rattle.http_plain.specs.Networks.{network_at}
use Rattle.node_files.specs.Orders.{Order}
use Rattle.resolver_service.specs.declared.ending.ResolverEnd.{ResolverEnd}
use Rattle.resolver_service.specs.declared.ending.ResolverEnd.TheVariants as ends
use Rattle.resolver_service.specs.Batches.{ServiceViews}
use Rattle.resolver_service.specs.Ends.{At, Ends, around}
use Rattle.node_files.specs.Moments.{at_moment}
use Rattle.fed.specs.Authorities.{Outside, input_line, served_line}
use Rattle.fed.specs.Resolving.{IsSilent, Writes, Written, written_in}

-- the outside as a resolver sees it
abbrev pub seen_by_resolver : {P : Type 0} → Outside P → At P
seen_by_resolver o =
    at_moment o.node.files o.node.store_faults
    (around (network_at o.node.around.service.port o.exchanges o.node.around.service.callers o.node.around.service.settled o.node.around.faults) o.node.around.service.clock)

-- what is written, and the status, by how it ended
abbrev pub IsEndTold : ℕ → ResolverEnd → Written → Written → ℕ → Type 0
IsEndTold connections (ends.Served pass) before now status = Writes 0 (served_line connections) before now status
IsEndTold connections ends.Input before now status = Writes 2 input_line before now status
IsEndTold connections ends.StoreFailed before now status = IsSilent 6 before now status
IsEndTold connections ends.NetworkFailed before now status = IsSilent 7 before now status
IsEndTold connections ends.Unsettled before now status = IsSilent 7 before now status
IsEndTold connections ends.Memory before now status = IsSilent 5 before now status
IsEndTold connections (ends.Worn pass) before now status = IsSilent 8 before now status

-- a pass that all were served with knows this
abbrev pub IsServedWith : ResolverEnd → CommonsKnown → Type 0
IsServedWith (ends.Served pass) joined = joined ≡ known pass
IsServedWith end joined = ⊥

-- where a shared object was worn, the pass has seen all the 2^62 calls on one
abbrev pub HasCountedAt : ResolverEnd → Type 0
HasCountedAt (ends.Worn pass) = HasCounted (known pass) call_limit
HasCountedAt end = Unit {0}

module _ {S T : Type 0} where
  -- a pass is handed out exactly after status 0: that into which the passes of all desks were joined
  pub record JoinsBy (end : ResolverEnd) (joined : Option (Group (PassSeat S Part ShelfCall ShelfReply) (PassSeat T Book BookCall BookReply))) (status : ℕ) : Type 0 where
    pub held : status ≡ 0 → (pass : Group (PassSeat S Part ShelfCall ShelfReply) (PassSeat T Book BookCall BookReply)) × (joined ≡ Some pass) × IsServedWith end (known pass)
    pub none : status ≢ 0 → joined ≡ None

module _ {P N C S T : Type 0} where
  -- it served and ended so, and that is written and told by the status
  pub record RunsResolver (views : ServiceViews P N C) (order : Order) (before now : Outside P) (joined : Option (Group (PassSeat S Part ShelfCall ShelfReply) (PassSeat T Book BookCall BookReply))) (status : ℕ) : Type 0 where
    pub end : ResolverEnd
    pub ended : Ends views order (seen_by_resolver before) (seen_by_resolver now) end
    pub told : IsEndTold order.post.connections end (written_in before) (written_in now) status
    pub joins : JoinsBy end joined status
