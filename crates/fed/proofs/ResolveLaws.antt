-- What is told of a call, and the pass that is held then.
use Rattle.std.proofs.Common.{◌≡◌, ◌≢◌, ◌≤◌, ◌<◌, ◌⊎◌, ℕ, List, [], Bool, true, false, Option, Some, None, Result, Ok, Err, IfSome, refl, subst, sym, inl, inr, arith, lit<}
use Rattle.authority_core.specs.Nodes.{Node}
use Rattle.node_service.specs.Connections.{Connection}
use Rattle.node_service.specs.Streams.{IsAnsweredBy}
use Rattle.node_files.specs.Orders.{Order}
use Rattle.node_files.specs.declared.fault.NodeFault.{NodeFault}
use Rattle.node_files.specs.declared.fault.NodeFault.TheVariants as fault
use Rattle.turn_log.specs.declared.pass.PassSeat.{PassSeat}
use Rattle.turn_log.specs.declared.group.Group.{Group}
use Rattle.statement_shelf.specs.Book.{Book}
use Rattle.statement_shelf.specs.Entries.{Part}
use Rattle.statement_shelf.specs.declared.calls.ShelfCall.{ShelfCall}
use Rattle.statement_shelf.specs.declared.calls.ShelfReply.{ShelfReply}
use Rattle.statement_shelf.specs.declared.calls.BookCall.{BookCall}
use Rattle.statement_shelf.specs.declared.calls.BookReply.{BookReply}
use Rattle.resolve_reply.specs.declared.reply.Reply.{Reply}
use Rattle.fed_resolver.specs.declared.outcome.Outcome.{Outcome}
use Rattle.fed_resolver.specs.declared.outcome.Refusal.{Refusal}
use Rattle.fed_resolver.specs.declared.outcome.Refusal.TheVariants.{NoAnchor, NotFound, PolicyOnly, NoChain, Unavailable, Budget, Worn, Memory}
use Rattle.heeded_reply.specs.declared.reply.HeededReply.{HeededReply}
use Rattle.heeded_reply.specs.declared.reply.Heard.{Heard}
use Rattle.heeded_reply.specs.Calls.{outcome_of}
use Rattle.resolve_call.specs.Calls.{HoldsWorn, Question, WornBy}
use Rattle.resolver_service.specs.Batches.{ServiceViews}
use Rattle.cli_words.specs.declared.service.Service.{Service}
use Rattle.cli_words.specs.declared.service.Service.TheVariants.{Authority, Rehearse, Resolve, Resolver}
use Rattle.fed.specs.Authorities.{Outside, RunsAuthority, WritesLine}
use Rattle.rehearsal.specs.declared.fault.RehearsalFault.TheVariants as rehearsal_fault
use Rattle.fed.specs.Rehearsals.{RunsRehearsal}
use Rattle.resolver_service.specs.declared.ending.ResolverEnd.TheVariants as ends
use Rattle.fed.specs.Resolvers.{RunsResolver}
use Rattle.fed.specs.Heeding.{AreLinesTold, IsHeard, IsHeardBy, RunsHeed}
use Rattle.fed.specs.Resolving.{HoldsBy, IsSilent, IsTold, IsToldBy, RunsResolve, Written, seen_by_call}
use Rattle.fed.specs.Services.{RunsResolving, RunsService}

-- ---- statuses other than 8

pub lines-other : (status : ℕ) (line : List ℕ) (old new : Option (List ℕ)) (before now result : ℕ) → WritesLine status line old new before now result → status < 8 → result ≢ 8
lines-other status line old new before now result (inl (is, written, same)) small eight = absurd (omega (arith, is, small, eight))
lines-other status line old new before now result (inr (four, written, rose)) small eight = absurd (omega (arith, four, eight))

pub silent-other : (status : ℕ) (before now : Written) (result : ℕ) → IsSilent status before now result → status < 8 → result ≢ 8
silent-other status before now result (is, same) small eight = absurd (omega (arith, is, small, eight))

pub authority-other : {P A : Type 0} (answers : Node → Connection P A → Type 0) (order : Order) (before now : Outside P) (status : ℕ) → RunsAuthority answers order before now status → status ≢ 8
authority-other answers order before now status runs eight = other runs.range
  where
    other : (status ≡ 0) ⊎ ((status ≡ 2) ⊎ ((status ≡ 4) ⊎ ((status ≡ 5) ⊎ ((status ≡ 6) ⊎ (status ≡ 7))))) → ⊥
    other (inl is) = absurd (omega (arith, is, eight))
    other (inr (inl is)) = absurd (omega (arith, is, eight))
    other (inr (inr (inl is))) = absurd (omega (arith, is, eight))
    other (inr (inr (inr (inl is)))) = absurd (omega (arith, is, eight))
    other (inr (inr (inr (inr (inl is))))) = absurd (omega (arith, is, eight))
    other (inr (inr (inr (inr (inr is))))) = absurd (omega (arith, is, eight))

pub small-other : (status most : ℕ) → status ≤ most → most < 8 → status ≢ 8
small-other status most within small eight = absurd (omega (arith, within, small, eight))

-- ---- the pass

module _ {S T : Type 0} (worn : Option (Group (PassSeat S Part ShelfCall ShelfReply) (PassSeat T Book BookCall BookReply))) where
  -- none is held, and the status is another
  pub holds-none : (status : ℕ) → worn ≡ None → status ≢ 8 → HoldsBy worn status
  holds-none status none other = record { held = λ eight. absurd (other eight); none = λ _. none }

  -- one is held where an object was worn, and that is status 8
  pub holds-told : (result : Result Reply Refusal) (before now : Written) (status : ℕ) → HoldsWorn result worn → IsToldBy result before now status → HoldsBy worn status
  holds-told (Ok reply) before now status none (inl told) = holds-none status none (lines-other _ _ _ _ _ _ status told (lit< tt))
  holds-told (Ok reply) before now status none (inr told) = holds-none status none (silent-other _ before now status told (lit< tt))
  holds-told (Err NoAnchor) before now status none told = holds-none status none (lines-other _ _ _ _ _ _ status told (lit< tt))
  holds-told (Err NotFound) before now status none told = holds-none status none (lines-other _ _ _ _ _ _ status told (lit< tt))
  holds-told (Err PolicyOnly) before now status none told = holds-none status none (lines-other _ _ _ _ _ _ status told (lit< tt))
  holds-told (Err NoChain) before now status none told = holds-none status none (lines-other _ _ _ _ _ _ status told (lit< tt))
  holds-told (Err Unavailable) before now status none told = holds-none status none (silent-other _ before now status told (lit< tt))
  holds-told (Err (Budget calls paths)) before now status none told = holds-none status none (λ eight. nine status told.0 eight)
    where
      nine : (status : ℕ) → status ≡ 9 → status ≡ 8 → ⊥
      nine status is eight = absurd (omega (arith, is, eight))
  holds-told (Err (Worn count)) before now status held told = record { held = λ _. held; none = λ other. absurd (other told.0) }
  holds-told (Err Memory) before now status none told = holds-none status none (silent-other _ before now status told (lit< tt))

  -- there is no node
  pub holds-fault : (e : NodeFault) (before now : Written) (status : ℕ) → worn ≡ None → IsTold (Err e) before now status → HoldsBy worn status
  holds-fault fault.Input before now status none told = holds-none status none (lines-other _ _ _ _ _ _ status told (lit< tt))
  holds-fault fault.Store before now status none told = holds-none status none (silent-other _ before now status told (lit< tt))
  holds-fault fault.Memory before now status none told = holds-none status none (silent-other _ before now status told (lit< tt))

  -- the reply's marks were asked about
  holds-lines : (heeded : Option HeededReply) (before now : Written) (status : ℕ) → worn ≡ None → AreLinesTold heeded before now status → HoldsBy worn status
  holds-lines (Some heeded) before now status none (inl told) = holds-none status none (lines-other _ _ _ _ _ _ status told (lit< tt))
  holds-lines (Some heeded) before now status none (inr told) = holds-none status none (silent-other _ before now status told (lit< tt))
  holds-lines None before now status none told = holds-none status none (silent-other _ before now status told (lit< tt))

  holds-result : (result : Result Reply Refusal) (heeded : Option HeededReply) (before now : Written) (status : ℕ) → HoldsWorn result worn → IsHeardBy result heeded before now status
      → HoldsBy worn status
  holds-result (Ok reply) heeded before now status none told = holds-lines heeded before now status none told
  holds-result (Err refusal) heeded before now status held told = holds-told (Err refusal) before now status held told

  pub holds-heard : (heard : Result Heard NodeFault) (before now : Written) (status : ℕ) → WornBy (outcome_of heard) worn → IsHeard heard before now status → HoldsBy worn status
  holds-heard (Ok heard) before now status held told = holds-result heard.outcome.result heard.reply before now status held told
  holds-heard (Err e) before now status none told = holds-fault e before now status none told

  -- or there may be none
  pub holds-called : (called : Result Outcome NodeFault) (before now : Written) (status : ℕ) → WornBy called worn → IsTold called before now status → HoldsBy worn status
  holds-called (Ok outcome) before now status held told = holds-told outcome.result before now status held told
  holds-called (Err e) before now status none told = holds-fault e before now status none told

-- ---- the service

-- a service resolves as it is asked to, where that is what it does
pub resolves_service : {P N C S T : Type 0} (views : ServiceViews P N C) (service : Service) (before now : Outside P) (joined : Option (Group (PassSeat S Part ShelfCall ShelfReply) (PassSeat T Book BookCall BookReply))) (status : ℕ) (config sub anchor : List ℕ) (heed : Bool) (types : List (List ℕ))
    → service ≡ Resolve config sub anchor heed → types ≡ []
    → RunsResolving heed (record { config = config; request = record { sub = sub; anchor = anchor; types = types } }) before now status → joined ≡ None → RunsService views service before now joined status
resolves_service views service before now joined status config sub anchor heed types is none runs unjoined =
    subst (λ s. RunsService views s before now joined status) (sym is)
    (subst (λ ts. RunsResolving heed (record { config = config; request = record { sub = sub; anchor = anchor; types = ts } }) before now status) none runs, unjoined)

-- ---- memory was wanting for the words

unserved : {P A : Type 0} (answers : Node → Connection P A → Type 0) (order : Order) (o : Outside P) → RunsAuthority answers order o o 5
unserved answers order o = record {
  done = λ zero. absurd (omega (arith, zero));
  input = λ two. absurd (omega (arith, two));
  cut = λ four. absurd (omega (arith, four));
  sink = record { only = λ four. absurd (omega (arith, four)); always = λ less. absurd (omega (arith, less)) };
  store = record { only = λ six. absurd (omega (arith, six)); always = λ less. absurd (omega (arith, less)) };
  network = record { only = λ seven. absurd (omega (arith, seven)); always = λ less. absurd (omega (arith, less)) };
  unread = λ six. refl;
  failed = λ seven. absurd (omega (arith, seven));
  dropped = λ five. inl refl;
  silent = λ either. refl;
  exchanges = refl;
  files = refl;
  range = inr (inr (inr (inl refl)));
}

unresolved : {P : Type 0} (question : Question) (o : Outside P) → RunsResolve question o o 5
unresolved question o = record {
  result = Err fault.Memory;
  resolves = record { calls = record { input = λ is. cc is; unasked = refl }; files = refl; store = refl };
  told = (refl, refl);
  still = refl;
}

unheeded : {P : Type 0} (question : Question) (o : Outside P) → RunsHeed question o o 5
unheeded question o = record {
  result = Err fault.Memory;
  heeds = record {
    between = seen_by_call o;
    resolves = record { calls = record { input = λ is. cc is; unasked = refl }; files = refl; store = refl };
    hears = refl;
    clock = refl;
    files = refl;
    store = refl;
  };
  told = (refl, refl);
  still = refl;
}

unresolved_as : {P : Type 0} (heed : Bool) (question : Question) (o : Outside P) → RunsResolving heed question o o 5
unresolved_as false question o = unresolved question o
unresolved_as true question o = unheeded question o

unrehearsed : {P : Type 0} (params : ℕ) (o : Outside P) → RunsRehearsal params o o 5
unrehearsed params o = record {
  rehearsed = record { result = Err rehearsal_fault.Memory; rehearses = tt; told = (refl, refl) };
  node = refl;
  exchanges = refl;
}

module _ {P N C S T : Type 0} (views : ServiceViews P N C) (joined : Option (Group (PassSeat S Part ShelfCall ShelfReply) (PassSeat T Book BookCall BookReply))) (none : joined ≡ None) where
  pub unserved_resolver : (order : Order) (o : Outside P) → RunsResolver views order o o joined 5
  unserved_resolver order o = record {
    end = ends.Memory;
    ended = record { ended = ((refl, refl), inl refl); files = refl; exchanges = refl };
    told = (refl, refl);
    joins = record { held = λ zero. absurd (omega (arith, zero)); none = λ _. none };
  }

  unrun : (service : Service) (o : Outside P) → RunsService views service o o joined 5
  unrun (Authority config port connections stream) o = (unserved (IsAnsweredBy stream views.peer) (record { config = config; post = record { port = port; connections = connections } }) o, none)
  unrun (Resolver config port connections) o = unserved_resolver (record { config = config; post = record { port = port; connections = connections } }) o
  unrun (Resolve config sub anchor heed) o = (unresolved_as heed (record { config = config; request = record { sub = sub; anchor = anchor; types = [] } }) o, none)
  unrun (Rehearse params) o = (unrehearsed params o, none)

  -- nothing was done, whatever was asked for
  pub unread_words : {I : Type 0} (asked : Option Service) (input : I) (o : Outside P) → IfSome asked (λ service. (input ≡ input) × RunsService views service o o joined 5)
  unread_words None input o = tt
  unread_words (Some service) input o = (refl, unrun service o)
