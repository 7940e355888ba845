-- Where a node's files aren't of their form, the line says so.
use Rattle.std.proofs.Common.{◌≡◌, ◌⊎◌, ◌<◌, ℕ, refl, subst, sym, ◌∙◌, inl, inr, arith, lit<}
use Rattle.turn_log.specs.declared.pass.PassSeat.{PassSeat}
use Rattle.turn_log.specs.declared.group.Group.{Group}
use Rattle.statement_shelf.specs.Book.{Book}
use Rattle.statement_shelf.specs.Entries.{Part}
use Rattle.statement_shelf.specs.declared.calls.ShelfCall.{ShelfCall}
use Rattle.statement_shelf.specs.declared.calls.ShelfReply.{ShelfReply}
use Rattle.statement_shelf.specs.declared.calls.BookCall.{BookCall}
use Rattle.statement_shelf.specs.declared.calls.BookReply.{BookReply}
use Rattle.authority_core.specs.Nodes.{Node}
use Rattle.node_service.specs.Connections.{Connection}
use Rattle.node_service.specs.Streams.{IsAnsweredBy}
use Rattle.node_service.specs.declared.service.ServiceEnd.{ServiceEnd}
use Rattle.node_service.specs.declared.service.ServiceEnd.TheVariants as ends
use Rattle.node_service.specs.Ends.{At, Ends}
use Rattle.node_files.specs.Orders.{Order}
use Rattle.std.specs.Prelude.{Bool, List, None, Option}
use Rattle.resolver_service.specs.Batches.{ServiceViews}
use Rattle.cli_words.specs.declared.service.Service.{Service}
use Rattle.cli_words.specs.declared.service.Service.TheVariants.{Authority}
use Rattle.fed.specs.Authorities.{HasNoNode, Outside, RunsAuthority, WritesLine, input_line}
use Rattle.fed.specs.Services.{RunsService}

no_node : {P A : Type 0} (answers : Node → Connection P A → Type 0) (order : Order) (before now : At P) (end : ServiceEnd) → end ≡ ends.Input → Ends answers order before now end
    → HasNoNode order before now
no_node answers order before now end is e = record { none = e.input is; unserved = e.unserved is }

-- no status above 4
not_silent : (s n : ℕ) → s ≡ n → n < 5 → (s ≡ 5) ⊎ ((s ≡ 6) ⊎ (s ≡ 7)) → ⊥
not_silent s n is small (inl e) = absurd (omega (arith, is, small, e))
not_silent s n is small (inr (inl e)) = absurd (omega (arith, is, small, e))
not_silent s n is small (inr (inr e)) = absurd (omega (arith, is, small, e))

pub runs_input : {P A : Type 0} (answers : Node → Connection P A → Type 0) (order : Order) (before now : Outside P) (end : ServiceEnd) (status : ℕ) → end ≡ ends.Input
    → Ends answers order before.node now.node end → WritesLine 2 input_line before.held now.held before.write_faults now.write_faults status
    → now.exchanges ≡ before.exchanges → RunsAuthority answers order before now status
runs_input answers order before now end status is e (inl (done, written, same)) shut = record {
  done = λ zero. absurd (omega (arith, done, zero));
  input = λ two. (no_node answers order before.node now.node end is e, written);
  cut = λ four. absurd (omega (arith, done, four));
  sink = record { only = λ four. absurd (omega (arith, done, four)); always = λ less. absurd (omega (arith, same, less)) };
  store = record { only = λ six. absurd (omega (arith, done, six)); always = λ less. absurd (cc (sym is ∙ e.store.always less)) };
  network = record { only = λ seven. absurd (omega (arith, done, seven)); always = λ less. absurd (cc (sym is ∙ e.network.always less)) };
  unread = λ six. absurd (omega (arith, done, six));
  failed = λ seven. absurd (omega (arith, done, seven));
  dropped = λ five. absurd (omega (arith, done, five));
  silent = λ either. absurd (not_silent status 2 done (lit< tt) either);
  exchanges = shut;
  files = e.files;
  range = inr (inl done);
}
runs_input answers order before now end status is e (inr (four, (n, written), rose)) shut = record {
  done = λ zero. absurd (omega (arith, four, zero));
  input = λ two. absurd (omega (arith, four, two));
  cut = λ _. (n, inr ((no_node answers order before.node now.node end is e, written)));
  sink = record { only = λ _. rose; always = λ _. four };
  store = record { only = λ six. absurd (omega (arith, four, six)); always = λ less. absurd (cc (sym is ∙ e.store.always less)) };
  network = record { only = λ seven. absurd (omega (arith, four, seven)); always = λ less. absurd (cc (sym is ∙ e.network.always less)) };
  unread = λ six. absurd (omega (arith, four, six));
  failed = λ seven. absurd (omega (arith, four, seven));
  dropped = λ five. absurd (omega (arith, four, five));
  silent = λ either. absurd (not_silent status 4 four (lit< tt) either);
  exchanges = shut;
  files = e.files;
  range = inr (inr (inl four));
}

pub runs_memory : {P A : Type 0} (answers : Node → Connection P A → Type 0) (order : Order) (before now : Outside P) (end : ServiceEnd) → end ≡ ends.Memory
    → Ends answers order before.node now.node end → now.held ≡ before.held → now.write_faults ≡ before.write_faults → now.exchanges ≡ before.exchanges
    → RunsAuthority answers order before now 5
runs_memory answers order before now end is e held faults shut = record {
  done = λ zero. absurd (omega (arith, zero));
  input = λ two. absurd (omega (arith, two));
  cut = λ four. absurd (omega (arith, four));
  sink = record { only = λ four. absurd (omega (arith, four)); always = λ less. absurd (omega (arith, faults, less)) };
  store = record { only = λ six. absurd (omega (arith, six)); always = λ less. absurd (cc (sym is ∙ e.store.always less)) };
  network = record { only = λ seven. absurd (omega (arith, seven)); always = λ less. absurd (cc (sym is ∙ e.network.always less)) };
  unread = λ six. absurd (omega (arith, six));
  failed = λ seven. absurd (omega (arith, seven));
  dropped = λ five. e.memory is;
  silent = λ either. held;
  exchanges = shut;
  files = e.files;
  range = inr (inr (inr (inl refl)));
}

-- a service is run as an authority's is, where it is one
pub runs_service : {P N C S T : Type 0} (views : ServiceViews P N C) (service : Service) (before now : Outside P) (joined : Option (Group (PassSeat S Part ShelfCall ShelfReply) (PassSeat T Book BookCall BookReply))) (status : ℕ) (config : List ℕ) (port connections : ℕ) (stream : Bool)
    → service ≡ Authority config port connections stream → RunsAuthority (IsAnsweredBy stream views.peer) (record { config = config; post = record { port = port; connections = connections } }) before now status
    → joined ≡ None → RunsService views service before now joined status
runs_service views service before now joined status config port connections stream is runs none = subst (λ s. RunsService views s before now joined status) (sym is) (runs, none)
