-- One registration by a node: what is asked for, the outside before and after, and what is answered.
use Rattle.std.specs.Prelude.{◌≡◌, ◌⊎◌, ℕ, List, Option, Some, None, Result, Ok, Err}
use Rattle.fed_base.specs.Counts.{Rose}
use Rattle.fed_ports.specs.declared.source.Source.{Ghosts as SourceGhosts}
use Rattle.fed_ports.specs.Times.{IsOneReading}
use Rattle.jwk_set.specs.declared.jwk.Jwk.{Jwk}
use Rattle.slh_dsa.specs.Keys.{Keys}
use Rattle.entity_statement.specs.Claims.{Identifier}
use Rattle.key_ring.specs.Sets.{signer_keys}
use Rattle.node_config.specs.Nodes.{Resolver}
use Rattle.authority_core.specs.Nodes.{Node}
use Rattle.client_register.specs.declared.fault.RegisterFault.{RegisterFault}
use Rattle.client_register.specs.declared.fault.RegisterFault.TheVariants as fault
use Rattle.client_register.specs.declared.found.Found.{Found}
use Rattle.client_register.specs.declared.posted.Posted.{Posted}
use Rattle.client_register.specs.declared.posted.Posted.TheVariants.{Configuration}
use Rattle.client_register.specs.declared.registered.Registered.{Registered}
use Rattle.client_register.specs.Answers.{Registers}
use Rattle.client_register.specs.Registrations.{Registrar, registrar, request}
use Rattle.client_register.specs.Requests.{IsPosted, posted_in}
use Rattle.turn_log.specs.Groups.{known}
use Rattle.turn_log.specs.Runs.{call_limit}
use Rattle.statement_shelf.specs.Passes.{CommonsPass}
use Rattle.resolve_reply.specs.declared.reply.Reply.{Reply}
use Rattle.resolve_round.specs.declared.request.ResolveRequest.{ResolveRequest}
use Rattle.resolve_round.specs.Acts.{HasCounted}
use Rattle.fed_resolver.specs.declared.outcome.Outcome.{Outcome}
use Rattle.fed_resolver.specs.declared.outcome.Refusal.{Refusal}
use Rattle.cli_commands.specs.Answers.{IsTextRead}
use Rattle.node_files.specs.Moments.{NodeAt}
use Rattle.node_files.specs.NodeFiles.{IsNodeOf, IsResolver}
use Rattle.node_files.specs.ResolvingParts.{configured_keys}
use Rattle.resolve_call.specs.Ports.{Around as CallAround}
use Rattle.resolve_call.specs.Calls.{HoldsWorn, IsCallBy}
use Rattle.register_once.specs.declared.registering.RegisterOutcome.{RegisterOutcome}
use Rattle.register_once.specs.declared.stop.RegisterStop.{RegisterStop}
use Rattle.register_once.specs.declared.stop.RegisterStop.TheVariants.{Input, NoAnchor, Source, Store, Memory}
use Rattle.register_once.specs.Finding.{IsFoundBy, request_for}

-- ---- what is asked for, and of what

-- the name of the node's configuration file, and the trust anchor
pub record Wanted : Type 0 where
  pub config : List ℕ
  pub anchor : Identifier

-- around a registration at one moment: what is left of the input, where it is told, and how often it failed; the clock and the network
pub record Around : Type 0 where
  pub left : Option (List ℕ)
  pub read_faults : ℕ
  pub call : CallAround

abbrev pub around : Option (List ℕ) → ℕ → CallAround → Around
around left read_faults call = record { left = left; read_faults = read_faults; call = call }

-- the same, as a source shows itself
abbrev pub around_seen : {S : Type 0} → SourceGhosts S → S → CallAround → Around
around_seen shown input call = around (shown.left input) (shown.read_faults input) call

-- the same with the files, where they are told, and how often the store failed
abbrev pub At : Type 0
At = NodeAt Around

-- ---- before what was posted is looked at

-- the node of the configuration file resolves, and signs by its newest live key; the input was read to its end, and is this text without
-- the line end that may stand behind it, or it is longer than a file may be
pub record IsRead (w : Wanted) (before now : At) (text : Option (List ℕ)) : Type 0 where
  pub node : Node
  pub is_node : IsNodeOf before.files w.config node
  pub resolver : Resolver
  pub resolves : node.settings.resolver ≡ Some resolver
  pub pair : Keys
  pub signs : signer_keys node.ring ≡ Some pair
  pub read : IsTextRead before.around.left now.around.left before.around.read_faults now.around.read_faults text

-- no file is that of a node that resolves, where the files are told, and the input wasn't read
pub record HasNoNode (w : Wanted) (before now : At) : Type 0 where
  pub none : (node : Node) → IsNodeOf before.files w.config node → IsResolver node → before.files ≡ None
  pub unread : now.around.left ≡ before.around.left

-- the configuration doesn't list the trust anchor
pub record IsUnlisted (w : Wanted) (before now : At) : Type 0 where
  pub posted : List ℕ
  pub is_read : IsRead w before now (Some posted)
  pub none : configured_keys w.anchor is_read.resolver.anchors ≡ None

-- why what was posted isn't looked at; faults of the source and the store are told by their counts
abbrev pub IsStoppedBy : Wanted → At → At → RegisterStop → Type 0
IsStoppedBy w before now Input = HasNoNode w before now ⊎ IsRead w before now None
IsStoppedBy w before now NoAnchor = IsUnlisted w before now
IsStoppedBy w before now stop = Unit {0}

-- and then the clock isn't read, and nobody is asked
pub record IsStopped (w : Wanted) (before now : At) (stop : RegisterStop) : Type 0 where
  pub cause : IsStoppedBy w before now stop
  pub unasked : now.around.call ≡ before.around.call

-- ---- a registration

-- what was found, or nothing where memory was wanting
abbrev pub IsFoundAs : Result Reply Refusal → Option Found → Type 0
IsFoundAs result None = Unit {0}
IsFoundAs result (Some answer) = IsFoundBy result answer

module _ {S T : Type 0} where
  -- one resolve call of the node was made, at the one reading of the clock, and this was found by it
  pub record Seeks (node : Node) (resolver : Resolver) (request : ResolveRequest) (before now : CallAround) (last : Option Found) (held : Option (CommonsPass S T)) : Type 0 where
    pub outcome : Outcome
    pub call : IsCallBy node resolver request before now outcome
    pub answer : IsFoundAs outcome.result last
    pub worn : HoldsWorn outcome.result held

  -- nobody was asked
  pub record IsUnasked (before now : CallAround) (last : Option Found) (held : Option (CommonsPass S T)) : Type 0 where
    pub exchanges : now.exchanges ≡ before.exchanges
    pub faults : now.faults ≡ before.faults
    pub found : last ≡ None
    pub worn : held ≡ None

module _ {S T : Type 0} where
  -- the pass has seen all the 2^62 calls on one shared object
  abbrev pub HasCountedAll : CommonsPass S T → Type 0
  HasCountedAll pass = HasCounted (known pass) call_limit

-- a chain is sought where a configuration was posted, and for anything else nobody is asked; where memory was wanting it may not have been
-- sought yet
abbrev pub SeeksFor : (Identifier → Type 0) → Type 0 → Posted → Result Registered RegisterFault → Type 0
SeeksFor sought unasked (Configuration entity) (Err fault.Memory) = unasked ⊎ sought entity
SeeksFor sought unasked (Configuration entity) result = sought entity
SeeksFor sought unasked posted result = unasked

-- who registers: the node, with its newest live key and for its lifetime, up to the trust anchor that it lists, at a moment
abbrev pub registrar_of : Node → Keys → Identifier → List Jwk → ℕ → Registrar
registrar_of node pair anchor keys moment = registrar node.settings.id pair anchor keys node.settings.lifetime moment

-- what was posted is answered by the node of the configuration file, as one registration is (OpenID Federation 1.0 section 12.2)
pub record IsRegistrationBy (w : Wanted) (before now : At) (outcome : RegisterOutcome) : Type 0 where
  pub posted : List ℕ
  pub is_read : IsRead w before now (Some posted)
  -- the keys are those that the configuration gives the trust anchor
  pub keys : List Jwk
  pub listed : configured_keys w.anchor is_read.resolver.anchors ≡ Some keys
  -- the clock was read once, and that is the moment
  pub clock : IsOneReading before.around.call.clock now.around.call.clock
  -- the answer is the request's
  pub found : Option Found
  pub registers : Registers (request (registrar_of is_read.node is_read.pair w.anchor keys now.around.call.clock.last) posted found) outcome.result
  -- which is read so, and what was found is what one call of the node found, at that moment
  pub is_posted : IsPosted posted (posted_in posted)
  pub seeks : SeeksFor (λ entity. Seeks is_read.node is_read.resolver (request_for entity w.anchor) before.around.call now.around.call found outcome.worn)
      (IsUnasked before.around.call now.around.call found outcome.worn) (posted_in posted) outcome.result

abbrev pub Ends : Wanted → At → At → Result RegisterOutcome RegisterStop → Type 0
Ends w before now (Ok outcome) = IsRegistrationBy w before now outcome
Ends w before now (Err stop) = IsStopped w before now stop

-- the source and the store failed only where the end says so
abbrev pub CountsSource : {X : Type 0} → ℕ → ℕ → Result X RegisterStop → Type 0
CountsSource before now (Err Source) = Rose before now
CountsSource before now result = now ≡ before

abbrev pub CountsStore : {X : Type 0} → ℕ → ℕ → Result X RegisterStop → Type 0
CountsStore before now (Err Store) = Rose before now
CountsStore before now result = now ≡ before

-- what one registration does
pub record RegistersOnce (w : Wanted) (before now : At) (result : Result RegisterOutcome RegisterStop) : Type 0 where
  pub ends : Ends w before now result
  pub files : now.files ≡ before.files
  pub source : CountsSource before.around.read_faults now.around.read_faults result
  pub store : CountsStore before.store_faults now.store_faults result
