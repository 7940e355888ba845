-- What holds between the steps of a registration.
use Rattle.std.specs.Prelude.{◌≡◌, ◌⊎◌, ℕ, List, Bool, bytes_eq, Option, Some, None}
use Rattle.authority_core.specs.Nodes.{Node}
use Rattle.fed_ports.specs.Stores.{Files}
use Rattle.entity_statement.specs.Claims.{Identifier}
use Rattle.statement_shelf.specs.Passes.{CommonsPass}
use Rattle.statement_shelf.specs.declared.calls.AnchorKeys.{AnchorKeys}
use Rattle.fed_resolver.specs.declared.outcome.Outcome.{Outcome}
use Rattle.http_plain.specs.Networks.{NetworkAt}
use Rattle.client_register.specs.declared.found.Found.{Found}
use Rattle.client_register.specs.declared.posted.Posted.{Posted}
use Rattle.client_register.specs.declared.posted.Posted.TheVariants.{Configuration}
use Rattle.client_register.specs.Answers.{Registers}
use Rattle.client_register.specs.Registrations.{registrar, request}
use Rattle.client_register.specs.Requests.{IsPosted, posted_in}
use Rattle.cli_commands.specs.Answers.{IsTextRead}
use Rattle.node_files.specs.NodeFiles.{IsNodeOf, IsResolver}
use Rattle.node_files.specs.ResolvingParts.{ArePartsOf, booked_keys}
use Rattle.node_files.specs.declared.fault.NodeFault.{NodeFault}
use Rattle.node_files.specs.declared.fault.NodeFault.TheVariants as fault
use Rattle.node_files.specs.declared.parts.Parts.{Parts}
use Rattle.resolve_call.specs.Calls.{HoldsWorn}
use Rattle.resolve_call.specs.CallSteps.{IsCallAt}
use Rattle.register_once.specs.declared.looking.Aim.{Aim}
use Rattle.register_once.specs.declared.opening.NodeParts.{NodeParts}
use Rattle.register_once.specs.declared.opening.Opened.{Opened}
use Rattle.register_once.specs.declared.order.RegisterOrder.{RegisterOrder}
use Rattle.register_once.specs.declared.registering.RegisterOutcome.{RegisterOutcome}
use Rattle.register_once.specs.Finding.{request_for}
use Rattle.register_once.specs.Registering.{At, IsFoundAs, SeeksFor, Wanted}

-- what is asked for, as definitions see it
abbrev pub wanted_of : RegisterOrder → Wanted
wanted_of order = record { config = order.config.now; anchor = order.anchor.now }

-- the keys are those of this trust anchor
abbrev pub is_of : Identifier → AnchorKeys → Bool
is_of anchor listed = bytes_eq listed.anchor anchor

-- these are the parts and the lifetime of the node of the configuration file
pub record AreOf (files : Option Files) (config : List ℕ) (made : NodeParts) : Type 0 where
  pub node : Node
  pub is_node : IsNodeOf files config node
  pub are : ArePartsOf node made.parts
  pub lifetime : made.lifetime ≡ node.settings.lifetime

-- no file is that of a node that resolves, where the files are told
abbrev pub IsNone : Option Files → List ℕ → NodeFault → Type 0
IsNone files config fault.Input = (node : Node) → IsNodeOf files config node → IsResolver node → files ≡ None
IsNone files config e = Unit {0}

-- the node was opened and lists the trust anchor under these keys, and what was posted was read
pub record IsOpened (w : Wanted) (before now : At) (opened : Opened) : Type 0 where
  pub node : Node
  pub is_node : IsNodeOf before.files w.config node
  pub are : ArePartsOf node opened.parts
  pub lifetime : opened.lifetime ≡ node.settings.lifetime
  pub keys : booked_keys w.anchor opened.parts.anchors ≡ Some opened.keys.keys
  pub read : IsTextRead before.around.left now.around.left before.around.read_faults now.around.read_faults (Some opened.posted)

-- ---- a chain that is looked for

-- by which parts of a node, at which moment, and up to which trust anchor
pub record Aimed : Type 0 where
  pub parts : Parts
  pub moment : ℕ
  pub anchor : Identifier

abbrev pub aimed : Parts → ℕ → Identifier → Aimed
aimed parts moment anchor = record { parts = parts; moment = moment; anchor = anchor }

abbrev pub aimed_of : Aim → Aimed
aimed_of aim = aimed aim.parts.now aim.moment aim.anchor.now

module _ {P S T : Type 0} where
  -- one resolve call was made for the entity, and this was found by it
  pub record SeeksAt (aim : Aimed) (entity : Identifier) (before now : NetworkAt P) (last : Option Found) (held : Option (CommonsPass S T)) : Type 0 where
    pub outcome : Outcome
    pub call : IsCallAt aim.parts (request_for entity aim.anchor) aim.moment before now outcome
    pub answer : IsFoundAs outcome.result last
    pub worn : HoldsWorn outcome.result held

  -- nobody was asked
  pub record IsUnaskedAt (before now : NetworkAt P) (last : Option Found) (held : Option (CommonsPass S T)) : Type 0 where
    pub net : now ≡ before
    pub found : last ≡ None
    pub worn : held ≡ None

  -- what was found, by one call; or nothing, where memory was wanting before it or in it
  abbrev pub LooksUp : Aimed → Identifier → NetworkAt P → NetworkAt P → Option Found → Option (CommonsPass S T) → Type 0
  LooksUp aim entity before now (Some found) held = SeeksAt aim entity before now (Some found) held
  LooksUp aim entity before now None held = IsUnaskedAt before now None held ⊎ SeeksAt aim entity before now None held

  -- an entity is looked for where its configuration was posted
  abbrev pub LooksFor : Aimed → NetworkAt P → NetworkAt P → Posted → Option Found → Option (CommonsPass S T) → Type 0
  LooksFor aim before now (Configuration entity) found held = LooksUp aim entity before now found held
  LooksFor aim before now posted found held = IsUnaskedAt before now found held

-- ---- a registration by what was opened

-- what was posted is answered at a moment, over a network before it and after it
pub record IsRegistrationAt {P : Type 0} (opened : Opened) (anchor : Identifier) (moment : ℕ) (before now : NetworkAt P) (outcome : RegisterOutcome) : Type 0 where
  pub found : Option Found
  pub registers : Registers (request (registrar opened.parts.signer.iss opened.parts.signer.keys anchor opened.keys.keys opened.lifetime moment) opened.posted found) outcome.result
  pub is_posted : IsPosted opened.posted (posted_in opened.posted)
  pub seeks : SeeksFor (λ entity. SeeksAt (aimed opened.parts moment anchor) entity before now found outcome.worn)
      (IsUnaskedAt before now found outcome.worn) (posted_in opened.posted) outcome.result
