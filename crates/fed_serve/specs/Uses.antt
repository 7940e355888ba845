-- What of the shared objects, the link and the ledger each handling uses.
use Rattle.std.specs.Prelude.{◌≡◌, ℕ, Some, Err}
use Rattle.authority_core.specs.Nodes.{Node as Authority}
use Rattle.turn_log.specs.Runs.{call_limit}
use Rattle.fed_resolver.specs.declared.outcome.Refusal.TheVariants.{Worn}
use Rattle.fed_serve.specs.declared.part.ResolverPart.{ResolverPart}
use Rattle.fed_serve.specs.Resolutions.{CallAt, IsResolved, IsUnworn as IsUnwornResult, Walking}
use Rattle.fed_serve.specs.Rotations.{IsDealtWith, rotation_at, worn}
use Rattle.fed_serve.specs.declared.node.Node.{Node}
use Rattle.fed_serve.specs.Handlings.{Handling, dealt, issued, resolved}
use Rattle.fed_serve.specs.Responses.{tests_asked}
use Rattle.fed_base.specs.Counts.{CountsAtMost, counted}

-- the node has this part for resolving
abbrev pub Has : Node → ResolverPart → Type 0
Has node part = node.resolver ≡ Some part

-- the link wasn't called
pub record IsUnlinked (before now : CallAt) : Type 0 where
  pub web : now.web ≡ before.web
  pub calls : now.calls ≡ before.calls
  pub faults : now.faults ≡ before.faults

-- neither were the shared objects
pub record IsAlone (before now : CallAt) : Type 0 where
  pub known : now.known ≡ before.known
  pub link : IsUnlinked before now

-- what is used: for a resolved entity all that its one call tells, the word of a control key and the one call on the book for other keys,
-- and nothing of these for anything else
abbrev pub Uses : Node → Walking → ℕ → CallAt → CallAt → Handling → Type 0
Uses node walks t before now (resolved resolution outcome) = (part : ResolverPart) × Has node part × IsResolved part.signer resolution t walks before now outcome
Uses node walks t before now (dealt change dealing) = (part : ResolverPart) × Has node part × IsUnlinked before now
    × IsDealtWith part.control.keys change (rotation_at before.known before.tests) (rotation_at now.known now.tests) dealing
Uses node walks t before now handling = IsAlone before now

-- ---- tested signatures

-- those that an authority's answer calls for were tested; what a resolver tests stands in what it uses
abbrev pub Tests : Authority → Handling → ℕ → ℕ → Type 0
Tests node (issued asked) before now = now ≡ counted (tests_asked node asked) before
Tests node (resolved resolution outcome) before now = Unit {0}
Tests node (dealt change dealing) before now = Unit {0}
Tests node handling before now = now ≡ before

-- no more than those were
abbrev pub TestsSome : Authority → Handling → ℕ → ℕ → Type 0
TestsSome node (issued asked) before now = CountsAtMost (tests_asked node asked) before now
TestsSome node (resolved resolution outcome) before now = Unit {0}
TestsSome node (dealt change dealing) before now = Unit {0}
TestsSome node handling before now = now ≡ before

-- ---- worn objects

-- a shared object had counted this many calls, which are all that it can
abbrev pub IsWornBy : Handling → ℕ → Type 0
IsWornBy (resolved resolution outcome) count = outcome.result ≡ Err (Worn count)
IsWornBy (dealt change worn) count = count ≡ call_limit
IsWornBy handling count = ⊥

-- none had
abbrev pub IsUnworn : Handling → Type 0
IsUnworn (resolved resolution outcome) = IsUnwornResult outcome.result
IsUnworn (dealt change worn) = ⊥
IsUnworn handling = Unit {0}
