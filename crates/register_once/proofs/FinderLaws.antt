-- What is found by one call, and what a finder that holds it makes of it.
use Rattle.std.proofs.Common.{◌≡◌, ◌⊎◌, Option, Some, None, IfOk, Result, Ok, Err, refl, sym, ap, ◌∙◌, subst, inl, inr}
use Rattle.std.specs.Prelude.{IfSome, IsSome}
use Rattle.std.specs.Result.{result_ok}
use Rattle.fed_base.specs.declared.faults.Memory.{Memory as NoMemory}
use Rattle.entity_statement.specs.Claims.{Identifier}
use Rattle.statement_shelf.specs.Passes.{CommonsPass}
use Rattle.resolve_reply.specs.declared.reply.Reply.{Reply}
use Rattle.resolve_reply.specs.declared.signer.Signer.{Signer}
use Rattle.resolve_reply.specs.Replies.{chain_of}
use Rattle.resolve_reply.proofs.ClaimLaws.{chain-said}
use Rattle.resolve_round.specs.declared.trace.Trace.{Trace}
use Rattle.fed_resolver.specs.declared.outcome.Outcome.{Outcome}
use Rattle.fed_resolver.specs.declared.outcome.Refusal.{Refusal}
use Rattle.fed_resolver.specs.declared.outcome.Refusal.TheVariants.{NoAnchor, NotFound, PolicyOnly, NoChain, Unavailable, Budget, Worn, Memory}
use Rattle.fed_resolver.specs.Outcomes.{IsResult, Tells}
use Rattle.fed_resolver.specs.Told.{Situation, ToldWhole}
use Rattle.http_plain.specs.Networks.{NetworkAt}
use Rattle.client_register.specs.declared.fault.RegisterFault.{RegisterFault}
use Rattle.client_register.specs.declared.fault.RegisterFault.TheVariants as fault
use Rattle.client_register.specs.declared.found.Found.{Found}
use Rattle.client_register.specs.declared.posted.Posted.{Posted}
use Rattle.client_register.specs.declared.posted.Posted.TheVariants as posted
use Rattle.client_register.specs.declared.registered.Registered.{Registered}
use Rattle.client_register.specs.Finders.{Asks}
use Rattle.resolve_call.specs.Calls.{HoldsWorn}
use Rattle.resolve_call.specs.CallSteps.{IsCallAt}
use Rattle.register_once.specs.declared.held_finder.HeldFinder.{HeldFinder}
use Rattle.register_once.specs.Finding.{HasGiven, IsFoundIn, request_for}
use Rattle.register_once.specs.Opened.{Aimed, IsUnaskedAt, LooksFor, LooksUp, SeeksAt}
use Rattle.register_once.specs.Registering.{HasCountedAll, SeeksFor}

-- ---- one call

carried : (here : Situation) (signer : Signer) (trace : Trace) (told : ToldWhole here trace) (r : Result Reply Refusal) → IsResult here signer trace told r
    → IfOk r (λ reply. IsSome (chain_of reply.claims))
carried here signer trace told (Ok reply) is = subst IsSome (sym (ap chain_of is.is_reply.says.claims ∙ chain-said _ _)) refl
carried here signer trace told (Err e) is = tt

-- a reply claims its chain
pub carries : (here : Situation) (signer : Signer) (outcome : Outcome) (r : Result Reply Refusal) → outcome.result ≡ r → Tells here signer outcome r
    → IfOk r (λ reply. IsSome (chain_of reply.claims))
carries here signer outcome (Ok reply) is tells = carried here signer outcome.trace tells.told (Ok reply) (subst (IsResult here signer outcome.trace tells.told) is tells.result)
carries here signer outcome (Err e) is tells = tt

module _ {S T : Type 0} where
  none-counted : (now : Option (CommonsPass S T)) → now ≡ None → IfSome now HasCountedAll
  none-counted None is = tt
  none-counted (Some pass) is = cc is

  counted-worn : (r : Result Reply Refusal) (now : Option (CommonsPass S T)) → HoldsWorn r now → IfSome now HasCountedAll
  counted-worn (Err (Worn count)) now (pass, some, counted) = subst (λ o. IfSome o HasCountedAll) (sym some) counted
  counted-worn (Ok reply) now none = none-counted now none
  counted-worn (Err NoAnchor) now none = none-counted now none
  counted-worn (Err NotFound) now none = none-counted now none
  counted-worn (Err PolicyOnly) now none = none-counted now none
  counted-worn (Err NoChain) now none = none-counted now none
  counted-worn (Err Unavailable) now none = none-counted now none
  counted-worn (Err (Budget calls paths)) now none = none-counted now none
  counted-worn (Err Memory) now none = none-counted now none

module _ {P S T : Type 0} (aim : Aimed) (before now : NetworkAt P) (worn : Option (CommonsPass S T)) where
  -- what is found by a call that was made
  pub looked-up : (entity : Identifier) (answer : Result Found NoMemory) (outcome : Outcome) → IsCallAt aim.parts (request_for entity aim.anchor) aim.moment before now outcome → IsFoundIn outcome.result answer
      → HoldsWorn outcome.result worn → LooksUp aim entity before now (result_ok answer) worn
  looked-up entity (Ok found) outcome call of held = record { outcome = outcome; call = call; answer = of; worn = held }
  looked-up entity (Err memory) outcome call of held = inr (record { outcome = outcome; call = call; answer = tt; worn = held })

  -- a pass that is handed out has seen a worn object
  pub counted : (p : Posted) (found : Option Found) → LooksFor aim before now p found worn → IfSome worn HasCountedAll
  counted (posted.Configuration entity) (Some found) l = counted-worn l.outcome.result worn l.worn
  counted (posted.Configuration entity) None (inl u) = none-counted worn u.worn
  counted (posted.Configuration entity) None (inr l) = counted-worn l.outcome.result worn l.worn
  counted (posted.Chain texts) found u = none-counted worn u.worn
  counted posted.Neither found u = none-counted worn u.worn

  -- ---- the finder

  abbrev Sought : Identifier → Option Found → Type 0
  Sought entity found = SeeksAt aim entity before now found worn

  abbrev Unasked : Option Found → Type 0
  Unasked found = IsUnaskedAt before now found worn

  -- where the finder gave nothing
  ungiven : (entity : Identifier) (found : Option Found) → LooksUp aim entity before now found worn → Unasked None ⊎ Sought entity None
  ungiven entity None l = l
  ungiven entity (Some found) l = inr (record { outcome = l.outcome; call = l.call; answer = tt; worn = l.worn })

  module _ (old new : HeldFinder) (unseen : old.last ≡ None) where
    given : (entity : Identifier) (found : Found) → LooksUp aim entity before now old.held worn → HasGiven old new entity (Ok found) → Sought entity new.last
    given entity found l (answered, held) = subst (Sought entity) (sym answered.last) (subst (λ h. LooksUp aim entity before now h worn) held l)

    none-given : (entity : Identifier) → LooksUp aim entity before now old.held worn → new.last ≡ None → Unasked new.last ⊎ Sought entity new.last
    none-given entity l none = subst (λ f. Unasked f ⊎ Sought entity f) (sym none) (ungiven entity old.held l)

    same : new ≡ old → new.last ≡ None
    same is = ap (λ (f : HeldFinder). f.last) is ∙ unseen

    at-most : (entity : Identifier) (answer : Result Found NoMemory) → LooksUp aim entity before now old.held worn → HasGiven old new entity answer → Unasked new.last ⊎ Sought entity new.last
    at-most entity (Ok found) l gave = inr (given entity found l gave)
    at-most entity (Err memory) l (answered, held) = none-given entity l (answered.last ∙ unseen)

    unheld : Unasked old.held → new ≡ old → Unasked new.last
    unheld u is = record { net = u.net; found = same is; worn = u.worn }

    -- what a finder tells that was asked as a registration asks is what was found by the call
    pub seeks : (p : Posted) (r : Result Registered RegisterFault) → LooksFor aim before now p old.held worn → Asks HasGiven old new p r
        → SeeksFor (λ entity. SeeksAt aim entity before now new.last worn) (IsUnaskedAt before now new.last worn) p r
    seeks (posted.Configuration entity) (Err fault.Memory) l (inl is) = none-given entity l (same is)
    seeks (posted.Configuration entity) (Err fault.Memory) l (inr (answer, gave)) = at-most entity answer l gave
    seeks (posted.Configuration entity) (Ok registered) l (found, gave) = given entity found l gave
    seeks (posted.Configuration entity) (Err fault.Form) l (found, gave) = given entity found l gave
    seeks (posted.Configuration entity) (Err (fault.Chain place reason)) l (found, gave) = given entity found l gave
    seeks (posted.Configuration entity) (Err fault.NoType) l (found, gave) = given entity found l gave
    seeks (posted.Configuration entity) (Err fault.NoChain) l (found, gave) = given entity found l gave
    seeks (posted.Configuration entity) (Err fault.Spent) l (found, gave) = given entity found l gave
    seeks (posted.Configuration entity) (Err fault.Fault) l (found, gave) = given entity found l gave
    seeks (posted.Chain texts) r u is = unheld u is
    seeks posted.Neither r u is = unheld u is
