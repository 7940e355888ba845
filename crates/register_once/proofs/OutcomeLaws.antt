-- A registration by the node of a configuration file.
use Rattle.std.proofs.Common.{◌≡◌, ◌⊎◌, ℕ, List, Option, Some, None, IfErr, Result, Ok, Err, refl, sym, ap, ◌∙◌, subst, inl, inr}
use Rattle.fed_ports.specs.Stores.{Files}
use Rattle.fed_ports.specs.Times.{ClockAt, IsOneReading}
use Rattle.entity_statement.specs.Claims.{Identifier}
use Rattle.http_plain.specs.Networks.{NetworkAt}
use Rattle.client_register.specs.declared.fault.RegisterFault.{RegisterFault}
use Rattle.client_register.specs.declared.fault.RegisterFault.TheVariants as fault
use Rattle.client_register.specs.declared.posted.Posted.{Posted}
use Rattle.client_register.specs.declared.posted.Posted.TheVariants as posted
use Rattle.client_register.specs.declared.registered.Registered.{Registered}
use Rattle.client_register.specs.Answers.{Registers}
use Rattle.client_register.specs.Requests.{posted_in}
use Rattle.client_register.specs.Registrations.{Registrar, registrar, request}
use Rattle.node_files.specs.Moments.{at_moment}
use Rattle.resolve_call.specs.Ports.{Around as CallAround, around as around_call}
use Rattle.resolve_call.proofs.CallLaws.{call-by}
use Rattle.register_once.specs.declared.opening.Opened.{Opened}
use Rattle.register_once.specs.declared.registering.RegisterOutcome.{RegisterOutcome}
use Rattle.register_once.specs.Finding.{request_for}
use Rattle.register_once.specs.Opened.{IsOpened, IsRegistrationAt, IsUnaskedAt, SeeksAt, aimed}
use Rattle.register_once.specs.Registering.{IsRegistrationBy, IsUnasked, Seeks, SeeksFor, Wanted, around, registrar_of}

-- what is sought, told in other words
seeks-as : (A B : Identifier → Type 0) (X Y : Type 0) (p : Posted) (r : Result Registered RegisterFault) → ((entity : Identifier) → A entity → B entity) → (X → Y) → SeeksFor A X p r → SeeksFor B Y p r
seeks-as A B X Y (posted.Configuration entity) (Err fault.Memory) f g (inl unasked) = inl (g unasked)
seeks-as A B X Y (posted.Configuration entity) (Err fault.Memory) f g (inr sought) = inr (f entity sought)
seeks-as A B X Y (posted.Configuration entity) (Ok registered) f g sought = f entity sought
seeks-as A B X Y (posted.Configuration entity) (Err fault.Form) f g sought = f entity sought
seeks-as A B X Y (posted.Configuration entity) (Err (fault.Chain place reason)) f g sought = f entity sought
seeks-as A B X Y (posted.Configuration entity) (Err fault.NoType) f g sought = f entity sought
seeks-as A B X Y (posted.Configuration entity) (Err fault.NoChain) f g sought = f entity sought
seeks-as A B X Y (posted.Configuration entity) (Err fault.Spent) f g sought = f entity sought
seeks-as A B X Y (posted.Configuration entity) (Err fault.Fault) f g sought = f entity sought
seeks-as A B X Y (posted.Chain texts) r f g unasked = g unasked
seeks-as A B X Y posted.Neither r f g unasked = g unasked

-- by what was opened, at the one reading of the clock
pub registration-by : {P : Type 0} (w : Wanted) (files files' : Option Files) (a b : ℕ) (left left' : Option (List ℕ)) (f f' : ℕ) (other other' : CallAround) (first last : ClockAt) (net net' : NetworkAt P) (opened : Opened) (outcome : RegisterOutcome)
    → IsOpened w (at_moment files a (around left f other)) (at_moment files' b (around left' f' other')) opened → IsOneReading first last → IsRegistrationAt opened w.anchor last.last net net' outcome
    → IsRegistrationBy w (at_moment files a (around left f (around_call first net.exchanges net.faults))) (at_moment files' b (around left' f' (around_call last net'.exchanges net'.faults))) outcome
registration-by {P} w files files' a b left left' f f' other other' first last net net' opened outcome o reading r = record {
  posted = opened.posted;
  is_read = record { node = o.node; is_node = o.is_node; resolver = o.are.resolver; resolves = o.are.resolves; pair = o.are.keys; signs = o.are.signs; read = o.read };
  keys = opened.keys.keys;
  listed = sym (o.are.anchors w.anchor) ∙ o.keys;
  clock = reading;
  found = r.found;
  registers = subst (λ here. Registers (request here opened.posted r.found) outcome.result) here r.registers;
  is_posted = r.is_posted;
  seeks =
      seeks-as (λ entity. SeeksAt (aimed opened.parts last.last w.anchor) entity net net' r.found outcome.worn)
      (λ entity. Seeks o.node o.are.resolver (request_for entity w.anchor) (around_call first net.exchanges net.faults) (around_call last net'.exchanges net'.faults) r.found outcome.worn)
      (IsUnaskedAt net net' r.found outcome.worn) (IsUnasked (around_call first net.exchanges net.faults) (around_call last net'.exchanges net'.faults) r.found outcome.worn) (posted_in opened.posted) outcome.result
      (λ entity s. record { outcome = s.outcome; call = call-by o.node opened.parts (request_for entity w.anchor) first last net net' s.outcome o.are reading s.call; answer = s.answer; worn = s.worn })
      (λ u. record { exchanges = ap (λ (n : NetworkAt P). n.exchanges) u.net; faults = ap (λ (n : NetworkAt P). n.faults) u.net; found = u.found; worn = u.worn })
      r.seeks;
}
  where
    here : registrar opened.parts.signer.iss opened.parts.signer.keys w.anchor opened.keys.keys opened.lifetime last.last ≡ registrar_of o.node o.are.keys w.anchor opened.keys.keys last.last
    here = λ i. registrar (o.are.signer i).iss (o.are.signer i).keys w.anchor opened.keys.keys (o.lifetime i) last.last
