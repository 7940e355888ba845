-- What the steps of a registration come to.
use Rattle.std.proofs.Common.{◌≡◌, inl, inr, ◌+◌, ℕ, min, Result, Ok, Err, sym, ap, ◌∙◌}
use Rattle.fed_base.specs.declared.faults.Memory.{Memory as NoMemory}
use Rattle.fed_json.specs.declared.tree.Json.{Json}
use Rattle.sealed.specs.Sealing.{IsSealedFor, sealed_text}
use Rattle.entity_statement.specs.Claims.{Identifier}
use Rattle.chain_check.specs.Chains.{Texts, statements_of}
use Rattle.chain_check.specs.Counts.{CountsVerdict}
use Rattle.chain_check.specs.Names.{subject_at}
use Rattle.chain_check.specs.Verdicts.{IsVerdictOn, least_exp}
use Rattle.chain_check.specs.declared.verdict.Resolved.{Resolved}
use Rattle.chain_check.specs.declared.verdict.Verdict.TheVariants.{Valid}
use Rattle.client_register.specs.declared.fault.RegisterFault.{RegisterFault}
use Rattle.client_register.specs.declared.fault.RegisterFault.TheVariants.{Form, Chain, NoType, NoChain, Spent, Fault, Memory}
use Rattle.client_register.specs.declared.found.Found.{Found}
use Rattle.client_register.specs.declared.posted.Posted.{Posted}
use Rattle.client_register.specs.declared.posted.Posted.TheVariants as posted
use Rattle.client_register.specs.declared.registered.Registered.{Registered}
use Rattle.client_register.specs.declared.registration.Registration.{Registration}
use Rattle.client_register.specs.Answers.{CanBeTold, Counts, IsRefused, Registers, registration_type}
use Rattle.client_register.specs.Finders.{Asks}
use Rattle.client_register.specs.Registrations.{IsChain, Request, Resolves, case_in, registration_claims}
use Rattle.client_register.specs.Stages.{Decides, GivesChain, Takes, verdict_in}
use Rattle.client_register.proofs.AnswerLaws.{registers}

-- ---- refusals

refused : (q : Request) (fault : RegisterFault) → IsRefused q fault → Registers q (Err fault)
refused q fault a = registers q (Err fault) a tt

module _ (q : Request) where
  no-chain : (fault : RegisterFault) → GivesChain q (Err fault) → IsRefused q fault
  no-chain Form a = a
  no-chain NoChain a = a
  no-chain Spent a = a
  no-chain Fault a = a
  no-chain Memory a = a
  no-chain NoType a = absurd a
  no-chain (Chain place reason) a = absurd a

  pub chain-refused : (fault : RegisterFault) → GivesChain q (Err fault) → Registers q (Err fault)
  chain-refused fault a = refused q fault (no-chain fault a)

  pub chain-counts : (fault : RegisterFault) (before now : ℕ) → GivesChain q (Err fault) → now ≡ before → Counts q (Err fault) before now
  chain-counts Form before now a same = same
  chain-counts NoChain before now a same = same
  chain-counts Spent before now a same = same
  chain-counts Fault before now a same = same
  chain-counts Memory before now a same = inl same
  chain-counts NoType before now a same = absurd a
  chain-counts (Chain place reason) before now a same = absurd a

  pub memory-refused : Registers q (Err Memory)
  memory-refused = refused q Memory tt

  module _ (chain : Texts) (is_chain : IsChain q chain) where
    first-failure : (fault : RegisterFault) → Decides (case_in q chain) (Err fault) → IsRefused q fault
    first-failure (Chain place reason) a = (chain, is_chain, a)
    first-failure Memory a = tt
    first-failure Form a = absurd a
    first-failure NoChain a = absurd a
    first-failure Spent a = absurd a
    first-failure Fault a = absurd a
    first-failure NoType a = absurd a

    pub failure-refused : (fault : RegisterFault) → Decides (case_in q chain) (Err fault) → Registers q (Err fault)
    failure-refused fault a = refused q fault (first-failure fault a)

    pub failure-counts : (fault : RegisterFault) (before now : ℕ) → Decides (case_in q chain) (Err fault) → CountsVerdict (case_in q chain) (verdict_in (Err fault)) before now → Counts q (Err fault) before now
    failure-counts (Chain place reason) before now a counts = (chain, is_chain, counts)
    failure-counts Memory before now a counts = inr (Err (record {}), (chain, is_chain, counts))
    failure-counts Form before now a counts = absurd a
    failure-counts NoChain before now a counts = absurd a
    failure-counts Spent before now a counts = absurd a
    failure-counts Fault before now a counts = absurd a
    failure-counts NoType before now a counts = absurd a

    module _ (resolved : Resolved) (verdict : IsVerdictOn (case_in q chain) (Valid resolved)) where
      resolves : Resolves q chain resolved.metadata
      resolves = record { is_chain = is_chain; valid = verdict.0; resolves = verdict.1.metadata }

      no-type : (lifetime t : ℕ) (fault : RegisterFault) → Takes chain resolved lifetime t (Err fault) → IsRefused q fault
      no-type lifetime t NoType a = (chain, resolved.metadata, resolves, a)
      no-type lifetime t Memory a = tt
      no-type lifetime t (Chain place reason) a = absurd a
      no-type lifetime t Form a = absurd a
      no-type lifetime t NoChain a = absurd a
      no-type lifetime t Spent a = absurd a
      no-type lifetime t Fault a = absurd a

      pub type-refused : (lifetime t : ℕ) (fault : RegisterFault) → Takes chain resolved lifetime t (Err fault) → Registers q (Err fault)
      type-refused lifetime t fault a = refused q fault (no-type lifetime t fault a)

      pub type-counts : (lifetime t : ℕ) (fault : RegisterFault) (before now : ℕ) → Takes chain resolved lifetime t (Err fault) → CountsVerdict (case_in q chain) (Ok (Valid resolved)) before now → Counts q (Err fault) before now
      type-counts lifetime t NoType before now a counts = (resolved, (chain, is_chain, counts))
      type-counts lifetime t Memory before now a counts = inr (Ok (Valid resolved), (chain, is_chain, counts))
      type-counts lifetime t (Chain place reason) before now a counts = absurd a
      type-counts lifetime t Form before now a counts = absurd a
      type-counts lifetime t NoChain before now a counts = absurd a
      type-counts lifetime t Spent before now a counts = absurd a
      type-counts lifetime t Fault before now a counts = absurd a

      pub memory-counts : (before now : ℕ) → CountsVerdict (case_in q chain) (Ok (Valid resolved)) before now → Counts q (Err Memory) before now
      memory-counts before now counts = inr (Ok (Valid resolved), (chain, is_chain, counts))

      pub registered-counts : (registered : Registered) (before now : ℕ) → CountsVerdict (case_in q chain) (Ok (Valid resolved)) before now → Counts q (Ok registered) before now
      registered-counts registered before now counts = (resolved, (chain, is_chain, counts))

      -- ---- a registration

      pub registered-told : (r : Registration) (claims : Json) (registered : Registered) → Takes chain resolved q.here.lifetime q.here.moment (Ok r)
          → claims ≡ registration_claims q.here.iss q.here.anchor r → registered.claims ≡ claims → registered.text ≡ sealed_text q.here.signer registration_type claims
          → IsSealedFor q.here.signer registered.text → Registers q (Ok registered)
      registered-told r claims registered takes made same text sealed = registers q (Ok registered) (record {
        claims = record {
          chain = chain;
          metadata = resolved.metadata;
          resolves = resolves;
          party = r.party;
          has_type = takes.0;
          says = same ∙ made ∙ ap (registration_claims q.here.iss q.here.anchor) (takes.1 ∙ parts);
        };
        text = text ∙ ap (sealed_text q.here.signer registration_type) (sym same);
      }) sealed
        where
          said : Identifier → ℕ → Registration
          said leaf end = record { sub = leaf; iat = q.here.moment; exp = min end (q.here.moment + q.here.lifetime); party = r.party; chain = chain }

          parts : said resolved.leaf resolved.exp ≡ said (subject_at (statements_of chain) 0) (least_exp (statements_of chain))
          parts = λ i. said (verdict.1.leaf i) (verdict.1.exp i)

-- ---- what is told of a chain

pub chain-told : (q : Request) (fault : RegisterFault) → GivesChain q (Err fault) → CanBeTold fault
chain-told q (Chain place reason) a = absurd a
chain-told q Form a = tt
chain-told q NoChain a = tt
chain-told q Spent a = tt
chain-told q Fault a = tt
chain-told q Memory a = tt
chain-told q NoType a = tt

pub type-told : (chain : Texts) (resolved : Resolved) (lifetime t : ℕ) (fault : RegisterFault) → Takes chain resolved lifetime t (Err fault) → CanBeTold fault
type-told chain resolved lifetime t (Chain place reason) a = absurd a
type-told chain resolved lifetime t Form a = tt
type-told chain resolved lifetime t NoChain a = tt
type-told chain resolved lifetime t Spent a = tt
type-told chain resolved lifetime t Fault a = tt
type-told chain resolved lifetime t Memory a = tt
type-told chain resolved lifetime t NoType a = tt

-- ---- the finder

module _ {F : Type 0} (asked : F → F → Identifier → Result Found NoMemory → Type 0) (old new : F) where
  pub asks-any : {X Y : Type 0} (p : Posted) (x : X) (r : Result Y RegisterFault) → Asks asked old new p (Ok x) → Asks asked old new p r
  asks-any (posted.Configuration entity) x (Ok y) a = a
  asks-any (posted.Configuration entity) x (Err Form) a = a
  asks-any (posted.Configuration entity) x (Err (Chain place reason)) a = a
  asks-any (posted.Configuration entity) x (Err NoType) a = a
  asks-any (posted.Configuration entity) x (Err NoChain) a = a
  asks-any (posted.Configuration entity) x (Err Spent) a = a
  asks-any (posted.Configuration entity) x (Err Fault) a = a
  asks-any (posted.Configuration entity) x (Err Memory) a = inr (Ok a.0, a.1)
  asks-any (posted.Chain texts) x r a = a
  asks-any posted.Neither x r a = a

  pub asks-same : (X Y : Type 0) (p : Posted) (fault : RegisterFault) → Asks {F = F} {X = X} asked old new p (Err fault) → Asks {F = F} {X = Y} asked old new p (Err fault)
  asks-same X Y (posted.Configuration entity) Form a = a
  asks-same X Y (posted.Configuration entity) (Chain place reason) a = a
  asks-same X Y (posted.Configuration entity) NoType a = a
  asks-same X Y (posted.Configuration entity) NoChain a = a
  asks-same X Y (posted.Configuration entity) Spent a = a
  asks-same X Y (posted.Configuration entity) Fault a = a
  asks-same X Y (posted.Configuration entity) Memory a = a
  asks-same X Y (posted.Chain texts) _ a = a
  asks-same X Y posted.Neither _ a = a
