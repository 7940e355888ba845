-- A request has one answer.
use Rattle.std.proofs.Common.{◌≡◌, ◌≤◌, ◌⊎◌, inl, inr, ℕ, List, codes, Option, Some, None, Result, Ok, Err, refl, sym, ap, ◌∙◌, subst, arith}
use Rattle.std.specs.Prelude.{IfOk}
use Rattle.fed_json.specs.declared.tree.Json.{Json}
use Rattle.fed_json.specs.Trees.{find, object_members}
use Rattle.sealed.specs.Sealing.{IsSealedFor, sealed_text}
use Rattle.chain_check.specs.Chains.{Texts, statements_of}
use Rattle.chain_check.specs.Names.{subject_at}
use Rattle.chain_check.specs.Verdicts.{IsVerdictOn, least_exp}
use Rattle.chain_check.specs.declared.verdict.Resolved.{Resolved}
use Rattle.chain_check.specs.declared.verdict.Verdict.{Verdict}
use Rattle.chain_check.specs.declared.verdict.Verdict.TheVariants.{Valid, Refused}
use Rattle.chain_check.proofs.Verdicts.{one_verdict}
use Rattle.client_register.specs.declared.fault.RegisterFault.{RegisterFault}
use Rattle.client_register.specs.declared.fault.RegisterFault.TheVariants.{Form, Chain, NoType, NoChain, Spent, Fault, Memory}
use Rattle.client_register.specs.declared.found.Found.{Found}
use Rattle.client_register.specs.declared.found.Found.TheVariants as found
use Rattle.client_register.specs.declared.posted.Posted.{Posted}
use Rattle.client_register.specs.declared.posted.Posted.TheVariants as posted
use Rattle.client_register.specs.declared.registered.Registered.{Registered}
use Rattle.client_register.specs.Answers.{IsAnswer, IsMemory, IsRefused, IsRegisteredUnlessMemory, Lasts, Registers, registration_type}
use Rattle.client_register.specs.Registrations.{IsChain, IsChainAs, IsRegistration, Request, Resolves, case_in, end_of, party_in, registration_claims, registration_of}
use Rattle.client_register.specs.Requests.{posted_in}
use Rattle.client_register.proofs.ChainTexts.{valid-lasts}
use Rattle.client_register.proofs.ClaimLaws.{claims-exp}

-- ---- the chain

-- why there is no chain, where there is none
no_chain : Posted → Option Found → Option RegisterFault
no_chain posted.Neither answer = Some Form
no_chain (posted.Configuration entity) (Some found.NoChain) = Some NoChain
no_chain (posted.Configuration entity) (Some found.Spent) = Some Spent
no_chain (posted.Configuration entity) (Some found.Fault) = Some Fault
no_chain posted answer = None

one-chain : (bytes : List ℕ) (p : Posted) (answer : Option Found) (a b : Texts) → IsChainAs bytes answer p a → IsChainAs bytes answer p b → a ≡ b
one-chain bytes (posted.Chain texts) answer a b is also = is ∙ sym also
one-chain bytes (posted.Configuration entity) (Some (found.Chain texts)) a b is also = is ∙ sym also
one-chain bytes (posted.Configuration entity) (Some found.NoChain) a b is also = absurd is
one-chain bytes (posted.Configuration entity) (Some found.Spent) a b is also = absurd is
one-chain bytes (posted.Configuration entity) (Some found.Fault) a b is also = absurd is
one-chain bytes (posted.Configuration entity) None a b is also = absurd is
one-chain bytes posted.Neither answer a b is also = absurd is

has-chain : (bytes : List ℕ) (p : Posted) (answer : Option Found) (chain : Texts) → IsChainAs bytes answer p chain → no_chain p answer ≡ None
unfolding no_chain
has-chain bytes (posted.Chain texts) answer chain is = refl
has-chain bytes (posted.Configuration entity) (Some (found.Chain texts)) chain is = refl
has-chain bytes (posted.Configuration entity) (Some found.NoChain) chain is = absurd is
has-chain bytes (posted.Configuration entity) (Some found.Spent) chain is = absurd is
has-chain bytes (posted.Configuration entity) (Some found.Fault) chain is = absurd is
has-chain bytes (posted.Configuration entity) None chain is = absurd is
has-chain bytes posted.Neither answer chain is = absurd is

-- ---- the answer as a function of the chain and its verdict

registered_of : Request → Texts → Json → Registered
registered_of q chain party =
    let claims = registration_claims q.here.iss q.here.anchor (registration_of q.here chain party) in
    record { claims = claims; text = sealed_text q.here.signer registration_type claims }

by_party : Request → Texts → Option Json → Result Registered RegisterFault
by_party q chain None = Err NoType
by_party q chain (Some party) = Ok (registered_of q chain party)

result_of : Request → Texts → Verdict → Result Registered RegisterFault
result_of q chain (Refused place reason) = Err (Chain place reason)
result_of q chain (Valid resolved) = by_party q chain (party_in resolved.metadata)

-- an answer without a chain, and one by the verdict on it
record Unchained (q : Request) (r : Result Registered RegisterFault) : Type 0 where
  fault : RegisterFault
  none : no_chain (posted_in q.bytes) q.found ≡ Some fault
  is : r ≡ Err fault

record Judged (q : Request) (r : Result Registered RegisterFault) : Type 0 where
  chain : Texts
  is_chain : IsChain q chain
  verdict : Verdict
  decides : IsVerdictOn (case_in q chain) verdict
  is : r ≡ result_of q chain verdict

resolved_of : Texts → Json → Resolved
resolved_of chain metadata = record { leaf = subject_at (statements_of chain) 0; exp = least_exp (statements_of chain); metadata = metadata }

resolves-verdict : (q : Request) (chain : Texts) (metadata : Json) → Resolves q chain metadata → IsVerdictOn (case_in q chain) (Valid (resolved_of chain metadata))
unfolding resolved_of
resolves-verdict q chain metadata r = (r.valid, record { leaf = refl; exp = refl; metadata = r.resolves })

judged-by : (q : Request) (chain : Texts) (metadata : Json) (o : Option Json) (r : Result Registered RegisterFault) → Resolves q chain metadata → party_in metadata ≡ o → r ≡ by_party q chain o → Judged q r
unfolding result_of resolved_of
judged-by q chain metadata o r resolves party is = record {
  chain = chain;
  is_chain = resolves.is_chain;
  verdict = Valid (resolved_of chain metadata);
  decides = resolves-verdict q chain metadata resolves;
  is = is ∙ ap (by_party q chain) (sym party);
}

registered-is : (q : Request) (r : Registered) (chain : Texts) (party : Json) → r.claims ≡ registration_claims q.here.iss q.here.anchor (registration_of q.here chain party)
    → r.text ≡ sealed_text q.here.signer registration_type r.claims → r ≡ registered_of q chain party
unfolding registered_of
registered-is q r chain party says text = λ i. record { claims = says i; text = (text ∙ ap (sealed_text q.here.signer registration_type) says) i }

unchained : (q : Request) (p : Posted) (answer : Option Found) (fault : RegisterFault) → posted_in q.bytes ≡ p → q.found ≡ answer → no_chain p answer ≡ Some fault → Unchained q (Err fault)
unchained q p answer fault is also none = record { fault = fault; none = (λ i. no_chain (is i) (also i)) ∙ none; is = refl }

-- each answer is one of the two
sorted : (q : Request) (r : Result Registered RegisterFault) → IsAnswer q r → (r ≡ Err Memory) ⊎ (Unchained q r ⊎ Judged q r)
unfolding no_chain result_of by_party
sorted q (Ok r) a =
    let c = a.claims in
    inr (inr (judged-by q c.chain c.metadata (Some c.party) (Ok r) c.resolves c.has_type (ap Ok (registered-is q r c.chain c.party c.says a.text))))
sorted q (Err Form) a = inr (inl (unchained q posted.Neither q.found Form a refl refl))
sorted q (Err NoChain) a = inr (inl (unchained q (posted.Configuration a.0) (Some found.NoChain) NoChain a.1 a.2 refl))
sorted q (Err Spent) a = inr (inl (unchained q (posted.Configuration a.0) (Some found.Spent) Spent a.1 a.2 refl))
sorted q (Err Fault) a = inr (inl (unchained q (posted.Configuration a.0) (Some found.Fault) Fault a.1 a.2 refl))
sorted q (Err (Chain place reason)) a = inr (inr (record { chain = a.0; is_chain = a.1; verdict = Refused place reason; decides = a.2; is = refl }))
sorted q (Err NoType) a = inr (inr (judged-by q a.0 a.1 None (Err NoType) a.2 a.3 refl))
sorted q (Err Memory) a = inl refl

-- ---- one answer

unchained-one : (q : Request) (r s : Result Registered RegisterFault) → Unchained q r → Unchained q s → r ≡ s
unchained-one q r s a b =
    let both = sym a.none ∙ b.none in
    let same : a.fault ≡ b.fault = cc both in
    a.is ∙ ap Err same ∙ sym b.is

judged-one : (q : Request) (r s : Result Registered RegisterFault) → Judged q r → Judged q s → r ≡ s
judged-one q r s a b =
    let chains = one-chain q.bytes (posted_in q.bytes) q.found a.chain b.chain a.is_chain b.is_chain in
    let verdicts = one_verdict (case_in q b.chain) a.verdict b.verdict (subst (λ chain. IsVerdictOn (case_in q chain) a.verdict) chains a.decides) b.decides in
    a.is ∙ (λ i. result_of q (chains i) (verdicts i)) ∙ sym b.is

apart : (q : Request) (r s : Result Registered RegisterFault) → Unchained q r → Judged q s → ⊥
apart q r s a b = let bad = sym a.none ∙ has-chain q.bytes (posted_in q.bytes) q.found b.chain b.is_chain in cc bad

one-of : (q : Request) (r s : Result Registered RegisterFault) → (r ≡ Err Memory) ⊎ (Unchained q r ⊎ Judged q r) → (s ≡ Err Memory) ⊎ (Unchained q s ⊎ Judged q s) → ¬ IsMemory r → ¬ IsMemory s → r ≡ s
one-of q r s (inl memory) b definite also = absurd (definite memory)
one-of q r s (inr a) (inl memory) definite also = absurd (also memory)
one-of q r s (inr (inl a)) (inr (inl b)) definite also = unchained-one q r s a b
one-of q r s (inr (inr a)) (inr (inr b)) definite also = judged-one q r s a b
one-of q r s (inr (inl a)) (inr (inr b)) definite also = absurd (apart q r s a b)
one-of q r s (inr (inr a)) (inr (inl b)) definite also = absurd (apart q s r b a)

pub one-answer : (q : Request) (r s : Result Registered RegisterFault) → IsAnswer q r → IsAnswer q s → ¬ IsMemory r → ¬ IsMemory s → r ≡ s
one-answer q r s a b = one-of q r s (sorted q r a) (sorted q s b)

-- ---- a leaf that may be registered is

registers-leaf : (q : Request) (chain : Texts) (metadata party : Json) → Resolves q chain metadata → party_in metadata ≡ Some party → IsAnswer q (Ok (registered_of q chain party))
unfolding registered_of
registers-leaf q chain metadata party resolves has_type =
    record { claims = record { chain = chain; metadata = metadata; resolves = resolves; party = party; has_type = has_type; says = refl }; text = refl }

module _ (q : Request) (chain : Texts) (metadata party : Json) (resolves : Resolves q chain metadata) (has_type : party_in metadata ≡ Some party) where
  refuted : (fault : RegisterFault) → IsRefused q fault → ¬ (fault ≡ Memory) → ⊥
  refuted fault a definite =
      let same = one-answer q (Ok (registered_of q chain party)) (Err fault) (registers-leaf q chain metadata party resolves has_type) a (λ e. cc e) (λ e. definite (cc e)) in cc same

  complete : (r : Result Registered RegisterFault) → IsAnswer q r → IsRegisteredUnlessMemory r
  complete (Ok r) a = tt
  complete (Err Memory) a = refl
  complete (Err Form) a = absurd (refuted Form a (λ e. cc e))
  complete (Err NoChain) a = absurd (refuted NoChain a (λ e. cc e))
  complete (Err Spent) a = absurd (refuted Spent a (λ e. cc e))
  complete (Err Fault) a = absurd (refuted Fault a (λ e. cc e))
  complete (Err (Chain place reason)) a = absurd (refuted (Chain place reason) a (λ e. cc e))
  complete (Err NoType) a = absurd (refuted NoType a (λ e. cc e))

-- ---- until when

lasting : (q : Request) (claims : Json) → IsRegistration q claims → Lasts q claims
lasting q claims c =
    let least = least_exp (statements_of c.chain) in
    let above = valid-lasts (case_in q c.chain) c.resolves.valid in
    record {
      exp = end_of q.here (statements_of c.chain);
      says = ap (λ (tree : Json). find (codes "exp") (object_members tree)) c.says ∙ claims-exp q.here.iss q.here.anchor (registration_of q.here c.chain c.party);
      begun = λ some. omega (arith, above, some);
      short = omega arith;
      within = λ chain is.
          let same = one-chain q.bytes (posted_in q.bytes) q.found c.chain chain c.resolves.is_chain is in
          subst (λ ts. end_of q.here (statements_of c.chain) ≤ least_exp (statements_of ts)) same (omega arith);
    }

lasts-of : (q : Request) (r : Result Registered RegisterFault) → IsAnswer q r → IfOk r (λ registered. Lasts q registered.claims)
lasts-of q (Ok r) a = lasting q r.claims a.claims
lasts-of q (Err _) a = tt

-- an answer is all that a call says
pub registers : (q : Request) (r : Result Registered RegisterFault) → IsAnswer q r → IfOk r (λ registered. IsSealedFor q.here.signer registered.text) → Registers q r
registers q r a sealed = record {
  answer = a;
  one = λ other is definite also. one-answer q other r is a definite also;
  complete = λ chain metadata party resolves has_type. complete q chain metadata party resolves has_type r a;
  lasts = lasts-of q r a;
  sealed = sealed;
}
