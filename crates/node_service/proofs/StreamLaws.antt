-- An authority that answers the requests of a stream stays the same.
use Rattle.std.proofs.Common.{◌≡◌, ◌⊎◌, ℕ, suc, Bool, true, false, List, [], ◌∷◌, Result, Ok, Err, refl, sym, ap, ◌∙◌, subst, inl, inr}
use Rattle.http_messages.specs.declared.request.Incoming.{Incoming}
use Rattle.http_stream.specs.declared.fault.StreamFault.{StreamFault}
use Rattle.http_stream.specs.declared.fault.StreamFault.TheVariants.{ReadFault, WriteFault, Ended, Memory}
use Rattle.http_stream.specs.Conversations.{Ends, Faults, Goes, Point, Serves, StreamAt}
use Rattle.fed_serve.specs.Moments.{AnswerAt}
use Rattle.node_service.specs.Streams.{AnswersOne, AuthorityAt, GivesUp, IsSame, authority_at}

same : (a b : AuthorityAt) → b ≡ a → IsSame a b
same a b is = record { node = ap (λ (x : AuthorityAt). x.node) is; reads = ap (λ (x : AuthorityAt). x.reads) is }

then : (a b c : AuthorityAt) → IsSame a b → IsSame b c → IsSame a c
then a b c one next = record { node = next.node ∙ one.node; reads = next.reads ∙ one.reads }

point_same : (p q : Point AuthorityAt) → q ≡ p → IsSame p.at q.at
point_same p q is = same p.at q.at (ap (λ (x : Point AuthorityAt). x.at) is)

goes : (p q : Point AuthorityAt) (asked : List Incoming) → Goes AnswersOne p asked q → IsSame p.at q.at
goes p q [] is = point_same p q is
goes p q (a ∷ more) is = then p.at is.0.at q.at is.1.steps.0 (goes is.0 q more is.2)

breaks_off : (behind : List ℕ) (p q : Point AuthorityAt) (fault : StreamFault) → Faults AnswersOne GivesUp behind p fault q → IsSame p.at q.at
breaks_off behind p q ReadFault is = point_same p q is.0
breaks_off behind p q Ended is = point_same p q is.0
breaks_off behind p q WriteFault is = elim is.1.makes [ inl made ↦ made.1.0 | inr wanting ↦ wanting.0.0 ]
breaks_off behind p q Memory (inl is) = point_same p q is
breaks_off behind p q Memory (inr is) = elim is.1.how [ inl made ↦ made.1.0 | inr wanting ↦ wanting.0.0 ]

ended : (behind : List ℕ) (n : ℕ) (p q : Point AuthorityAt) (result : Result ℕ StreamFault) → Ends AnswersOne GivesUp behind n p result q → IsSame p.at q.at
ended behind n p q (Ok m) (inl is) = point_same p q is.1
ended behind n p q (Ok m) (inr is) = is.1.1.steps.0
ended behind n p q (Err fault) is = breaks_off behind p q fault is

-- it has the same node and reads the same clock behind the last as before the first
pub stays : (most : ℕ) (before now : StreamAt AuthorityAt) (result : Result ℕ StreamFault) → Serves AnswersOne GivesUp most before now result → IsSame before.at now.at
stays most before now result is =
    then before.at is.reached.at now.at (goes _ is.reached is.answered is.goes)
    (subst (λ a. IsSame is.reached.at a) is.at (ended is.behind _ is.reached is.gone result is.ends))

-- so behind the last it is as it was, but for what it answers with
pub kept : (most : ℕ) (before now : StreamAt AuthorityAt) (result : Result ℕ StreamFault) (at : AnswerAt) → Serves AnswersOne GivesUp most before now result → at ≡ now.at.at
    → Serves AnswersOne GivesUp most before (record now { at = authority_at before.at.node before.at.reads at }) result
kept most before now result at is same =
    let stayed = stays most before now result is in
    subst (λ a. Serves AnswersOne GivesUp most before (record now { at = a }) result)
    (ap (λ n. authority_at n now.at.reads now.at.at) stayed.node ∙ ap (λ r. authority_at before.at.node r now.at.at) stayed.reads ∙ ap (λ a. authority_at before.at.node before.at.reads a) (sym same)) is
