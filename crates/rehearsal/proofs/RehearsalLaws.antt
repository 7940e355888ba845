-- The whole rehearsal, from its steps.
use Rattle.std.proofs.Common.{◌≡◌, ℕ, List, [], ◌++◌, true, false, Option, Some, None, Result, Ok, Err, IfErr, refl, ap, ◌∙◌, subst}
use Rattle.fed_base.specs.Plans.{Plan}
use Rattle.fed_net.specs.declared.memory_link.MemoryLink.{MemoryLink}
use Rattle.fed_net.specs.declared.named_page.NamedPage.{NamedPage}
use Rattle.fed_net.specs.MemoryLinks.{link_plan, link_web, page_of}
use Rattle.key_ring.specs.Rings.{Ring}
use Rattle.authority_core.specs.Nodes.{Node as Authority}
use Rattle.turn_log.specs.Groups.{known}
use Rattle.statement_shelf.specs.Passes.{CommonsKnown, CommonsPass}
use Rattle.fed_serve.specs.declared.node.Node.{Node}
use Rattle.rehearsal.specs.declared.fault.RehearsalFault.{RehearsalFault}
use Rattle.rehearsal.specs.declared.fault.RehearsalFault.TheVariants.{Worn, Memory}
use Rattle.rehearsal.specs.declared.federation.Entity.{Entity}
use Rattle.rehearsal.specs.declared.requesting.Answer.{Answer}
use Rattle.rehearsal.specs.declared.summary.Counts.{Counts}
use Rattle.rehearsal.specs.declared.summary.Summary.{Summary}
use Rattle.rehearsal.specs.Configurations.{IsConfigured, resolver_key, resolving_by}
use Rattle.rehearsal.specs.Federations.{AddsFederation, pages_in}
use Rattle.rehearsal.specs.Keys.{ring_of}
use Rattle.rehearsal.specs.Rehearsals.{HoldsWornBy, IsAskedBy, IsAskedTwice, IsRehearsal, IsSummary, is_worn}
use Rattle.rehearsal.specs.Requests.{IsAnswer, IsWornOf, Shared, shared_at}
use Rattle.rehearsal.specs.Summaries.{IsCountOf}

-- a node of a configuration, whichever way its text and its ring are named
pub configured-as : (text named : List ℕ) (ring its : Ring) (node : Authority) → text ≡ named → ring ≡ its → IsConfigured text ring node → IsConfigured named its node
configured-as text named ring its node same rings is = subst (λ t. IsConfigured t its node) same (subst (λ r. IsConfigured text r node) rings is)

-- both requests, with a clock that wasn't read and a ledger that has counted nothing
pub asked-twice : (node : Node) (params : ℕ) (anchor : List ℕ) (link : MemoryLink) (readings tests : ℕ) (known : CommonsKnown) (between after : Shared) (first second : Answer) (counts : Counts) (summary : Summary)
    → readings ≡ 0 → tests ≡ 0 → IsAnswer node (shared_at link readings known tests) between first → IsCountOf first.trace counts → IsAnswer node between after second
    → IsSummary params anchor counts second summary → IsAskedTwice node params anchor (shared_at link 0 known 0) summary
asked-twice node params anchor link readings tests known between after first second counts summary unread untested answered counted again tells = record {
  between = between;
  after = after;
  first = first;
  answered = subst (λ r. IsAnswer node (shared_at link r known 0) between first) unread (subst (λ n. IsAnswer node (shared_at link readings known n) between first) untested answered);
  counts = counts;
  counted = counted;
  second = second;
  again = again;
  tells = tells;
}

-- the whole, over a link of the pages that were added
pub rehearsed : (params : ℕ) (old pages : List NamedPage) (anchor : Entity) (link : MemoryLink) (plan : Plan) (summary : Summary) → old ≡ [] → AddsFederation params old pages anchor → link_web link ≡ page_of pages
    → link_plan link ≡ plan → plan.made ≡ 0 → IsAskedBy params anchor link summary → IsRehearsal params summary
rehearsed params old pages anchor link plan summary none adds web planned unmade by = record {
  federation = adds.federation;
  is = adds.is;
  resolver = by.resolver;
  configured = subst (λ keys. IsConfigured (resolving_by keys) (ring_of resolver_key) by.resolver) adds.known.keys by.configured;
  node = by.node;
  resolves = by.resolves;
  start = shared_at link 0 by.knows 0;
  begun = record {
    web = ap Some (web ∙ ap page_of (adds.pages ∙ ap (λ p. p ++ pages_in adds.federation) none));
    uncalled = ap (λ (p : Plan). p.made) planned ∙ unmade;
    untested = refl;
    parts_unused = by.parts_unused;
    book_unused = by.book_unused;
  };
  asked = subst (λ id. IsAskedTwice by.node params id (shared_at link 0 by.knows 0) summary) adds.known.id by.asked;
}

-- a pass is held where an object was worn, and none anywhere else
module _ {S T : Type 0} {X : Type 0} where
  pub held-worn : (result : Result X RehearsalFault) (pass : CommonsPass S T)
      (worn : Option (CommonsPass S T)) → is_worn result ≡ true → IfErr result (IsWornOf (known pass)) → worn ≡ Some pass → HoldsWornBy result worn
  held-worn (Ok x) pass worn worn_so only is = cc worn_so
  held-worn (Err Worn) pass worn worn_so only is = (pass, is, only)
  held-worn (Err Memory) pass worn worn_so only is = cc worn_so

  pub none-worn : (result : Result X RehearsalFault) (worn : Option (CommonsPass S T)) → is_worn result ≡ false → worn ≡ None → HoldsWornBy result worn
  none-worn (Ok x) worn not_worn is = is
  none-worn (Err Worn) worn not_worn is = absurd (cc not_worn)
  none-worn (Err Memory) worn not_worn is = is
