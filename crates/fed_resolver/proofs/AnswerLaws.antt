-- A reply on the chain that the leaf's last round found.
use Rattle.std.proofs.Common.{◌≡◌, ◌+◌, ℕ, List, [], ◌++◌, length, Some, Ok, refl, sym, ap, ap₂, ◌∙◌, subst, inl, inr, ⊎_elim}
use Rattle.std.specs.Prelude.{slice_index_or}
use Rattle.std.specs.Option.{option_and_then, option_map_or}
use Rattle.jwk_set.specs.declared.set.JwkSet.{JwkSet}
use Rattle.entity_statement.specs.Claims.{Claims, Identifier}
use Rattle.entity_statement.specs.Signed.{statement_of}
use Rattle.chain_check.specs.Chains.{Texts, statements_of}
use Rattle.chain_check.specs.Verdicts.{least_exp}
use Rattle.chain_check.specs.Judging.{seal_keys, seal_place}
use Rattle.chain_climb.specs.Elements.{Among}
use Rattle.chain_climb.proofs.Elements.{among-left}
use Rattle.resolve_reply.specs.declared.issuers.Issuer.{Issuer}
use Rattle.resolve_reply.specs.declared.marks.GoodMarks.{GoodMarks}
use Rattle.resolve_reply.specs.declared.reply.Reply.{Reply}
use Rattle.resolve_reply.specs.declared.signer.Signer.{Signer}
use Rattle.resolve_reply.specs.Bounds.{bounds_for}
use Rattle.resolve_reply.specs.Marks.{AreConfigs, AreGood, Judging, judging_by, keys_of, looked_at, searched_issuers, tests_of_marks, text_of}
use Rattle.resolve_reply.specs.Replies.{IsReplyOf, cut_to}
use Rattle.resolve_round.specs.declared.request.ResolveRequest.{ResolveRequest}
use Rattle.resolve_round.specs.declared.trace.Check.{Check}
use Rattle.resolve_round.specs.declared.trace.Event.{Event}
use Rattle.resolve_round.specs.declared.trace.Trace.{Trace}
use Rattle.resolve_round.specs.Courses.{Course}
use Rattle.resolve_round.specs.Pages.{Query, chain_of}
use Rattle.resolve_round.specs.Rounds.{AreRoundsForEach, pages_in}
use Rattle.resolve_round.specs.Told.{IsTrueSoFar, ProvesGood, ShowsSeals}
use Rattle.resolve_round.specs.Traces.{IsWork}
use Rattle.resolve_search.specs.declared.round.FoundChain.{FoundChain}
use Rattle.resolve_search.specs.Turning.{query_at}
use Rattle.fed_resolver.specs.Going.{HasIssuers, HasLeaf, first_aim, first_text, last_text}
use Rattle.fed_resolver.specs.Outcomes.{HasChainEnd, HasConfigs, HasEnds, IsReply, IsResult, LastReplies, asked_query}
use Rattle.fed_resolver.specs.Refusals.{outcome_of}
use Rattle.fed_resolver.specs.Replying.{IsMarked}
use Rattle.fed_resolver.specs.Searches.{Ends, both_ends, ends_of, found_keys, found_texts, issuers_after, judging_after, keys_said, marks_tested}
use Rattle.fed_resolver.specs.Stretches.{SameKeys}
use Rattle.fed_resolver.specs.Told.{Situation, ToldWhole, situation_of}
use Rattle.fed_resolver.specs.Uses.{CountsAll}
use Rattle.fed_resolver.proofs.EndTexts.{Says, first-got, first-says, last-got-there, last-says}
use Rattle.fed_resolver.proofs.IssuedLaws.{issuer-chain}
use Rattle.fed_resolver.proofs.MarkCounts.{configs-along, good-along, tests-along}
use Rattle.fed_resolver.proofs.WholeLaws.{whole-query, whole_told}
use Rattle.fed_base.specs.Counts.{counted}
use Rattle.sealed.specs.Tests.{key_in}

-- what was shown stays shown
shown-later : (old new : Trace) (checks : List Check) (more : List Event) → new.keys ≡ old.keys → new.checks ≡ old.checks ++ checks → new.events ≡ old.events ++ more → (chain : Texts) → ShowsSeals old chain → ShowsSeals new chain
shown-later old new checks more keys are events chain shown i less =
    let seal = shown i less in
    record {
      public = seal.public;
      named = subst (λ (k : JwkSet). key_in (seal_keys (statements_of chain) k.keys i) (slice_index_or chain (seal_place i) []) ≡ Some seal.public) (sym keys) seal.named;
      known =
          ⊎_elim (λ tested. inl (tested.0, subst (Among tested.0) (sym are) (among-left tested.0 old.checks checks tested.1), tested.2, tested.3))
          (λ hit. inr (hit.0, hit.1, hit.2, subst (Among _) (sym events) (among-left _ old.events more hit.3), hit.4, hit.5)) seal.known;
    }

same-claims : (text : List ℕ) (a b : Claims) → statement_of text ≡ Some a → statement_of text ≡ Some b → a ≡ b
same-claims text a b one two = let both : Some a ≡ Some b = sym one ∙ two in cc both

module _ (request : ResolveRequest) (signer : Signer) (t : ℕ) (mid new : Trace) (chain : FoundChain) (leaf : HasLeaf (situation_of request signer t) mid chain) (same : SameKeys mid new) (more : List Event)
    (events : new.events ≡ mid.events ++ more) (works : (event : Event) → Among event more → IsWork event) (checks : List Check) (are : new.checks ≡ mid.checks ++ checks)
    (told : IsTrueSoFar signer.age new) (good : ProvesGood new) (own anchor : Claims) (own_reads : statement_of (first_text chain.texts) ≡ Some own) (anchor_reads : statement_of (last_text chain.texts) ≡ Some anchor)
    (kept : List Issuer) (has : HasIssuers (first_aim request.sub request.anchor signer) (searched_issuers own.marks anchor) mid new kept) where
  abbrev here : Situation
  here = situation_of request signer t

  abbrev last : Course
  last = leaf.rounds.last

  abbrev query : Query
  query = asked_query here mid

  own-says : Says query last query.entity (first_text chain.texts)
  own-says = first-says query last leaf.rounds.last_round leaf.path leaf.is_path mid chain leaf.is_found

  anchor-says : Says query last query.anchor (last_text chain.texts)
  anchor-says = last-says query last leaf.rounds.last_round leaf.path leaf.is_path mid chain leaf.is_found

  own-is : own-says.own ≡ own
  own-is = same-claims (first_text chain.texts) own-says.own own own-says.reads own_reads

  anchor-is : anchor-says.own ≡ anchor
  anchor-is = same-claims (last_text chain.texts) anchor-says.own anchor anchor-says.reads anchor_reads

  abbrev ends : Ends
  ends = record { leaf = own; anchor = anchor }

  ends-are : ends_of query last ≡ Some ends
  ends-are = ap₂ both_ends (own-says.said ∙ ap Some own-is) (anchor-says.said ∙ ap Some anchor-is)

  searched : issuers_after query last ≡ searched_issuers own.marks anchor
  searched = ap (λ o. option_map_or (λ (e : Ends). searched_issuers e.leaf.marks e.anchor) o []) ends-are

  aimed : query_at (first_aim request.sub request.anchor signer) mid ≡ query
  aimed = ap (λ m. record { entity = request.sub; anchor = request.anchor; keys = mid.keys.keys; moment = m; bounds = bounds_for signer.bounds request.anchor }) leaf.rounds.moment

  rounds : AreRoundsForEach query (issuers_after query last) has.others
  rounds = subst (λ ids. AreRoundsForEach query ids has.others) (sym searched) (subst (λ q. AreRoundsForEach q (searched_issuers own.marks anchor) has.others) aimed has.rounds)

  abbrev told_whole : ToldWhole here new
  told_whole = whole_told here mid new leaf.rounds same more events works told good has.others has.added rounds

  now : query ≡ asked_query here new
  now = whole-query here mid new leaf.rounds same more events works told good has.others has.added rounds

  -- the keys that were kept are those that the rounds say
  keys-are : (issuer : Identifier) → keys_of kept issuer ≡ found_keys query has.others issuer
  keys-are issuer = subst (λ q. keys_of kept issuer ≡ found_keys q has.others issuer) aimed (has.keys issuer)

  abbrev by_kept : Judging
  by_kept = judging_by own.sub anchor kept t

  of-leaf : own.sub ≡ request.sub
  of-leaf = sym (ap (λ (c : Claims). c.sub) own-is) ∙ own-says.of.1

  good-marks : (exp : ℕ) (marks : GoodMarks) → AreGood by_kept (looked_at own.marks) exp marks → AreGood (judging_after query anchor has.others) (looked_at own.marks) exp marks
  good-marks exp marks all =
      good-along request.sub anchor t (keys_of kept) (found_keys query has.others) keys-are (looked_at own.marks) exp marks
      (subst (λ s. AreGood (judging_by s anchor kept t) (looked_at own.marks) exp marks) of-leaf all)

  tests-are : tests_of_marks by_kept (looked_at own.marks) ≡ tests_of_marks (judging_after query anchor has.others) (looked_at own.marks)
  tests-are =
      ap (λ s. tests_of_marks (judging_by s anchor kept t) (looked_at own.marks)) of-leaf
      ∙ tests-along request.sub anchor t (keys_of kept) (found_keys query has.others) keys-are (looked_at own.marks)

  tested : marks_tested query leaf.rounds.leaf has.others ≡ tests_of_marks by_kept (looked_at own.marks)
  unfolding marks_tested
  tested = rw (leaf.rounds.is_last, ends-are) (sym tests-are)

  abbrev texts : Texts
  texts = chain_of (pages_in last) leaf.path

  says-ends : HasEnds query texts ends
  says-ends = record {
    leaf = ap (option_and_then statement_of) (first-got query last leaf.rounds.last_round leaf.path leaf.is_path mid chain leaf.is_found) ∙ own_reads;
    of_leaf = (sym (ap (λ (c : Claims). c.iss) own-is) ∙ own-says.of.0, of-leaf);
    anchor = ap (option_and_then statement_of) (last-got-there query last leaf.rounds.last_round leaf.path leaf.is_path mid chain leaf.is_found) ∙ anchor_reads;
    of_anchor = (sym (ap (λ (c : Claims). c.iss) anchor-is) ∙ anchor-says.of.0, sym (ap (λ (c : Claims). c.sub) anchor-is) ∙ anchor-says.of.1);
  }

  module _ (reply : Reply) (marked : IsMarked (record { judging = by_kept; texts = text_of kept }) own.marks request signer chain reply) where
    abbrev is_reply : IsReply query request.types signer last has.others reply
    is_reply = record {
      path = leaf.path;
      is_path = leaf.is_path;
      chain = texts;
      is_chain = refl;
      valid = leaf.is_found.verdict.0;
      metadata = chain.resolved.metadata;
      resolves = leaf.is_found.verdict.1.metadata;
      ends = ends;
      are_ends = ends-are;
      says_ends = says-ends;
      issuers = issuer-chain query (issuers_after query last) has.others rounds;
      good = marked.good;
      are_good = subst (λ exp. AreGood (judging_after query anchor has.others) (looked_at own.marks) exp marked.good) leaf.is_found.verdict.1.exp (good-marks chain.resolved.exp marked.good marked.are_good);
      says = subst (λ ts. IsReplyOf signer (record { sub = request.sub; iat = t; exp = marked.good.exp; metadata = cut_to request.types chain.resolved.metadata; chain = ts; marks = marked.good.entries }) reply) leaf.is_found.are marked.says;
    }

    abbrev replies : LastReplies query request.types signer new leaf.rounds.leaf has.others reply
    replies = record { last = last; is_last = leaf.rounds.is_last; is_reply = is_reply; shown = shown-later mid new checks more same.keys are events texts leaf.is_found.shown }

    -- the reply, and what stands beside it, by what a query is after
    pub record Stands (q : Query) : Type 0 where
      pub replies : LastReplies q request.types signer new leaf.rounds.leaf has.others reply
      pub exp : reply.chain_exp ≡ least_exp (statements_of replies.is_reply.chain)
      pub configs : AreConfigs (found_texts has.others) replies.is_reply.good.entries reply.configs
      pub keys : (issuer : Identifier) → found_keys q has.others issuer ≡ keys_said (found_texts has.others issuer)

    stands : Stands query
    stands = record {
      replies = replies;
      exp = marked.chain_exp ∙ leaf.is_found.verdict.1.exp;
      configs = marked.configs ∙ configs-along (text_of kept) (found_texts has.others) has.texts marked.good.entries;
      keys = λ issuer. subst (λ q. found_keys q has.others issuer ≡ keys_said (found_texts has.others issuer)) aimed (has.said issuer);
    }

    stands-now : Stands (asked_query here new)
    stands-now = subst Stands now stands

    abbrev result : IsResult here signer new told_whole (Ok reply)
    result = stands-now.replies

    pub reply-end : HasChainEnd here signer new reply
    reply-end = record { whole = record { told = told_whole; result = result }; exp = stands-now.exp }

    pub reply-configs : HasConfigs here signer new reply
    reply-configs = record { whole = record { told = told_whole; result = result }; are = stands-now.configs; keys = stands-now.keys }

    -- the reply is that of a whole trace, and each test was counted
    pub reply-all : (before now_ticks : ℕ) → now_ticks ≡ counted (length new.checks + tests_of_marks by_kept (looked_at own.marks)) before → CountsAll here signer (outcome_of (Ok reply) new) before now_ticks
    reply-all before now_ticks count = record {
      whole = record { told = told_whole; result = result };
      count = count ∙ ap (λ n. counted (length new.checks + n) before) (sym tested ∙ ap (λ q. marks_tested q leaf.rounds.leaf has.others) now);
    }
