-- The issuer of a mark that is kept by what the last of its rounds found.
use Rattle.std.proofs.Common.{◌≡◌, ℕ, List, Some, None, sym, ap, ◌∙◌, subst}
use Rattle.std.specs.Prelude.{option_and_then, option_map}
use Rattle.jwk_set.specs.declared.set.JwkSet.{JwkSet}
use Rattle.entity_statement.specs.Claims.{Claims}
use Rattle.entity_statement.specs.Signed.{statement_of}
use Rattle.resolve_reply.specs.declared.issuers.Issuer.{Issuer}
use Rattle.resolve_round.specs.declared.trace.Trace.{Trace}
use Rattle.resolve_round.specs.Rounds.{FoundPath}
use Rattle.resolve_round.specs.declared.aim.Aim.{Aim}
use Rattle.resolve_search.specs.declared.round.FoundChain.{FoundChain}
use Rattle.resolve_search.specs.declared.round.RoundEnd.{RoundEnd}
use Rattle.resolve_search.specs.Turning.{IsChain, query_at}
use Rattle.fed_resolver.specs.Going.{HasIssuer, HasRounds, KeepsBy, first_text}
use Rattle.fed_resolver.specs.Searches.{first_text_of, keys_said}
use Rattle.fed_resolver.proofs.EndTexts.{Says, first-says, first-there}
use Rattle.fed_resolver.proofs.WholeLaws.{no-text, round-last, said-none}

-- the keys that a text says are those of its statement
pub keys-of-text : (text : List ℕ) (claims : Claims) (set : JwkSet) → statement_of text ≡ Some claims → set.keys ≡ claims.keys → keys_said (Some text) ≡ Some set.keys
unfolding keys_said
keys-of-text text claims set reads are = ap (option_map (λ (c : Claims). c.keys)) reads ∙ ap Some (sym are)

module _ (aim : Aim) (old new : Trace) (ended : RoundEnd) (has : HasRounds aim old new ended) where
  -- the first text of a chain that was found is the issuer's configuration
  module _ (chain : FoundChain) (is : ended.chain ≡ Some chain) where
    found_chain : IsChain (query_at aim old) new has.last (Some chain)
    found_chain = subst (IsChain (query_at aim old) new has.last) is has.chain

    says : Says (query_at aim old) has.last aim.leaf (first_text chain.texts)
    says = first-says (query_at aim old) has.last (round-last (query_at aim old) has.courses has.last has.are has.is_last) found_chain.0 found_chain.1 new chain found_chain.2

    first-got : first_text_of has.last ≡ Some (first_text chain.texts)
    first-got = first-there (query_at aim old) has.last (round-last (query_at aim old) has.courses has.last has.are has.is_last) found_chain.0 found_chain.1 new chain found_chain.2

    pub issuer-reads : (own : Claims) × (statement_of (first_text chain.texts) ≡ Some own)
    issuer-reads = (says.own, says.reads)

    pub issuer-kept : (before after : List Issuer) → KeepsBy aim.leaf (Some (first_text chain.texts)) before after → HasIssuer aim old new before after
    issuer-kept before after keeps = record {
      courses = has.courses;
      added = has.added;
      are = has.are;
      last = has.last;
      is_last = has.is_last;
      kept = subst (λ o. KeepsBy aim.leaf o before after) (sym first-got) keeps;
      said = says.said ∙ sym (ap (option_and_then statement_of) first-got ∙ says.reads);
    }

  pub issuer-none : ended.chain ≡ None → (before after : List Issuer) → after ≡ before → HasIssuer aim old new before after
  issuer-none is before after same =
      let none : ¬ FoundPath has.last = subst (IsChain (query_at aim old) new has.last) is has.chain in
      record {
        courses = has.courses;
        added = has.added;
        are = has.are;
        last = has.last;
        is_last = has.is_last;
        kept = subst (λ o. KeepsBy aim.leaf o before after) (sym (no-text has.last none)) same;
        said = said-none (query_at aim old) has.last aim.leaf none ∙ sym (ap (option_and_then statement_of) (no-text has.last none));
      }
