-- A call's reply is one that its session may make.
use Rattle.std.proofs.Common.{ℕ, List, [], true, sym, subst, inl, inr, ⊎_elim}
use Rattle.std.specs.Prelude.{slice_index_or}
use Rattle.jwk_set.specs.declared.jwk.Jwk.{Jwk}
use Rattle.sealed.specs.Seals.{Pair}
use Rattle.entity_statement.specs.Claims.{Identifier}
use Rattle.chain_climb.specs.Elements.{Among}
use Rattle.statement_shelf.specs.declared.calls.ShelfReply.TheVariants.{Hit}
use Rattle.statement_shelf.specs.Entries.{part_of}
use Rattle.chain_check.specs.Chains.{Texts, statements_of}
use Rattle.chain_check.specs.Judging.{seal_keys, seal_place}
use Rattle.chain_check.specs.Validity.{IsValid, case_of}
use Rattle.resolve_round.specs.declared.trace.Trace.{Trace}
use Rattle.resolve_round.specs.Told.{ShownByHit, ShownSealed, ShowsSeals, TestedGood}
use Rattle.resolve_round.specs.Traces.{pair_in}
use Rattle.fed_resolver.specs.Worlds.{Happening, IsToldIn, KnowsSealed, MayReply, ShownProved, TestedGood as Tested, tests}

module _ (before : List Happening) (session : ℕ) (anchor : Identifier) (trace : Trace) (told : IsToldIn before session anchor trace) where
  tested-before : (pair : Pair) → TestedGood trace.checks pair → Tested before session pair
  tested-before pair (check, among, is, good) =
      subst (λ p. Among (tests session p true) before) is (subst (λ b. Among (tests session (pair_in check) b) before) good (told.checks check among))

  shown-before : (pair : Pair) → ShownByHit trace.events pair → ShownProved before session pair
  shown-before pair (url, moment, proven, among, text, key) = record {
    part = part_of url;
    url = url;
    moment = moment;
    proven = proven;
    happened = told.looks url moment (Hit proven) among;
    text = text;
    key = key;
  }

  knows-sealed : (keys : List Jwk) (text : List ℕ) → ShownSealed trace keys text → KnowsSealed before session keys text
  knows-sealed keys text shown = record {
    public = shown.public;
    named = shown.named;
    known = ⊎_elim (λ tested. inl (tested-before (record { text = text; public = shown.public }) tested))
        (λ hit. inr (shown-before (record { text = text; public = shown.public }) hit)) shown.known;
  }

  -- a valid chain whose seals the trace shows may be replied with
  pub may-reply : (moment : ℕ) (chain : Texts) → IsValid (case_of chain anchor trace.keys.keys moment) → ShowsSeals trace chain → MayReply before session anchor moment chain
  may-reply moment chain valid shown = record {
    read = told.read;
    form = valid.form;
    names = valid.names;
    current = valid.current;
    sealed = λ i less. knows-sealed (seal_keys (statements_of chain) told.read.keys.keys i) (slice_index_or chain (seal_place i) [])
        (subst (λ ks. ShownSealed trace (seal_keys (statements_of chain) ks i) (slice_index_or chain (seal_place i) [])) (sym told.keys) (shown i less));
    within = valid.within;
    merges = valid.merges;
    applies = valid.applies;
  }
