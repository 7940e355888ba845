-- Texts and the keys of a set that they name.
use Rattle.std.proofs.Common.{◌≡◌, ℕ, List, Bool, true, false, Some, None, sym, ap, ◌∙◌, inl}
use Rattle.std.specs.Option.{option_map_or}
use Rattle.std.specs.Result.{result_ok}
use Rattle.jws_form.specs.declared.compact.Compact.{Compact}
use Rattle.jws_form.specs.Compact.{IsCompact}
use Rattle.jws_form.proofs.Laws.{only}
use Rattle.jwk_set.specs.declared.jwk.Jwk.{Jwk}
use Rattle.sealed.specs.Deciding.{has_signature, is_sealed, is_sealed_by}
use Rattle.sealed.specs.Seals.{named_key, pair_of}
use Rattle.sealed.proofs.DecidingLaws.{is_sealed-from_IsSealed, is_sealed-from_IsUnsealed}
use Rattle.sealed.specs.Tests.{key_in}
use Rattle.entity_statement.specs.Claims.{Claims}
use Rattle.entity_statement.specs.Signed.{statement_of}
use Rattle.chain_check.proofs.SignatureLaws.{key_in-compact}
use Rattle.resolve_round.specs.declared.trace.Search.{Search}
use Rattle.resolve_round.specs.declared.trace.Trace.{Trace}
use Rattle.resolve_round.specs.Knowing.{IsAnswer, with_search}
use Rattle.resolve_round.specs.Testing.{KeepsGood, KeepsTrue, MayTest, StaysProved, StaysTrue}
use Rattle.resolve_round.specs.Told.{Obtained}

module _ (compact : Compact) (keys : List Jwk) (is : IsCompact compact.whole compact) where
  by_set : is_sealed_by compact.whole keys ≡ option_map_or (has_signature compact) (named_key compact keys) false
  unfolding is_sealed_by
  by_set = ap (λ r. option_map_or (λ (c : Compact). option_map_or (has_signature c) (named_key c keys) false) (result_ok r) false) (only compact.whole compact is)

  by_pair : (public : List ℕ) → is_sealed (pair_of compact.whole public) ≡ has_signature compact public
  unfolding is_sealed
  by_pair public = ap (λ r. option_map_or (λ (c : Compact). has_signature c public) (result_ok r) false) (only compact.whole compact is)

  answer_is : (public : List ℕ) (good : Bool) → IsAnswer (pair_of compact.whole public) good → is_sealed (pair_of compact.whole public) ≡ good
  answer_is public true seal = is_sealed-from_IsSealed (pair_of compact.whole public) seal
  answer_is public false miss = is_sealed-from_IsUnsealed (pair_of compact.whole public) miss

  -- the answer for the key that is named is that for the set
  pub sealed-as_answered : (public : List ℕ) (good : Bool) → named_key compact keys ≡ Some public → IsAnswer (pair_of compact.whole public) good → good ≡ is_sealed_by compact.whole keys
  sealed-as_answered public good named answer =
      sym (by_set ∙ ap (λ k. option_map_or (has_signature compact) k false) named ∙ sym (by_pair public) ∙ answer_is public good answer)

  -- where none is named it isn't sealed
  pub unnamed-unsealed : named_key compact keys ≡ None → false ≡ is_sealed_by compact.whole keys
  unnamed-unsealed none = sym (by_set ∙ ap (λ k. option_map_or (has_signature compact) k false) none)

  pub named-in : (public : List ℕ) → named_key compact keys ≡ Some public → key_in keys compact.whole ≡ Some public
  named-in public named = key_in-compact keys compact.whole compact is ∙ named

-- a text that names a key of its own statement may be tested under it
module _ (old new : Trace) (url : List ℕ) (compact : Compact) (s : Claims) (public : List ℕ) (is : IsCompact compact.whole compact) (reads : statement_of compact.whole ≡ Some s)
    (named : named_key compact s.keys ≡ Some public) where
  may : (search : Search) → Obtained (with_search old search).searches url compact.whole → MayTest (with_search old search).searches old.keys.keys url (pair_of compact.whole public)
  may search obtained = record { obtained = obtained; named = inl (url, compact.whole, s, obtained, reads, named-in compact s.keys is public named) }

  pub keeps-true : StaysTrue url (pair_of compact.whole public) old new → KeepsTrue url compact.whole old new
  keeps-true stays age search obtained holds = stays age search (may search obtained) holds

  pub keeps-good : StaysProved url (pair_of compact.whole public) old new → KeepsGood url compact.whole old new
  keeps-good stays search obtained good = stays search obtained good
