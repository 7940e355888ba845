-- The keys that are listed for a trust anchor.
use Rattle.std.proofs.Common.{◌≡◌, List, [], ◌∷◌, true, false, Bool, Option, Some, None, refl, sym, ap, ◌∙◌}
use Rattle.std.specs.Prelude.{bytes_eq, cond, find, option_map}
use Rattle.jwk_set.specs.declared.jwk.Jwk.{Jwk}
use Rattle.jwk_set.specs.declared.set.JwkSet.{JwkSet}
use Rattle.entity_statement.specs.Claims.{Identifier}
use Rattle.statement_shelf.specs.Book.{keys_of}
use Rattle.statement_shelf.specs.declared.calls.AnchorKeys.{AnchorKeys}
use Rattle.node_files.specs.ResolvingParts.{booked_keys}
use Rattle.register_once.specs.Opened.{is_of}

-- those of the first entry of its name
keys-found : (anchor : Identifier) (anchors : List AnchorKeys) → option_map (λ (a : AnchorKeys). a.keys) (find (is_of anchor) anchors) ≡ keys_of anchor anchors
keys-found anchor [] = refl
keys-found anchor (a ∷ anchors) = by (bytes_eq a.anchor anchor) (keys-found anchor anchors)
  where
    by : (b : Bool) → option_map (λ (x : AnchorKeys). x.keys) (find (is_of anchor) anchors) ≡ keys_of anchor anchors
        → option_map (λ (x : AnchorKeys). x.keys) (cond b (Some a) (find (is_of anchor) anchors)) ≡ cond b (Some a.keys) (keys_of anchor anchors)
    by true rest = refl
    by false rest = rest

mapped : (o : Option AnchorKeys) → option_map (λ (set : JwkSet). set.keys) (option_map (λ (a : AnchorKeys). a.keys) o) ≡ option_map (λ (a : AnchorKeys). a.keys.keys) o
mapped None = refl
mapped (Some a) = refl

pub booked-found : (anchor : Identifier) (anchors : List AnchorKeys) (o : Option AnchorKeys) → o ≡ find (is_of anchor) anchors
    → option_map (λ (a : AnchorKeys). a.keys.keys) o ≡ booked_keys anchor anchors
booked-found anchor anchors o is = sym (mapped o) ∙ ap (λ x. option_map (λ (set : JwkSet). set.keys) (option_map (λ (a : AnchorKeys). a.keys) x)) is ∙ ap (option_map (λ (set : JwkSet). set.keys)) (keys-found anchor anchors)
