-- What the book of a node gives its trust anchors.
use Rattle.std.proofs.Common.{◌≡◌, ℕ, List, [], ◌∷◌, Bool, true, false, map, Option, Some, refl, ap}
use Rattle.std.specs.Prelude.{bytes_eq, cond, find, option_map}
use Rattle.std.specs.Option.{option_map_or}
use Rattle.jwk_set.specs.declared.set.JwkSet.{JwkSet}
use Rattle.node_config.specs.declared.entities.AnchorPart.{AnchorPart}
use Rattle.node_config.specs.Nodes.{Anchor, entity_of}
use Rattle.node_config.specs.Told.{told_anchor}
use Rattle.statement_shelf.specs.Book.{keys_of}
use Rattle.resolve_reply.specs.Bounds.{bounds_for, is_of, usual}
use Rattle.resolve_reply.specs.declared.bounds.AnchorBounds.{AnchorBounds}
use Rattle.node_files.specs.ResolvingParts.{anchor_keys, booked_entity, booked_keys, bounds_of, configured_bounds, configured_keys, is_named, part_bounds}

one : (b : Bool) (part : AnchorPart) (booked : Option JwkSet) (found : Option Anchor) → option_map (λ (set : JwkSet). set.keys) booked ≡ option_map (λ (a : Anchor). a.entity.keys) found
    → option_map (λ (set : JwkSet). set.keys) (cond b (Some part.keys) booked) ≡ option_map (λ (a : Anchor). a.entity.keys) (cond b (Some (told_anchor part)) found)
one true part booked found rest = refl
one false part booked found rest = rest

-- they are those that the configuration gives
pub booked : (anchor : List ℕ) (parts : List AnchorPart) → booked_keys anchor (map anchor_keys parts) ≡ configured_keys anchor (map told_anchor parts)
unfolding configured_keys
booked anchor [] = refl
booked anchor (part ∷ parts) =
    one (bytes_eq part.anchor anchor) part (keys_of anchor (map anchor_keys parts)) (find (is_named anchor) (map told_anchor parts)) (booked anchor parts)

-- and they are listed as the configuration lists them
pub listed : (parts : List AnchorPart) → map booked_entity (map anchor_keys parts) ≡ map entity_of (map told_anchor parts)
listed [] = refl
listed (part ∷ parts) = ap (λ entities. booked_entity (anchor_keys part) ∷ entities) (listed parts)

-- how far searches go is what the configuration sets
pub bounded : (parts : List AnchorPart) → map part_bounds parts ≡ map bounds_of (map told_anchor parts)
bounded [] = refl
bounded (part ∷ parts) = ap (λ entries. part_bounds part ∷ entries) (bounded parts)

bound : (b : Bool) (anchor : Anchor) (entry : Option AnchorBounds) (found : Option Anchor)
    → option_map_or (λ (e : AnchorBounds). e.bounds) entry usual ≡ option_map_or (λ (a : Anchor). (bounds_of a).bounds) found usual
    → option_map_or (λ (e : AnchorBounds). e.bounds) (cond b (Some (bounds_of anchor)) entry) usual ≡ option_map_or (λ (a : Anchor). (bounds_of a).bounds) (cond b (Some anchor) found) usual
bound true anchor entry found rest = refl
bound false anchor entry found rest = rest

-- those of one anchor are those of its first object
pub bounds-configured : (id : List ℕ) (anchors : List Anchor) → bounds_for (map bounds_of anchors) id ≡ configured_bounds id anchors
unfolding bounds_for configured_bounds
bounds-configured id [] = refl
bounds-configured id (anchor ∷ anchors) =
    bound (bytes_eq anchor.entity.id id) anchor (find (is_of id) (map bounds_of anchors)) (find (is_named id) anchors) (bounds-configured id anchors)
