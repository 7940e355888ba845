-- No more paths are judged than were added.
use Rattle.std.proofs.Common.{◌≡◌, ◌≤◌, ◌+◌, ℕ, zero, suc, List, [], ◌∷◌, ◌++◌, length, flat_map, Option, Some, None, ap, subst, ⊎_elim, length-append, arith}
use Rattle.std.specs.Option.{option_map_or}
use Rattle.std.proofs.lemmas.List.Elements.{filter_map-append}
use Rattle.entity_statement.specs.Claims.{Claims, Identifier}
use Rattle.chain_climb.specs.declared.path.Path.{Path}
use Rattle.chain_climb.specs.Climbs.{Findings, Step, add, added, added_by, alone, climb, climb_from, configuration_of, judged, judged_by, look_at, need}
use Rattle.chain_climb.proofs.ClimbLaws.{few-judged}
use Rattle.chain_climb.proofs.PrefixLaws.{Beyond, Inside, cut}

module _ (found : Findings) (anchor : Identifier) (depth : ℕ) where
  abbrev look : Path → List Step
  look = look_at found anchor depth

  looks-few : (paths : List Path) → length (judged (flat_map look paths)) ≤ length paths
  looks-few [] = omega arith
  looks-few (path ∷ paths) =
      let e = ap length (filter_map-append judged_by (look path) (flat_map look paths)) in
      let f = length-append (judged (look path)) (judged (flat_map look paths)) in
      let g = few-judged found anchor depth path in
      let h = looks-few paths in
      omega (arith, e, f, g, h)

  -- so does each beginning of them
  begin-few : (steps taken left : List Step) (n : ℕ) → steps ≡ taken ++ left → length (judged steps) ≤ n → length (judged taken) ≤ n
  begin-few steps taken left n is few =
      let e = ap (λ l. length (judged l)) is in
      let f = ap length (filter_map-append judged_by taken left) in
      let g = length-append (judged taken) (judged left) in
      omega (arith, e, f, g, few)

  from-few : (n : ℕ) (paths : List Path) (taken left : List Step) → climb_from found anchor depth n paths ≡ taken ++ left → length (judged taken) ≤ length paths + length (added taken)
  unfolding climb_from
  from-few zero paths taken left is = let e = begin-few (flat_map look paths) taken left (length paths) is (looks-few paths) in omega (arith, e)
  from-few (suc n) paths taken left is =
      ⊎_elim
      (λ (inside : Inside (flat_map look paths) (climb_from found anchor depth n (added (flat_map look paths))) taken left).
      let e = begin-few (flat_map look paths) taken inside.0 (length paths) inside.1 (looks-few paths) in omega (arith, e))
      (λ (beyond : Beyond (flat_map look paths) (climb_from found anchor depth n (added (flat_map look paths))) taken left).
      let rest = from-few n (added (flat_map look paths)) beyond.0 left beyond.2 in
      let few = looks-few paths in
      let j = ap (λ l. length (judged l)) beyond.1 in
      let k = ap length (filter_map-append judged_by (flat_map look paths) beyond.0) in
      let l = length-append (judged (flat_map look paths)) (judged beyond.0) in
      let a = ap (λ l. length (added l)) beyond.1 in
      let b = ap length (filter_map-append added_by (flat_map look paths) beyond.0) in
      let c = length-append (added (flat_map look paths)) (added beyond.0) in
      omega (arith, rest, few, j, k, l, a, b, c))
      (cut (flat_map look paths) (climb_from found anchor depth n (added (flat_map look paths))) taken left is)

  module _ (leaf : Identifier) where
    abbrev Few : List Step → Type 0
    Few steps = length (judged steps) ≤ length (added steps)

    add-few : (taken left : List Step) → add (alone leaf) ∷ climb_from found anchor depth depth (alone leaf ∷ []) ≡ taken ++ left → Few taken
    add-few [] left is = omega arith
    add-few (step ∷ taken) left is =
        let one : add (alone leaf) ≡ step = cc is in
        let rest : climb_from found anchor depth depth (alone leaf ∷ []) ≡ taken ++ left = cc is in
        let few = from-few depth (alone leaf ∷ []) taken left rest in
        subst (λ s. Few (s ∷ taken)) one (omega (arith, few))

    root-few : (o : Option Claims) (taken left : List Step)
        → option_map_or (λ (_ : Claims). add (alone leaf) ∷ climb_from found anchor depth depth (alone leaf ∷ [])) o [] ≡ taken ++ left → Few taken
    root-few None [] left is = omega arith
    root-few None (step ∷ taken) left is = absurd (cc is)
    root-few (Some own) taken left is = add-few taken left is

    whole-few : (taken left : List Step)
        → need (configuration_of leaf) ∷ option_map_or (λ _. add (alone leaf) ∷ climb_from found anchor depth depth (alone leaf ∷ [])) (found (configuration_of leaf)) [] ≡ taken ++ left → Few taken
    whole-few [] left is = omega arith
    whole-few (step ∷ taken) left is =
        let one : need (configuration_of leaf) ≡ step = cc is in
        let rest : option_map_or (λ (_ : Claims). add (alone leaf) ∷ climb_from found anchor depth depth (alone leaf ∷ [])) (found (configuration_of leaf)) [] ≡ taken ++ left = cc is in
        subst (λ s. Few (s ∷ taken)) one (root-few (found (configuration_of leaf)) taken left rest)

    -- at each moment of a search
    pub climb-few : (taken left : List Step) → climb found leaf anchor depth ≡ taken ++ left → Few taken
    unfolding climb
    climb-few taken left is = whole-few taken left is
