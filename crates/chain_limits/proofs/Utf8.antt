-- The texts that are read from a well formed tree are UTF-8.
use Rattle.std.proofs.Common.{◌≡◌, ℕ, List, [], ◌∷◌, true, refl, sym, ap, ◌∙◌, subst}
use Rattle.std.specs.Prelude.{Option, Some, None, option_map, unwrap_or, codes, IfSome, All, IsUtf8}
use Rattle.std.specs.Option.{option_and_then}
use Rattle.std.specs.List.{list_all}
use Rattle.std.proofs.lemmas.Bool.{and_parts}
use Rattle.std.proofs.lemmas.List.Elements.{All-nil, All-cons}
use Rattle.std.proofs.lemmas.Str.{IsUtf8-from_is_utf8}
use Rattle.fed_base.specs.Values.{◌>>=◌}
use Rattle.fed_json.specs.declared.tree.Json.{Json}
use Rattle.fed_json.specs.declared.tree.Member.{Member}
use Rattle.fed_json.specs.Forms.{IsWellFormed, well_formed, members_well_formed}
use Rattle.fed_json.specs.Trees.{find, as_text, as_list, as_object, optional, texts_in, texts_of}
use Rattle.fed_json.proofs.Accessors.{Text-as_text, List-as_list, Object-as_object, well_formed-find}
use Rattle.fed_json.proofs.Layers.{well_formed-Text, well_formed-List, well_formed-Object}
use Rattle.chain_limits.specs.declared.constraints.Constraints.{Constraints}
use Rattle.chain_limits.specs.Reading.{HoldsUtf8, Texts, constraints_of, excluded_in, max_path_in, members_of, naming_in, permitted_in, types_in}

-- ---- what stands behind a result

-- a chain that gives something had something to begin with
pub and_then-some : {X Y : Type 0} (f : X → Option Y) (o : Option X) (y : Y) → option_and_then f o ≡ Some y → (x : X) × (o ≡ Some x) × (f x ≡ Some y)
and_then-some f None y e = cc e
and_then-some f (Some x) y e = (x, refl, e)

then-some : {X Y : Type 0} (o : Option X) (f : X → Option Y) (y : Y) → (o >>= f) ≡ Some y → (x : X) × (o ≡ Some x) × (f x ≡ Some y)
then-some None f y e = cc e
then-some (Some x) f y e = (x, refl, e)

pub map-some : {X Y : Type 0} (f : X → Y) (o : Option X) (y : Y) → option_map f o ≡ Some y → (x : X) × (o ≡ Some x) × (f x ≡ y)
map-some f None y e = cc e
map-some f (Some x) y e = (x, refl, cc e)

-- ---- the texts of a list

-- a text, the texts of a list, and those of a member
IsUtf8-text : (tree : Json) (text : List ℕ) → as_text tree ≡ Some text → well_formed tree ≡ true → IsUtf8 text
IsUtf8-text tree text is formed = IsUtf8-from_is_utf8 text (sym (well_formed-Text text) ∙ ap well_formed (sym (Text-as_text tree text is)) ∙ formed)

All-texts_in : (items : List Json) (texts : Texts) → texts_in items ≡ Some texts → list_all well_formed items ≡ true → All IsUtf8 texts
All-texts_in [] texts e formed = let none : [] ≡ texts = cc e in subst (All IsUtf8) none (All-nil IsUtf8)
All-texts_in (item ∷ items) texts e formed =
    let each = and_parts (well_formed item) (list_all well_formed items) formed in
    let first = and_then-some (λ (text : List ℕ). option_map (λ ts. text ∷ ts) (texts_in items)) (as_text item) texts e in
    let rest = map-some (λ (ts : Texts). first.0 ∷ ts) (texts_in items) texts first.2 in
    subst (All IsUtf8) rest.2 (All-cons IsUtf8 first.0 rest.0 (IsUtf8-text item first.0 first.1 each.0) (All-texts_in items rest.0 rest.1 each.1))

All-texts_of : (tree : Json) (texts : Texts) → texts_of tree ≡ Some texts → well_formed tree ≡ true → All IsUtf8 texts
All-texts_of tree texts e formed =
    let items = and_then-some texts_in (as_list tree) texts e in
    All-texts_in items.0 texts items.2 (sym (well_formed-List items.0) ∙ ap well_formed (sym (List-as_list tree items.0 items.1)) ∙ formed)

optional-texts : (found : Option Json) (texts : Option Texts) → optional texts_of found ≡ Some texts → IfSome found (λ tree. well_formed tree ≡ true) → IfSome texts (All IsUtf8)
optional-texts None texts e formed = let none : None ≡ texts = cc e in subst (λ t. IfSome t (All IsUtf8)) none tt
optional-texts (Some tree) texts e formed =
    let is = map-some Some (texts_of tree) texts e in
    subst (λ t. IfSome t (All IsUtf8)) is.2 (All-texts_of tree is.0 is.1 formed)

-- ---- the parts of well formed members

-- what is found, and the members of an object
pub found_formed : (name : List ℕ) (members : List Member) → members_well_formed members ≡ true → IfSome (find name members) (λ tree. well_formed tree ≡ true)
found_formed name members formed = by_found (find name members) (λ tree is. well_formed-find name members tree is formed)
  where
    by_found : (o : Option Json) → ((tree : Json) → o ≡ Some tree → well_formed tree ≡ true) → IfSome o (λ tree. well_formed tree ≡ true)
    by_found None each = tt
    by_found (Some tree) each = each tree refl

pub members_formed : (tree : Json) (members : List Member) → as_object tree ≡ Some members → well_formed tree ≡ true → members_well_formed members ≡ true
members_formed tree members is formed = sym (well_formed-Object members) ∙ ap well_formed (sym (Object-as_object tree members is)) ∙ formed

naming_formed : (found : Option Json) (naming : List Member) → members_of found ≡ Some naming → IfSome found (λ tree. well_formed tree ≡ true) → members_well_formed naming ≡ true
naming_formed None naming e formed = let none : [] ≡ naming = cc e in ap members_well_formed (sym none)
naming_formed (Some tree) naming e formed = members_formed tree naming e formed

-- a list, or the empty one where it is missing
excluded_texts : (x : Option Texts) → IfSome x (All IsUtf8) → All IsUtf8 (unwrap_or x [])
excluded_texts None each = All-nil IsUtf8
excluded_texts (Some x) each = each

-- ---- the whole

pub HoldsUtf8-reading : (tree : Json) (limits : Constraints) → constraints_of tree ≡ Some limits → IsWellFormed tree → HoldsUtf8 limits
unfolding constraints_of
HoldsUtf8-reading tree limits e formed =
    let members = then-some (as_object tree) _ limits e in
    let naming = then-some (naming_in members.0) _ limits members.2 in
    let max_path = then-some (max_path_in members.0) _ limits naming.2 in
    let permitted = then-some (permitted_in naming.0) _ limits max_path.2 in
    let excluded = then-some (excluded_in naming.0) _ limits permitted.2 in
    let types = then-some (types_in members.0) _ limits excluded.2 in
    let made : Constraints = record { max_path = max_path.0; permitted = permitted.0; excluded = unwrap_or excluded.0 []; types = types.0 } in
    let same : made ≡ limits = cc (types.2) in
    let whole = members_formed tree members.0 members.1 formed in
    let below = naming_formed (find (codes "naming_constraints") members.0) naming.0 naming.1 (found_formed _ members.0 whole) in
    subst HoldsUtf8 {x = made} same (record {
      permitted = optional-texts _ permitted.0 permitted.1 (found_formed _ naming.0 below);
      excluded = excluded_texts excluded.0 (optional-texts _ excluded.0 excluded.1 (found_formed _ naming.0 below));
      types = optional-texts _ types.0 types.1 (found_formed _ members.0 whole);
    })
