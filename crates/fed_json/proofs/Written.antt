-- Values of serde_json that are made of trees, one item or member at a time.
use Rattle.std.proofs.Common.{◌≡◌, ◌<◌, ◌+◌, ℕ, List, [], ◌∷◌, ◌++◌, Bool, true, false, ◌||◌, take, drop, length, get_or, String, Global, string_bytes, Ordering, Less, Equal, Greater, refl, sym, ap, ap₂, ◌∙◌}
use Rattle.std.specs.List.{list_any}
use Rattle.std.specs.Ordering.{nat_cmp, match_ordering}
use Rattle.std.specs.Cmp.Lexicographic.{slice_cmp}
use Rattle.serde_json.specs.Data as data_of
use Rattle.serde_json.specs.Data.{Data, Items, Members, put}
use Rattle.serde_json.specs.View.{view, items_view, members_view}
use Rattle.serde_json.specs.Written.{has_float, items_have_float, members_have_float}
use Rattle.serde_json.specs.declared.value.Value.{Value}
use Rattle.fed_json.specs.declared.tree.Member.{Member}
use Rattle.std.specs.BTreeMap.{insert_entry}
use Rattle.std.specs.String.{string_cmp}
use Rattle.std.proofs.lemmas.List.{take_more, map_push, map-append, take-append-drop}
use Rattle.serde_json.proofs.Views.{members_view-insert_entry}
use Rattle.fed_json.specs.Forms.{rising}
use Rattle.fed_json.proofs.Booleans.{left_false, right_false}
use Rattle.fed_json.specs.Reading.{tree_of, members_of, member_of}
use Rattle.fed_json.proofs.Names.{names, rising-prefix, rising-tail, last_above}

-- a number of the value is a float
abbrev pub float_in : Value → Bool
float_in value = has_float (view value)

pub items_have_float-items_view : (vs : List Value) → list_any float_in vs ≡ items_have_float (items_view vs)
items_have_float-items_view [] = refl
items_have_float-items_view (v ∷ vs) = ap (λ b. float_in v || b) (items_have_float-items_view vs)

-- a name above those before it goes last
pub put_last : (name : List ℕ) (d : Data) (ms : Members) → rising (names (members_of ms) ++ name ∷ []) ≡ true → members_of (put name d ms) ≡ members_of ms ++ member_of name (tree_of d) ∷ []
put_last name d data_of.no_members rise = refl
put_last name d (data_of.member l e ms) rise =
    rw (last_above l (names (members_of ms)) name rise) (ap (λ rest. member_of l (tree_of e) ∷ rest) (put_last name d ms (rising-tail l _ rise)))

neither : (a b : Bool) → a ≡ false → b ≡ false → (a || b) ≡ false
neither a b e f = rw (e, f) refl

one_of : (o : Ordering) (x y z : Members) → members_have_float x ≡ false → members_have_float y ≡ false → members_have_float z ≡ false → members_have_float (match_ordering o x y z) ≡ false
one_of Less x y z a b c = a
one_of Equal x y z a b c = b
one_of Greater x y z a b c = c

pub put_plain : (name : List ℕ) (d : Data) (ms : Members) → has_float d ≡ false → members_have_float ms ≡ false → members_have_float (put name d ms) ≡ false
put_plain name d data_of.no_members h g = neither _ _ h refl
put_plain name d (data_of.member l e ms) h g =
    let rest = right_false (has_float e) _ g in
    one_of (slice_cmp nat_cmp name l) _ _ _ (neither _ _ h g) (neither _ _ h rest) (neither _ _ (left_false (has_float e) _ g) (put_plain name d ms h rest))

-- one more member goes last into the map
pub one_more_stands : (before after : List (String Global × Value)) (key : String Global) (value : Value) (ms : List Member) (i : ℕ) (m : Member)
    → after ≡ insert_entry string_cmp before key value → rising (names ms) ≡ true
    → members_of (members_view before) ≡ take i ms → members_have_float (members_view before) ≡ false
    → i < length ms → m ≡ get_or ms i m → string_bytes key ≡ m.name → tree_of (view value) ≡ m.value → has_float (view value) ≡ false
    → (members_of (members_view after) ≡ take (i + 1) ms) × (members_have_float (members_view after) ≡ false)
one_more_stands before after key value ms i m grown rise made plain lt is named valued no_float =
    let put_is : members_view after ≡ put (string_bytes key) (view value) (members_view before) = ap members_view grown ∙ members_view-insert_entry before key value in
    let more : take (i + 1) ms ≡ take i ms ++ m ∷ [] = take_more ms i m lt ∙ ap (λ x. take i ms ++ x ∷ []) (sym is) in
    let here : member_of (string_bytes key) (tree_of (view value)) ≡ m = ap₂ member_of named valued in
    let now : members_of (members_view before) ++ member_of (string_bytes key) (tree_of (view value)) ∷ [] ≡ take (i + 1) ms = ap₂ (λ xs x. xs ++ x ∷ []) made here ∙ sym more in
    let front : names (members_of (members_view before)) ++ string_bytes key ∷ [] ≡ names (take (i + 1) ms) =
    sym (map_push (λ (x : Member). x.name) (members_of (members_view before)) (member_of (string_bytes key) (tree_of (view value)))) ∙ ap names now in
    let rise_here : rising (names (take (i + 1) ms)) ≡ true =
    rising-prefix (names (take (i + 1) ms)) (names (drop (i + 1) ms)) (ap rising (sym (map-append (λ (x : Member). x.name) (take (i + 1) ms) (drop (i + 1) ms)) ∙ ap names (take-append-drop (i + 1) ms)) ∙ rise) in (
      ap members_of put_is ∙ (put_last (string_bytes key) (view value) (members_view before) (ap rising front ∙ rise_here) ∙ now),
      ap members_have_float put_is ∙ put_plain (string_bytes key) (view value) (members_view before) no_float plain,
    )
