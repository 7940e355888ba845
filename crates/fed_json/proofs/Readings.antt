-- Values of serde_json beside the trees that they give.
use Rattle.std.proofs.Common.{◌≡◌, ℕ, List, [], ◌∷◌, ◌++◌, String, Global, string_bytes, map, Bool, true, false, ◌&&◌, refl, ap, sym, ◌∙◌, Some, None, option_map, cond, ap₂, max, suc, pos}
use Rattle.std.proofs.lemmas.Str.{is_utf8-from_IsUtf8, IsUtf8-from_is_utf8}
use Rattle.std.specs.Str.{IsUtf8, is_utf8}
use Rattle.std.specs.Ordering.{is_lt}
use Rattle.std.specs.List.{list_all}
use Rattle.std.proofs.lemmas.List.{map_push}
use Rattle.std.proofs.lemmas.List.Folds.{list_all-append}
use Rattle.std.specs.List.Sorted.{IsStrictlySortedBy}
use Rattle.std.specs.Map.{keys_of}
use Rattle.std.specs.String.{string_cmp}
use Rattle.serde_json.specs.Data as data_of
use Rattle.serde_json.specs.Data.{Data, Items, Members, Num, depth, items_depth, members_depth}
use Rattle.serde_json.specs.Read.{read}
use Rattle.serde_json.specs.View.{view, items_view, members_view}
use Rattle.serde_json.specs.declared.value.Value.{Value}
use Rattle.fed_json.specs.declared.tree.Json.{Json}
use Rattle.fed_json.specs.declared.tree.Member.{Member}
use Rattle.fed_json.proofs.Layers.{nesting-Null, nesting-Bool, nesting-Int, nesting-Odd, nesting-Text, nesting-List, nesting-Object}
use Rattle.fed_json.proofs.Booleans.{both_true}
use Rattle.fed_json.proofs.Names.{names}
use Rattle.fed_json.specs.Forms.{rising, well_formed, nesting, greatest}
use Rattle.fed_json.specs.Reading.{number_tree, tree_in, tree_of, items_of, members_of, member_of}

-- the tree of a value
abbrev pub value_tree : Value → Json
value_tree value = tree_of (view value)

-- the member of an entry
abbrev pub entry_member : String Global × Value → Member
entry_member entry = member_of (string_bytes entry.0) (value_tree entry.1)

pub all_items : (vs : List Value) → map value_tree vs ≡ items_of (items_view vs)
all_items [] = refl
all_items (v ∷ vs) = ap (λ ts. value_tree v ∷ ts) (all_items vs)

pub all_members : (es : List (String Global × Value)) → map entry_member es ≡ members_of (members_view es)
all_members [] = refl
all_members (e ∷ es) = ap (λ ms. entry_member e ∷ ms) (all_members es)

-- one more entry, as one more member
pub one_more : (ms : List Member) (es : List (String Global × Value)) (e : String Global × Value) (name : List ℕ) (value : Json)
    → ms ≡ map entry_member es → name ≡ string_bytes e.0 → value ≡ value_tree e.1 → ms ++ member_of name value ∷ [] ≡ map entry_member (es ++ e ∷ [])
one_more ms es e name value made named valued = ap₂ (λ xs x. xs ++ x ∷ []) made (ap₂ member_of named valued) ∙ sym (map_push entry_member es e)

-- one more member that is well formed, beside its name's place
pub one_more_formed : (ms : List Member) (name : List ℕ) (value : Json) → list_all (λ m. is_utf8 m.name && well_formed m.value) ms ≡ true → is_utf8 name ≡ true → well_formed value ≡ true
    → list_all (λ m. is_utf8 m.name && well_formed m.value) (ms ++ member_of name value ∷ []) ≡ true
one_more_formed ms name value formed utf8 good = list_all-append (λ (m : Member). is_utf8 m.name && well_formed m.value) ms (member_of name value ∷ []) ∙ both_true formed (both_true (both_true utf8 good) refl)

-- the names of a map's entries rise
pub rising-from_sorted : (es : List (String Global × Value)) → IsStrictlySortedBy string_cmp (keys_of es) → rising (names (map entry_member es)) ≡ true
unfolding IsStrictlySortedBy
rising-from_sorted [] sorted = refl
rising-from_sorted (e ∷ []) sorted = refl
rising-from_sorted (e ∷ f ∷ es) sorted = ap₂ (λ a b. a && b) (ap is_lt sorted.0.0) (rising-from_sorted (f ∷ es) sorted.1)

nesting-number_tree : (n : Num) → nesting (number_tree n) ≡ 0
nesting-number_tree (data_of.unsigned n) = nesting-Int (pos n)
nesting-number_tree (data_of.negative n) = nesting-Int n
nesting-number_tree (data_of.float x) = nesting-Odd

-- a tree nests as deep as the value that it comes of
mutual
  pub nesting-tree_of : (d : Data) → nesting (tree_of d) ≡ depth d
  nesting-tree_of data_of.null = nesting-Null
  nesting-tree_of (data_of.boolean b) = nesting-Bool b
  nesting-tree_of (data_of.number n) = nesting-number_tree n
  nesting-tree_of (data_of.string s) = nesting-Text s
  nesting-tree_of (data_of.array ds) = nesting-List (items_of ds) ∙ ap suc (nesting-items_of ds)
  nesting-tree_of (data_of.object ms) = nesting-Object (members_of ms) ∙ ap suc (nesting-members_of ms)

  nesting-items_of : (ds : Items) → greatest (map nesting (items_of ds)) ≡ items_depth ds
  nesting-items_of data_of.no_items = refl
  nesting-items_of (data_of.item d ds) = ap₂ max (nesting-tree_of d) (nesting-items_of ds)

  nesting-members_of : (ms : Members) → greatest (map (λ m. nesting m.value) (members_of ms)) ≡ members_depth ms
  nesting-members_of data_of.no_members = refl
  nesting-members_of (data_of.member name d ms) = ap₂ max (nesting-tree_of d) (nesting-members_of ms)

-- what the text reads as, from the value that was read
pub reading_found : (text : List ℕ) (d : Data) → IsUtf8 text → read text ≡ Some d → tree_in text ≡ Some (tree_of d)
unfolding tree_in
reading_found text d utf8 found = ap (λ b. cond b (option_map tree_of (read text)) None) (is_utf8-from_IsUtf8 text utf8) ∙ ap (option_map tree_of) found

refused : (text : List ℕ) (b : Bool) → is_utf8 text ≡ b → (IsUtf8 text → read text ≡ None) → cond b (option_map tree_of (read text)) None ≡ None
refused text true e none = ap (option_map tree_of) (none (IsUtf8-from_is_utf8 text e))
refused text false e none = refl

pub reading_none : (text : List ℕ) → (IsUtf8 text → read text ≡ None) → tree_in text ≡ None
unfolding tree_in
reading_none text none = refused text (is_utf8 text) refl none
