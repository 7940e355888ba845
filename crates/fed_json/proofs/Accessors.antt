-- A tree that is seen as a text, a number, a list or an object is that text, number, list or object.
use Rattle.std.proofs.Common.{◌≡◌, ℕ, ℤ, Bool, true, false, ◌&&◌, cond, bytes_eq, List, [], ◌∷◌, Option, Some, None, option_and_then, sym, ap, ◌∙◌, rules}
use Rattle.std.specs.List.{list_all}
use Rattle.std.specs.Str.{IsUtf8, is_utf8}
use Rattle.std.proofs.lemmas.Str.{IsUtf8-from_is_utf8, is_utf8-from_IsUtf8}
use Rattle.fed_json.specs.declared.tree.Json.{Json, Text, Int, List as ListOf, Object, out-Json, the_lemmas}
use Rattle.fed_json.specs.declared.tree.Json.TheOpen.{Json-F}
use Rattle.fed_json.specs.declared.tree.Json.TheViews.{roll-Json}
use Rattle.fed_json.specs.declared.tree.Member.{Member}
use Rattle.fed_json.specs.Forms.{well_formed, members_well_formed, rising, whole, members_whole}
use Rattle.fed_json.specs.Trees.{find, text_at, as_text, as_int, as_list, as_object, text_in, int_in, list_in, object_in}
use Rattle.fed_json.proofs.Layers.{well_formed-Text, whole-List, whole-Object}
use Rattle.fed_json.proofs.Booleans.{left_true, right_true}
use Rattle.fed_json.proofs.Names.{names}

pub as_text-Text : (s : List ℕ) → as_text (Text s) ≡ Some s
as_text-Text s = search (rules, the_lemmas)

pub as_int-Int : (n : ℤ) → as_int (Int n) ≡ Some n
as_int-Int n = search (rules, the_lemmas)

pub as_list-List : (items : List Json) → as_list (ListOf items) ≡ Some items
as_list-List items = search (rules, the_lemmas)

pub as_object-Object : (members : List Member) → as_object (Object members) ≡ Some members
as_object-Object members = search (rules, the_lemmas)

-- ---- the way back

roll_out : (tree : Json) → roll-Json (out-Json tree) ≡ tree
roll_out tree = search (rules, the_lemmas)

text_layer : (layer : Json-F Json Member) (s : List ℕ) → text_in layer ≡ Some s → layer ≡ Json-F.Text s
text_layer (Json-F.Text r) s e = let same : r ≡ s = cc e in ap Json-F.Text same
text_layer _ s e = cc e

int_layer : (layer : Json-F Json Member) (n : ℤ) → int_in layer ≡ Some n → layer ≡ Json-F.Int n
int_layer (Json-F.Int m) n e = let same : m ≡ n = cc e in ap Json-F.Int same
int_layer _ n e = cc e

list_layer : (layer : Json-F Json Member) (items : List Json) → list_in layer ≡ Some items → layer ≡ Json-F.List items
list_layer (Json-F.List us) items e = let same : us ≡ items = cc e in ap Json-F.List same
list_layer _ items e = cc e

object_layer : (layer : Json-F Json Member) (members : List Member) → object_in layer ≡ Some members → layer ≡ Json-F.Object members
object_layer (Json-F.Object ms) members e = let same : ms ≡ members = cc e in ap Json-F.Object same
object_layer _ members e = cc e

roll-Text : (s : List ℕ) → roll-Json (Json-F.Text s) ≡ Text s
roll-Text s = search (rules, the_lemmas)

roll-Int : (n : ℤ) → roll-Json (Json-F.Int n) ≡ Int n
roll-Int n = search (rules, the_lemmas)

roll-List : (items : List Json) → roll-Json (Json-F.List items) ≡ ListOf items
roll-List items = search (rules, the_lemmas)

roll-Object : (members : List Member) → roll-Json (Json-F.Object members) ≡ Object members
roll-Object members = search (rules, the_lemmas)

pub Text-as_text : (tree : Json) (s : List ℕ) → as_text tree ≡ Some s → tree ≡ Text s
Text-as_text tree s e = sym (roll_out tree) ∙ ap roll-Json (text_layer (out-Json tree) s e) ∙ roll-Text s

pub Int-as_int : (tree : Json) (n : ℤ) → as_int tree ≡ Some n → tree ≡ Int n
Int-as_int tree n e = sym (roll_out tree) ∙ ap roll-Json (int_layer (out-Json tree) n e) ∙ roll-Int n

pub List-as_list : (tree : Json) (items : List Json) → as_list tree ≡ Some items → tree ≡ ListOf items
List-as_list tree items e = sym (roll_out tree) ∙ ap roll-Json (list_layer (out-Json tree) items e) ∙ roll-List items

pub Object-as_object : (tree : Json) (members : List Member) → as_object tree ≡ Some members → tree ≡ Object members
Object-as_object tree members e = sym (roll_out tree) ∙ ap roll-Json (object_layer (out-Json tree) members e) ∙ roll-Object members

-- ---- the parts of a tree that has a text have one

pub whole-items : (tree : Json) (items : List Json) → whole tree ≡ true → as_list tree ≡ Some items → list_all whole items ≡ true
whole-items tree items good e = sym (whole-List items) ∙ ap whole (sym (List-as_list tree items e)) ∙ good

pub whole-members : (tree : Json) (members : List Member) → whole tree ≡ true → as_object tree ≡ Some members → members_whole members ≡ true
whole-members tree members good e = sym (whole-Object members) ∙ ap whole (sym (Object-as_object tree members e)) ∙ good

-- ---- what is found in a well formed object

found_here : (b : Bool) (value found : Json) (later : Option Json) → cond b (Some value) later ≡ Some found → well_formed value ≡ true → (later ≡ Some found → well_formed found ≡ true) → well_formed found ≡ true
found_here true value found later e formed rest = let same : value ≡ found = cc e in ap well_formed (sym same) ∙ formed
found_here false value found later e formed rest = rest e

found_among : (name : List ℕ) (ms : List Member) (found : Json) → find name ms ≡ Some found → list_all (λ m. is_utf8 m.name && well_formed m.value) ms ≡ true → well_formed found ≡ true
found_among name [] found e all = cc e
found_among name (m ∷ ms) found e all =
    let here = left_true (is_utf8 m.name && well_formed m.value) (list_all (λ m. is_utf8 m.name && well_formed m.value) ms) all in
    let rest = right_true (is_utf8 m.name && well_formed m.value) (list_all (λ m. is_utf8 m.name && well_formed m.value) ms) all in
    found_here (bytes_eq m.name name) m.value found (find name ms) e (right_true (is_utf8 m.name) (well_formed m.value) here) (λ later. found_among name ms found later rest)

pub well_formed-find : (name : List ℕ) (ms : List Member) (found : Json) → find name ms ≡ Some found → members_well_formed ms ≡ true → well_formed found ≡ true
well_formed-find name ms found e formed = found_among name ms found e (right_true (rising (names ms)) _ formed)

pub IsUtf8-find : (name : List ℕ) (ms : List Member) (s : List ℕ) → find name ms ≡ Some (Text s) → members_well_formed ms ≡ true → IsUtf8 s
IsUtf8-find name ms s e formed = IsUtf8-from_is_utf8 s (sym (well_formed-Text s) ∙ well_formed-find name ms (Text s) e formed)

-- ---- the text of a member

text_found : (o : Option Json) (t : List ℕ) → option_and_then as_text o ≡ Some t → o ≡ Some (Text t)
text_found None t e = cc e
text_found (Some value) t e = ap Some (Text-as_text value t e)

pub text_at-found : (name : List ℕ) (members : List Member) (t : List ℕ) → text_at name members ≡ Some t → find name members ≡ Some (Text t)
text_at-found name members t e = text_found (find name members) t e

pub text_is_utf8 : (name : List ℕ) (members : List Member) (t : List ℕ) → members_well_formed members ≡ true → Some t ≡ text_at name members → is_utf8 t ≡ true
text_is_utf8 name members t formed e = is_utf8-from_IsUtf8 t (IsUtf8-find name members t (text_at-found name members t (sym e)) formed)
