-- What a JSON value holds (RFC 8259 section 3).
use Rattle.std.specs.Prelude.{ℕ, ℤ, pos, List, [], ◌∷◌, Option, Some, None, option_map, unwrap_or, bytes_eq, nat_lt, if◌then◌else◌, Bool, true, false}
use Rattle.fed_base.specs.Values.{◌>>=◌}
use Rattle.fed_json.specs.declared.tree.Json.{Json, out-Json}
use Rattle.fed_json.specs.declared.tree.Json.TheOpen.{Json-F}
use Rattle.fed_json.specs.declared.tree.Member.{Member}

-- the four below, at one level of a tree
abbrev pub text_in : Json-F Json Member → Option (List ℕ)
text_in (Json-F.Text bytes) = Some bytes
text_in _ = None

abbrev pub int_in : Json-F Json Member → Option ℤ
int_in (Json-F.Int n) = Some n
int_in _ = None

abbrev pub list_in : Json-F Json Member → Option (List Json)
list_in (Json-F.List items) = Some items
list_in _ = None

abbrev pub object_in : Json-F Json Member → Option (List Member)
object_in (Json-F.Object members) = Some members
object_in _ = None

-- the bytes of a text (RFC 8259 section 7)
abbrev pub as_text : Json → Option (List ℕ)
as_text tree = text_in (out-Json tree)

-- a whole number within the bounds that are kept (RFC 8259 section 6)
abbrev pub as_int : Json → Option ℤ
as_int tree = int_in (out-Json tree)

-- a whole number from 0 on and below the limit (RFC 8259 section 6)
abbrev pub if_below : ℕ → Option ℤ → Option ℕ
if_below limit (Some (pos n)) = if nat_lt n limit then Some n else None
if_below limit _ = None

abbrev pub count_below : ℕ → Json → Option ℕ
count_below limit tree = if_below limit (as_int tree)

-- the items of a list (RFC 8259 section 5)
abbrev pub as_list : Json → Option (List Json)
as_list tree = list_in (out-Json tree)

-- the members of an object (RFC 8259 section 4)
abbrev pub as_object : Json → Option (List Member)
as_object tree = object_in (out-Json tree)

-- null, at one level of a tree
abbrev is_null_layer : Json-F Json Member → Bool
is_null_layer Json-F.Null = true
is_null_layer _ = false

-- null (RFC 8259 section 3)
abbrev pub is_null : Json → Bool
is_null tree = is_null_layer (out-Json tree)

-- the value of the first member of that name (RFC 8259 section 4)
abbrev pub find : List ℕ → List Member → Option Json
find name [] = None
find name (m ∷ ms) = if bytes_eq m.name name then Some m.value else find name ms

-- the text under a name (RFC 8259 sections 4 and 7)
abbrev pub text_at : List ℕ → List Member → Option (List ℕ)
text_at name members = find name members >>= as_text

-- the members of an object; any other tree has none (RFC 8259 section 4)
abbrev pub object_members : Json → List Member
object_members tree = unwrap_or (as_object tree) []

-- the name of a member (RFC 8259 section 4)
abbrev pub member_name : Member → List ℕ
member_name m = m.name

-- what may be absent, in its form where it is there
abbrev pub optional : {X : Type 0} → (Json → Option X) → Option Json → Option (Option X)
optional form None = Some None
optional form (Some tree) = option_map Some (form tree)

-- what the parts of a list are, where each part has the form (RFC 8259 section 5)
abbrev pub each : {A X : Type 0} → (A → Option X) → List A → Option (List X)
each form [] = Some []
each form (part ∷ parts) = do
  x ← form part
  option_map (λ xs. x ∷ xs) (each form parts)

-- the texts of a list that has no other items (RFC 8259 sections 5 and 7)
abbrev pub texts_in : List Json → Option (List (List ℕ))
texts_in items = each as_text items

abbrev pub texts_of : Json → Option (List (List ℕ))
texts_of tree = as_list tree >>= texts_in
