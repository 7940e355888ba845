-- What is shown of an input: the parts of signed texts and what these are, or the keys of a set.
use Rattle.std.specs.Prelude.{ℕ, ◌+◌, List, [], ◌∷◌, ◌++◌, length, codes, decimal, Bool, true, false, ◌||◌, Option, Some, None, option_map, Result, Ok, Err}
use Rattle.std.specs.Option.{option_and_then}
use Rattle.base64url.specs.Base64url.{decoded}
use Rattle.fed_json.specs.Reading.{tree_in}
use Rattle.fed_json.specs.Trees.{as_object, texts_of}
use Rattle.fed_json.specs.declared.tree.Json.{Json}
use Rattle.fed_json.specs.declared.tree.Member.{Member}
use Rattle.jwk_set.specs.KeySets.{key_set_in}
use Rattle.jwk_set.specs.Trees.{set_tree}
use Rattle.jwk_set.specs.declared.fault.SetFault.{SetFault}
use Rattle.jwk_set.specs.declared.jwk.Jwk.{Jwk}
use Rattle.jws_form.specs.Faults.{part}
use Rattle.cli_show.specs.Indented.{indented}
use Rattle.cli_show.specs.KeyViews.{view}
use Rattle.cli_show.specs.Faults.{set_reason}
use Rattle.cli_show.specs.Findings.{text_found}
use Rattle.cli_show.specs.declared.view.View.{View}

-- ---- signed texts

-- a title and a tree on lines
abbrev pub section_of : List ℕ → Option Json → List ℕ
section_of title (Some tree) = title ++ (indented (view tree) ++ 10 ∷ [])
section_of title None = []

-- the tree whose JSON text in base64url a part is, where it is one (RFC 7515 section 7.1)
abbrev pub part_tree : List ℕ → Option Json
part_tree piece = option_and_then tree_in (decoded piece)

-- the header and the claims, as far as they can be read
unfoldable pub sections : List ℕ → List ℕ
sections text = section_of (codes "header ") (part_tree (part text 0)) ++ section_of (codes "claims ") (part_tree (part text 1))

-- what was shown, and that no more was done
abbrev pub unverified : List ℕ → List ℕ
unverified lines = lines ++ (codes "nothing was verified" ++ 10 ∷ [])

-- a text alone
unfoldable pub text_view : List ℕ → View
text_view text = record { refused = (text_found text).refused; text = unverified (sections text ++ (text_found text).text) }

-- ---- chains

-- a text of a chain, at its place
abbrev pub entry : ℕ → List ℕ → List ℕ
entry place text = codes "text " ++ (decimal place ++ (10 ∷ (sections text ++ (text_found text).text)))

-- the texts from a place on
abbrev pub entries : ℕ → List (List ℕ) → List ℕ
entries place [] = []
entries place (text ∷ texts) = entry place text ++ entries (place + 1) texts

-- one of them isn't what it says
abbrev pub any_refused : List (List ℕ) → Bool
any_refused [] = false
any_refused (text ∷ texts) = (text_found text).refused || any_refused texts

-- a chain, the leaf's text first (OpenID Federation 1.0 section 4)
unfoldable pub chain_view : List (List ℕ) → View
chain_view texts = record {
  refused = any_refused texts;
  text = unverified (entries 0 texts ++ (codes "chain of " ++ (decimal (length texts) ++ 10 ∷ [])));
}

-- ---- key sets

-- a key set, each key as it is shown (RFC 7517 section 5), or the first fault of an object that is none, of which nothing is shown
abbrev pub set_found : Result (List Jwk) SetFault → View
set_found (Ok keys) = record {
  refused = false;
  text = unverified (indented (view (set_tree keys)) ++ (10 ∷ (codes "key set of " ++ (decimal (length keys) ++ 10 ∷ []))));
}
set_found (Err fault) = record { refused = true; text = unverified (codes "refused " ++ (set_reason fault ++ 10 ∷ [])) }

-- ---- any input

-- of JSON an object is a key set, and a list of texts a chain; another value is nothing that is shown
abbrev pub list_view : Option (List (List ℕ)) → Option View
list_view texts = option_map chain_view texts

abbrev pub object_view : Json → Option (List Member) → Option View
object_view tree (Some members) = Some (set_found (key_set_in tree))
object_view tree None = list_view (texts_of tree)

abbrev pub json_view : Option Json → List ℕ → Option View
json_view (Some tree) input = object_view tree (as_object tree)
json_view None input = Some (text_view input)

unfoldable pub view_of : List ℕ → Option View
view_of input = json_view (tree_in input) input
