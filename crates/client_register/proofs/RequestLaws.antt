-- What was posted is what its definition in the standard's words says.
use Rattle.std.proofs.Common.{◌≡◌, ℕ, List, [], ◌∷◌, map, bytes_eq, Bool, true, false, cond, Option, Some, None, refl, sym, ap, ◌∙◌}
use Rattle.std.specs.Prelude.{option_and_then, option_map}
use Rattle.std.proofs.lemmas.Slice.Eq.{bytes_eq-Decides}
use Rattle.fed_json.specs.declared.tree.Json.{Json, Text, List as ListOf}
use Rattle.fed_json.specs.Reading.{tree_in}
use Rattle.fed_json.specs.Trees.{as_list, as_text, texts_in, texts_of}
use Rattle.fed_json.proofs.Accessors.{List-as_list, Text-as_text, as_list-List, as_text-Text}
use Rattle.fed_json.proofs.Options.{and_then_some, option_map_some}
use Rattle.entity_statement.specs.Claims.{Identifier}
use Rattle.entity_statement.specs.Signed.{statement_of}
use Rattle.chain_check.specs.Chains.{Texts}
use Rattle.client_register.specs.Requests.{AreListed, IsConfigurationOf, IsPosted, chain_in, configured, entity_in, posted_as, posted_in}

-- ---- lists of texts

texts-written : (texts : Texts) → texts_in (map Text texts) ≡ Some texts
texts-written [] = refl
texts-written (t ∷ ts) = rw (as_text-Text t, texts-written ts) refl

texts-read : (items : List Json) (texts : Texts) → texts_in items ≡ Some texts → items ≡ map Text texts
texts-read [] texts is = let same : [] ≡ texts = cc is in ap (map Text) same
texts-read (item ∷ items) texts is =
    let first = and_then_some (λ x. option_map (λ xs. x ∷ xs) (texts_in items)) (as_text item) texts is in
    let rest = option_map_some (λ xs. first.0 ∷ xs) (texts_in items) texts first.2 in
    (λ i. Text-as_text item first.0 first.1 i ∷ texts-read items rest.0 rest.1 i) ∙ ap (map Text) rest.2

listed : (bytes : List ℕ) (texts : Texts) → chain_in bytes ≡ Some texts → AreListed bytes texts
unfolding chain_in
listed bytes texts is =
    let tree = and_then_some texts_of (tree_in bytes) texts is in
    let items = and_then_some texts_in (as_list tree.0) texts tree.2 in
    tree.1 ∙ ap Some (List-as_list tree.0 items.0 items.1 ∙ ap ListOf (texts-read items.0 texts items.2))

chain-listed : (bytes : List ℕ) (texts : Texts) → AreListed bytes texts → chain_in bytes ≡ Some texts
unfolding chain_in
chain-listed bytes texts is = ap (option_and_then texts_of) is ∙ ap (option_and_then texts_in) (as_list-List (map Text texts)) ∙ texts-written texts

-- ---- configurations

configured-by : (b : Bool) (sub entity : Identifier) → cond b (Some sub) None ≡ Some entity → (b ≡ true) × (sub ≡ entity)
configured-by true sub entity is = (refl, cc is)
configured-by false sub entity is = cc is

configuration : (bytes : List ℕ) (entity : Identifier) → entity_in bytes ≡ Some entity → IsConfigurationOf bytes entity
unfolding entity_in
configuration bytes entity is =
    let read = and_then_some configured (statement_of bytes) entity is in
    let by = configured-by (bytes_eq read.0.iss read.0.sub) read.0.sub entity read.2 in
    record { claims = read.0; reads = read.1; issuer = (bytes_eq-Decides read.0.iss read.0.sub).0 by.0 ∙ by.1; subject = by.1 }

entity-configured : (bytes : List ℕ) (entity : Identifier) → IsConfigurationOf bytes entity → entity_in bytes ≡ Some entity
unfolding entity_in
entity-configured bytes entity is =
    ap (option_and_then configured) is.reads
    ∙ ap (λ b. cond b (Some is.claims.sub) None) ((bytes_eq-Decides is.claims.iss is.claims.sub).1 (is.issuer ∙ sym is.subject)) ∙ ap Some is.subject

-- ---- both

none-listed : (bytes : List ℕ) → chain_in bytes ≡ None → (texts : Texts) → ¬ AreListed bytes texts
none-listed bytes none texts is = let bad = sym none ∙ chain-listed bytes texts is in cc bad

posted-by : (bytes : List ℕ) (texts : Option Texts) (entity : Option Identifier) → chain_in bytes ≡ texts → entity_in bytes ≡ entity → IsPosted bytes (posted_as texts entity)
posted-by bytes (Some texts) entity is also = listed bytes texts is
posted-by bytes None (Some entity) is also = (none-listed bytes is, configuration bytes entity also)
posted-by bytes None None is also = (none-listed bytes is, λ entity configures. let bad = sym also ∙ entity-configured bytes entity configures in cc bad)

pub posted-is : (bytes : List ℕ) → IsPosted bytes (posted_in bytes)
unfolding posted_in
posted-is bytes = posted-by bytes (chain_in bytes) (entity_in bytes) refl refl
