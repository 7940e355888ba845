-- Members of an object, and what is found among them.
use Rattle.std.proofs.Common.{◌≡◌, ◌≢◌, ℕ, List, [], ◌∷◌, length, Bool, true, false, ◌&&◌, nat_lt, Option, Some, None, is_some, Bor, refl, sym, ap, ◌∙◌, subst, arith}
use Rattle.std.specs.List.{list_all}
use Rattle.std.specs.Option.{option_copied}
use Rattle.std.specs.Str.{IsUtf8, is_utf8}
use Rattle.std.proofs.lemmas.Str.{is_utf8-from_IsUtf8}
use Rattle.std.proofs.lemmas.Bool.{lt-ltb}
use Rattle.fed_json.specs.declared.tree.Json.{Json, List as ListOf, Object}
use Rattle.fed_json.specs.declared.tree.Member.{Member}
use Rattle.fed_json.specs.Forms.{well_formed, whole}
use Rattle.fed_json.specs.Trees.{as_object, find, text_at}
use Rattle.fed_json.proofs.Booleans.{left_true, right_true, both_true}
use Rattle.fed_json.proofs.Layers.{well_formed-List, well_formed-Object}
use Rattle.fed_json.proofs.Accessors.{as_object-Object, well_formed-find}
use Rattle.jwk_set.specs.Keys.{is_own, is_foreign}

-- ---- the two forms of a key

not_empty : (t : List ℕ) → t ≢ [] → nat_lt 0 (length t) ≡ true
not_empty [] some = absurd (some refl)
not_empty (x ∷ t) some = lt-ltb 0 (length (x ∷ t)) (omega arith)

-- a name that isn't empty, and that a tree gave
pub own_formed : (kid copy : List ℕ) (empty : Bool) → IsUtf8 kid → empty ≡ false → (kid ≡ [] → empty ≡ true) → copy ≡ kid → (nat_lt 0 (length copy) && is_utf8 copy) ≡ true
own_formed kid copy empty utf8 not_empty_said empty_if same =
    let some : kid ≢ [] = λ e. let bad = sym not_empty_said ∙ empty_if e in cc bad in
    subst (λ k. (nat_lt 0 (length k) && is_utf8 k) ≡ true) (sym same) (both_true (not_empty kid some) (is_utf8-from_IsUtf8 kid utf8))

pub was_some : (o : Option (Bor (List ℕ))) (p : Option (List ℕ)) → option_copied o ≡ p → is_some o ≡ true → is_some p ≡ true
was_some None p e some = cc some
was_some (Some x) p e some = ap is_some (sym e)

-- an object of another type or algorithm, with a text `kty` and no Odd
pub foreign_formed : (tree copy : Json) (ms : List Member) → whole tree ≡ true → tree ≡ Object ms → is_some (text_at (107 ∷ 116 ∷ 121 ∷ []) ms) ≡ true
    → is_own ms ≡ false → copy ≡ tree → (well_formed copy && is_foreign copy) ≡ true
unfolding is_foreign
foreign_formed tree copy ms is_whole object typed foreign same =
    let members : as_object tree ≡ Some ms = ap as_object object ∙ as_object-Object ms in
    subst (λ t. (well_formed t && is_foreign t) ≡ true) (sym same)
    (both_true (left_true _ _ is_whole) (both_true (right_true (well_formed tree) _ is_whole) (rw (members, typed, foreign) refl)))

-- ---- the list of a set's members

pub list_found : (tree : Json) (ms : List Member) (name : List ℕ) (items : List Json) → well_formed tree ≡ true → tree ≡ Object ms → Some (ListOf items) ≡ find name ms
    → list_all well_formed items ≡ true
list_found tree ms name items formed object is =
    sym (well_formed-List items) ∙ well_formed-find name ms (ListOf items) (sym is) (sym (well_formed-Object ms) ∙ sym (ap well_formed object) ∙ formed)
