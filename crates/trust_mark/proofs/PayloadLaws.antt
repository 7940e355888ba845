-- The object in a text of one type, and answers about it.
use Rattle.std.proofs.Common.{◌≡◌, ℕ, List, Bool, true, false, cond, Option, Some, None, Result, Ok, Err, IfOk, refl, sym, ap, ◌∙◌, subst}
use Rattle.std.specs.Option.{ok_or}
use Rattle.fed_base.specs.Answers.{◌>>=◌}
use Rattle.fed_json.specs.declared.tree.Json.{Json}
use Rattle.fed_json.specs.declared.tree.Member.{Member}
use Rattle.fed_json.specs.Reading.{tree_in}
use Rattle.fed_json.specs.Trees.{as_object}
use Rattle.fed_json.proofs.Accessors.{Object-as_object, as_object-Object}
use Rattle.fed_json.proofs.Order.{bytes_eq-itself, equal-bytes_eq}
use Rattle.jws_form.specs.declared.compact.Compact.{Compact}
use Rattle.entity_statement.proofs.Answers.{ok_or-ok, then-ok}
use Rattle.trust_mark.specs.Claims.{Gives, has_type, in_object, payload_of}
use Rattle.trust_mark.specs.Grammar.{HasPayload}
use Rattle.trust_mark.specs.declared.fault.MarkFault.{MarkFault}
use Rattle.trust_mark.specs.declared.fault.MarkFault.TheVariants.{Tree, Typ}

typed : (name : List ℕ) (typ : Option (List ℕ)) → has_type name typ ≡ true → typ ≡ Some name
typed name None e = cc e
typed name (Some t) e = ap Some (equal-bytes_eq t name e)

passes : {X : Type 0} (b : Bool) (m : Result X MarkFault) (x : X) → cond b m (Err Typ) ≡ Ok x → (b ≡ true) × (m ≡ Ok x)
passes true m x e = (refl, e)
passes false m x e = cc e

-- what is read was said by the members of the payload,
pub read-is : {X : Type 0} (name : List ℕ) (says : List Member → Result X MarkFault) (c : Compact) (x : X) → (payload_of name c >>= in_object says) ≡ Ok x
    → (members : List Member) × HasPayload name c members × (says members ≡ Ok x)
unfolding payload_of
read-is name says c x e =
    let payload = then-ok (payload_of name c) (in_object says) x e in
    let test = passes (has_type name c.typ) (ok_or (tree_in c.payload) Tree) payload.0 payload.1 in
    let object = then-ok (ok_or (as_object payload.0) Tree) says x payload.2 in
    let members = ok_or-ok (as_object payload.0) Tree object.0 object.1 in
    let has : HasPayload name c object.0 = record {
      typed = typed name c.typ test.0;
      object = ok_or-ok (tree_in c.payload) Tree payload.0 test.1 ∙ ap Some (Object-as_object payload.0 object.0 members);
    } in
    (object.0, has, object.2)

-- and what these say is read
pub read-of : {X : Type 0} (name : List ℕ) (says : List Member → Result X MarkFault) (c : Compact) (members : List Member) (x : X) → HasPayload name c members
    → says members ≡ Ok x → (payload_of name c >>= in_object says) ≡ Ok x
unfolding payload_of
read-of name says c members x has is =
    ap (λ t. cond (has_type name t) (ok_or (tree_in c.payload) Tree) (Err Typ) >>= in_object says) has.typed
    ∙ ap (λ b. cond b (ok_or (tree_in c.payload) Tree) (Err Typ) >>= in_object says) (bytes_eq-itself name)
    ∙ ap (λ o. ok_or o Tree >>= in_object says) has.object
    ∙ ap (λ o. ok_or o Tree >>= says) (as_object-Object members)
    ∙ is

-- ---- answers

pub found_by : {X : Type 0} (P : X → Type 0) (r expected : Result X MarkFault) → ((x : X) → expected ≡ Ok x → P x) → Gives r expected → IfOk r P
found_by P (Ok x) expected found e = found x e
found_by P (Err fault) expected found e = tt

pub only_by : {X : Type 0} (r expected : Result X MarkFault) (x : X) → expected ≡ Ok x → Gives r expected → Gives r (Ok x)
only_by r expected x is e = subst (Gives r) is e

-- an answer about a tree that a text has is one about the text
pub gives-then : {X : Type 0} (r : Result X MarkFault) (m : Result Json MarkFault) (tree : Json) (of : Json → Result X MarkFault) → m ≡ Ok tree → Gives r (of tree) → Gives r (m >>= of)
gives-then r m tree of is e = subst (Gives r) (sym (ap (λ p. p >>= of) is)) e
