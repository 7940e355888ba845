-- What a claim says where it is read, and what is read where it says that.
use Rattle.std.proofs.Common.{◌≡◌, ℕ, List, Option, Some, None, Ok, refl, ap, ◌∙◌, subst}
use Rattle.std.specs.Option.{ok_or}
use Rattle.fed_base.specs.Answers.{◌>>=◌}
use Rattle.fed_json.specs.declared.tree.Json.{Json, Text}
use Rattle.fed_json.specs.declared.tree.Member.{Member}
use Rattle.fed_json.specs.Trees.{find}
use Rattle.fed_json.proofs.Accessors.{Text-as_text, as_text-Text}
use Rattle.entity_statement.specs.Claims.{Identifier}
use Rattle.entity_statement.specs.Forms.{identifier, moment}
use Rattle.entity_statement.specs.Grammar.{NamesEntity, NamesMoment}
use Rattle.entity_statement.proofs.Answers.{ok_or-ok, then-ok}
use Rattle.entity_statement.proofs.Facts.{moment-small}
use Rattle.entity_statement.proofs.Identities.{identifier-is, identifier-of, moment-is, moment-of}
use Rattle.trust_mark.specs.Claims.{Name, any_text, claim, claim_if_there, said}
use Rattle.trust_mark.specs.Grammar.{MayNameMoment, MayNameText, NamesText}
use Rattle.trust_mark.specs.declared.fault.MarkFault.TheVariants.{Missing, Shape}

-- ---- any claim

claim-is : {X : Type 0} (name : Name) (form : Json → Option X) (members : List Member) (x : X) → claim name form members ≡ Ok x
    → (tree : Json) × (find name members ≡ Some tree) × (form tree ≡ Some x)
claim-is name form members x e =
    let found = then-ok (ok_or (find name members) (Missing name)) (λ tree. ok_or (form tree) (Shape name)) x e in
    (found.0, ok_or-ok (find name members) (Missing name) found.0 found.1, ok_or-ok (form found.0) (Shape name) x found.2)

claim-of : {X : Type 0} (name : Name) (form : Json → Option X) (members : List Member) (tree : Json) (x : X)
    → find name members ≡ Some tree → form tree ≡ Some x → claim name form members ≡ Ok x
claim-of name form members tree x there is =
    ap (λ o. ok_or o (Missing name) >>= λ t. ok_or (form t) (Shape name)) there ∙ ap (λ o. ok_or o (Shape name)) is

-- a claim that may be absent, where it is there
said-of : {X : Type 0} (name : Name) (form : Json → Option X) (tree : Json) (x : X) → form tree ≡ Some x → said name form (Some tree) ≡ Ok (Some x)
said-of name form tree x is = ap (λ o. ok_or o (Shape name) >>= λ y. Ok (Some y)) is

-- ---- identifiers

pub entity-is : (name : Name) (members : List Member) (id : Identifier) → claim name identifier members ≡ Ok id → NamesEntity name members id
entity-is name members id e =
    let found = claim-is name identifier members id e in
    let is = identifier-is found.0 id found.2 in
    (found.1 ∙ ap Some is.0, is.1)

pub entity-of : (name : Name) (members : List Member) (id : Identifier) → NamesEntity name members id → claim name identifier members ≡ Ok id
entity-of name members id names = claim-of name identifier members (Text id) id names.0 (identifier-of id names.1)

-- ---- moments

pub moment_at-is : (name : Name) (members : List Member) (n : ℕ) → claim name moment members ≡ Ok n → NamesMoment name members n
moment_at-is name members n e =
    let found = claim-is name moment members n e in
    (found.1 ∙ ap Some (moment-is found.0 n found.2), moment-small found.0 n found.2)

pub moment_at-of : (name : Name) (members : List Member) (n : ℕ) → NamesMoment name members n → claim name moment members ≡ Ok n
moment_at-of name members n names = claim-of name moment members _ n names.0 (moment-of n names.1)

moment_said : (name : Name) (members : List Member) (o : Option Json) (m : Option ℕ) → find name members ≡ o → said name moment o ≡ Ok m → MayNameMoment name members m
moment_said name members None m there e = let none : None ≡ m = cc e in subst (MayNameMoment name members) none there
moment_said name members (Some tree) m there e =
    let read = then-ok (ok_or (moment tree) (Shape name)) (λ n. Ok (Some n)) m e in
    let some : Some read.0 ≡ m = cc (read.2) in
    let is = ok_or-ok (moment tree) (Shape name) read.0 read.1 in
    subst (MayNameMoment name members) some (there ∙ ap Some (moment-is tree read.0 is), moment-small tree read.0 is)

pub moment_if_there-is : (name : Name) (members : List Member) (m : Option ℕ) → claim_if_there name moment members ≡ Ok m → MayNameMoment name members m
moment_if_there-is name members m e = moment_said name members (find name members) m refl e

pub moment_if_there-of : (name : Name) (members : List Member) (m : Option ℕ) → MayNameMoment name members m → claim_if_there name moment members ≡ Ok m
moment_if_there-of name members None names = ap (said name moment) names
moment_if_there-of name members (Some n) names = ap (said name moment) names.0 ∙ said-of name moment _ n (moment-of n names.1)

-- ---- texts

any_text-is : (tree : Json) (text : List ℕ) → any_text tree ≡ Some text → tree ≡ Text text
unfolding any_text
any_text-is tree text e = Text-as_text tree text e

any_text-of : (text : List ℕ) → any_text (Text text) ≡ Some text
unfolding any_text
any_text-of text = as_text-Text text

pub text_at-is : (name : Name) (members : List Member) (text : List ℕ) → claim name any_text members ≡ Ok text → NamesText name members text
text_at-is name members text e = let found = claim-is name any_text members text e in found.1 ∙ ap Some (any_text-is found.0 text found.2)

pub text_at-of : (name : Name) (members : List Member) (text : List ℕ) → NamesText name members text → claim name any_text members ≡ Ok text
text_at-of name members text names = claim-of name any_text members (Text text) text names (any_text-of text)

text_said : (name : Name) (members : List Member) (o : Option Json) (text : Option (List ℕ)) → find name members ≡ o → said name any_text o ≡ Ok text → MayNameText name members text
text_said name members None text there e = let none : None ≡ text = cc e in subst (MayNameText name members) none there
text_said name members (Some tree) text there e =
    let read = then-ok (ok_or (any_text tree) (Shape name)) (λ t. Ok (Some t)) text e in
    let some : Some read.0 ≡ text = cc (read.2) in
    subst (MayNameText name members) some (there ∙ ap Some (any_text-is tree read.0 (ok_or-ok (any_text tree) (Shape name) read.0 read.1)))

pub text_if_there-is : (name : Name) (members : List Member) (text : Option (List ℕ)) → claim_if_there name any_text members ≡ Ok text → MayNameText name members text
text_if_there-is name members text e = text_said name members (find name members) text refl e

pub text_if_there-of : (name : Name) (members : List Member) (text : Option (List ℕ)) → MayNameText name members text → claim_if_there name any_text members ≡ Ok text
text_if_there-of name members None names = ap (said name any_text) names
text_if_there-of name members (Some text) names = ap (said name any_text) names ∙ said-of name any_text (Text text) text (any_text-of text)
