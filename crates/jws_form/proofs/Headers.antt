-- What a header's members give is what `IsHeader` says of them, and nothing else.
use Rattle.std.proofs.Common.{◌≡◌, ℕ, Bool, true, false, cond, ◌&&◌, not, List, Option, Some, None, option_map, option_and_then, is_some, IfSome, ok_or, Result, Ok, Err, codes, refl, sym, ap, ◌∙◌}
use Rattle.std.specs.Str.{IsUtf8, is_utf8}
use Rattle.std.proofs.lemmas.Str.{IsUtf8-from_is_utf8}
use Rattle.base64.specs.GeneralPurpose.{IsBytes}
use Rattle.fed_json.specs.declared.tree.Json.{Json, Text, Object}
use Rattle.fed_json.specs.declared.tree.Member.{Member}
use Rattle.fed_json.specs.Trees.{find, as_text, as_object}
use Rattle.fed_json.specs.Forms.{IsWhole, well_formed, has_odd, members_well_formed}
use Rattle.fed_json.specs.Reading.{tree_in}
use Rattle.fed_json.proofs.Layers.{well_formed-Object}
use Rattle.fed_base.specs.Answers.{◌>>=◌}
use Rattle.jws_form.specs.declared.fault.FormFault.{FormFault}
use Rattle.jws_form.specs.declared.fault.FormFault.TheVariants.{Header, Crit, Algorithm}
use Rattle.fed_base.specs.declared.algorithm.Alg.{Alg}
use Rattle.jws_form.specs.declared.header.Names.{Names}
use Rattle.jws_form.specs.Header.{algorithm, algorithm_of, IsHeader, IsHeaderText}
use Rattle.jws_form.specs.Splitting.{text_of, names_of, names_in}
use Rattle.jws_form.proofs.Algorithms.{algorithm_of-algorithm, algorithm_of-only}
use Rattle.jws_form.proofs.Bytes.{IsBytes-from_IsUtf8}
use Rattle.fed_json.proofs.Accessors.{Text-as_text, as_text-Text, Object-as_object, as_object-Object, IsUtf8-find}

-- ---- a header is read

pub text_of-Text : (o : Option (List ℕ)) → text_of (option_map Text o) ≡ Ok o
text_of-Text None = refl
text_of-Text (Some s) = ap (λ t. ok_or (option_map Some t) Header) (as_text-Text s)

-- what a header says
abbrev pub names : Alg → Option (List ℕ) → Option (List ℕ) → Names
names alg typ kid = record { alg = alg; typ = typ; kid = kid }

names_of-IsHeader : (tree : Json) (alg : Alg) (typ kid : Option (List ℕ)) (says : IsHeader tree alg typ kid) → names_of says.members ≡ Ok (names alg typ kid)
unfolding names_of
names_of-IsHeader tree alg typ kid says =
    rw (says.typ_is, text_of-Text typ, says.kid_is, text_of-Text kid, says.alg_is, text_of-Text (Some (algorithm alg)), says.no_crit, algorithm_of-algorithm alg) refl

pub names_in-IsHeaderText : (bytes : List ℕ) (alg : Alg) (typ kid : Option (List ℕ)) → IsHeaderText bytes alg typ kid → names_in bytes ≡ Ok (names alg typ kid)
unfolding names_in
names_in-IsHeaderText bytes alg typ kid is =
    let says = is.says in
    ap (λ o. ok_or (option_and_then as_object o) Header >>= names_of) (is.reads ∙ ap Some says.object_is)
    ∙ ap (λ o. ok_or o Header >>= names_of) (as_object-Object says.members)
    ∙ names_of-IsHeader is.tree alg typ kid says

was_utf8 : (b : Bool) (o : Option Json) (tree : Json) → cond b o None ≡ Some tree → b ≡ true
was_utf8 true o tree e = refl
was_utf8 false o tree e = cc e

-- a text that reads is UTF-8, and so bytes
pub read_bytes : (bytes : List ℕ) (tree : Json) → tree_in bytes ≡ Some tree → IsBytes bytes
unfolding tree_in
read_bytes bytes tree is = IsBytes-from_IsUtf8 bytes (IsUtf8-from_is_utf8 bytes (was_utf8 (is_utf8 bytes) _ tree is))

pub header_bytes : (bytes : List ℕ) (alg : Alg) (typ kid : Option (List ℕ)) → IsHeaderText bytes alg typ kid → IsBytes bytes
header_bytes bytes alg typ kid is = read_bytes bytes _ is.reads

-- ---- what is read is a header

text_seen : (value : Json) (seen : Option (List ℕ)) (t : Option (List ℕ)) → as_text value ≡ seen → ok_or (option_map Some seen) Header ≡ Ok t → Some value ≡ option_map Text t
text_seen value None t is e = cc e
text_seen value (Some s) t is e = let same : Some s ≡ t = cc e in ap Some (Text-as_text value s is) ∙ ap (option_map Text) same

text_of_ok : (o : Option Json) (t : Option (List ℕ)) → text_of o ≡ Ok t → o ≡ option_map Text t
text_of_ok None t e = let same : None ≡ t = cc e in ap (option_map Text) same
text_of_ok (Some value) t e = text_seen value (as_text value) t refl e

is_absent : (o : Option Json) → is_some o ≡ false → o ≡ None
is_absent None e = refl
is_absent (Some value) e = cc e

-- the algorithm that a text names
abbrev pub known : Option (List ℕ) → Option Alg
known name = option_and_then algorithm_of name

known_is : (name : Option (List ℕ)) (alg : Alg) → known name ≡ Some alg → name ≡ Some (algorithm alg)
known_is None alg e = cc e
known_is (Some name) alg e = ap Some (algorithm_of-only name alg e)

-- what the tests of a header's members let through
record IsTaken (typ kid alg : Result (Option (List ℕ)) FormFault) (crit : Bool) (got : Names) : Type 0 where
  typ_ok : typ ≡ Ok got.typ
  kid_ok : kid ≡ Ok got.kid
  name : Option (List ℕ)
  alg_ok : alg ≡ Ok name
  ours : known name ≡ Some got.alg
  no_crit : crit ≡ false

tested : (typ kid alg : Option (List ℕ)) (crit : Bool) (ours : Option Alg) (got : Names) → known alg ≡ ours
    → cond crit (Err Crit) (ok_or ours Algorithm >>= (λ a. Ok (names a typ kid))) ≡ Ok got → IsTaken (Ok typ) (Ok kid) (Ok alg) crit got
tested typ kid alg true ours got is e = cc e
tested typ kid alg false (Some a) got is e =
    let same : names a typ kid ≡ got = cc e in
    record { typ_ok = ap (λ n. Ok n.typ) same; kid_ok = ap (λ n. Ok n.kid) same; name = alg; alg_ok = refl; ours = is ∙ ap (λ n. Some n.alg) same; no_crit = refl }
tested typ kid alg false None got is e = cc e

taken : (typ kid alg : Result (Option (List ℕ)) FormFault) (crit : Bool) (got : Names)
    → (typ >>= (λ t. kid >>= (λ k. alg >>= (λ n. cond crit (Err Crit) (ok_or (known n) Algorithm >>= (λ a. Ok (names a t k))))))) ≡ Ok got → IsTaken typ kid alg crit got
taken (Ok t) (Ok k) (Ok n) crit got e = tested t k n crit (known n) got refl e
taken (Ok t) (Ok k) (Err fault) crit got e = cc e
taken (Ok t) (Err fault) alg crit got e = cc e
taken (Err fault) kid alg crit got e = cc e

names_of_ok : (members : List Member) (said : Names) → names_of members ≡ Ok said → IsHeader (Object members) said.alg said.typ said.kid
unfolding names_of
names_of_ok members said e =
    let got = taken (text_of (find (codes "typ") members)) (text_of (find (codes "kid") members)) (text_of (find (codes "alg") members)) (is_some (find (codes "crit") members)) said e in
    record {
      members = members;
      object_is = refl;
      no_crit = is_absent _ got.no_crit;
      alg_is = text_of_ok _ _ got.alg_ok ∙ ap (option_map Text) (known_is _ _ got.ours);
      typ_is = text_of_ok _ _ got.typ_ok;
      kid_is = text_of_ok _ _ got.kid_ok;
    }

object_seen : (o : Option (List Member)) (said : Names) → (ok_or o Header >>= names_of) ≡ Ok said → (members : List Member) × (o ≡ Some members) × (names_of members ≡ Ok said)
object_seen None said e = cc e
object_seen (Some members) said e = (members, refl, e)

pub was_read : (o : Option Json) (members : List Member) → option_and_then as_object o ≡ Some members → o ≡ Some (Object members)
was_read None members e = cc e
was_read (Some tree) members e = ap Some (Object-as_object tree members e)

pub names_in_ok : (bytes : List ℕ) (said : Names) → names_in bytes ≡ Ok said → IfSome said.typ IsUtf8 → IfSome said.kid IsUtf8 → IsHeaderText bytes said.alg said.typ said.kid
unfolding names_in
names_in_ok bytes said e typ kid =
    let seen = object_seen (option_and_then as_object (tree_in bytes)) said e in
    record { tree = Object seen.0; reads = was_read (tree_in bytes) seen.0 seen.1; says = names_of_ok seen.0 said seen.2; typ_utf8 = typ; kid_utf8 = kid }

-- ---- a header that is written

found_text : (name : List ℕ) (members : List Member) (o : Option (List ℕ)) → members_well_formed members ≡ true → find name members ≡ option_map Text o → IfSome o IsUtf8
found_text name members None formed e = tt
found_text name members (Some s) formed e = IsUtf8-find name members s e formed

whole_formed : (formed odd : Bool) → (formed && odd) ≡ true → formed ≡ true
whole_formed true odd e = refl
whole_formed false odd e = e

pub IsHeaderText-written : (bytes : List ℕ) (tree : Json) (alg : Alg) (typ kid : Option (List ℕ)) → IsWhole tree → tree_in bytes ≡ Some tree → IsHeader tree alg typ kid → IsHeaderText bytes alg typ kid
IsHeaderText-written bytes tree alg typ kid whole reads says =
    let formed : members_well_formed says.members ≡ true = sym (well_formed-Object says.members) ∙ ap well_formed (sym says.object_is) ∙ whole_formed (well_formed tree) (not (has_odd tree)) whole in
    record {
      tree = tree;
      reads = reads;
      says = says;
      typ_utf8 = found_text (codes "typ") says.members typ formed says.typ_is;
      kid_utf8 = found_text (codes "kid") says.members kid formed says.kid_is;
    }
