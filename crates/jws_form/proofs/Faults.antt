-- Each fault that is told is there.
use Rattle.std.proofs.Common.{◌≡◌, ◌≢◌, ◌<◌, ◌+◌, ℕ, Bool, true, false, cond, nat_lt, List, [], ◌∷◌, ◌++◌, length, count_by, slice_index_or, Option, Some, None, option_map, option_and_then, is_some, ok_or, Result, Ok, Err, IfErr, codes, refl, sym, ap, ◌∙◌, subst, arith}
use Rattle.std.proofs.lemmas.Bool.Decides.{nat_tests}
use Rattle.std.proofs.lemmas.List.Splits.{length-slice_split}
use Rattle.base64.specs.GeneralPurpose.{IsBytes}
use Rattle.fed_json.specs.declared.tree.Json.{Json, Text, Object}
use Rattle.fed_json.specs.declared.tree.Member.{Member}
use Rattle.fed_json.specs.Trees.{find, as_text, as_object}
use Rattle.fed_json.specs.Reading.{tree_in}
use Rattle.fed_base.specs.declared.algorithm.Alg.{Alg}
use Rattle.jws_form.specs.declared.compact.Compact.{Compact}
use Rattle.jws_form.specs.declared.header.Names.{Names}
use Rattle.fed_base.specs.Answers.{◌>>=◌}
use Rattle.jws_form.specs.declared.fault.FormFault.{FormFault}
use Rattle.jws_form.specs.declared.fault.FormFault.TheVariants.{TooLong, Parts, Base64, Header, Crit, Algorithm, Memory}
use Rattle.base64url.specs.Base64url.{base64url, decoded}
use Rattle.jws_form.specs.Compact.{max_bytes, stop}
use Rattle.jws_form.specs.Faults.{part, HasHeader, HasTexts, IsTextWhere, HasFault}
use Rattle.jws_form.specs.Header.{algorithm}
use Rattle.jws_form.specs.Splitting.{Gives, is_stop, parts_of, three_of, text_of, names_of, names_in, bytes_of, compact_of, splitting}
use Rattle.base64url.proofs.Canonical.{decoded-base64url, base64url-decoded}
use Rattle.jws_form.proofs.Headers.{text_of-Text, was_read, read_bytes, names, known}
use Rattle.jws_form.proofs.Algorithms.{algorithm_of-algorithm}
use Rattle.jws_form.proofs.Laws.{ok_or_ok, three_of_some, part_bytes}
use Rattle.jws_form.proofs.Stops.{joined_parts}
use Rattle.fed_json.proofs.Accessors.{as_object-Object}

-- ---- the header

-- a fault that a member has
text_fault : (o : Option Json) (fault : FormFault) → text_of o ≡ Err fault → Header ≡ fault
text_fault None fault e = cc e
text_fault (Some value) fault e = at (as_text value) e
  where
    at : (seen : Option (List ℕ)) → ok_or (option_map Some seen) Header ≡ Err fault → Header ≡ fault
    at None is = cc is
    at (Some s) is = cc is

no_text : (name : List ℕ) (members : List Member) (fault : FormFault) → text_of (find name members) ≡ Err fault → ¬ IsTextWhere name members
no_text name members fault e = λ is. let ok = sym e ∙ ap text_of is.1 ∙ text_of-Text is.0 in cc ok

unnamed : (Fault : FormFault → Type 0) (ours : Option Alg) (said : Alg → Names) (fault : FormFault) → (ok_or ours Algorithm >>= (λ a. Ok (said a))) ≡ Err fault → (ours ≡ None → Fault Algorithm) → Fault fault
unnamed Fault (Some alg) said fault e other = cc e
unnamed Fault None said fault e other = let is : Algorithm ≡ fault = cc e in subst Fault is (other refl)

-- the fault of a header's members, by the first step that refuses
refused : (Fault : FormFault → Type 0) (typ kid alg : Result (Option (List ℕ)) FormFault) (crit : Bool) (fault : FormFault)
    → (typ ≡ Err fault → Fault fault) → (kid ≡ Err fault → Fault fault) → (alg ≡ Err fault → Fault fault) → (crit ≡ true → Fault Crit)
    → ((name : Option (List ℕ)) → alg ≡ Ok name → known name ≡ None → Fault Algorithm)
    → (typ >>= (λ t. kid >>= (λ k. alg >>= (λ n. cond crit (Err Crit) (ok_or (known n) Algorithm >>= (λ a. Ok (names a t k))))))) ≡ Err fault → Fault fault
refused Fault (Err f) kid alg crit fault at_typ at_kid at_alg at_crit other e = at_typ (cc e)
refused Fault (Ok t) (Err f) alg crit fault at_typ at_kid at_alg at_crit other e = at_kid (cc e)
refused Fault (Ok t) (Ok k) (Err f) crit fault at_typ at_kid at_alg at_crit other e = at_alg (cc e)
refused Fault (Ok t) (Ok k) (Ok a) true fault at_typ at_kid at_alg at_crit other e = let is : Crit ≡ fault = cc e in subst Fault is (at_crit refl)
refused Fault (Ok t) (Ok k) (Ok a) false fault at_typ at_kid at_alg at_crit other e = unnamed Fault (known a) (λ alg. names alg t k) fault e (other a refl)

-- the text has one header
one_header : (x header : List ℕ) (members : List Member) → decoded (part x 0) ≡ Some header → HasHeader x members → tree_in header ≡ Some (Object members)
one_header x header members is has =
    let same = sym is ∙ ap decoded has.part_is ∙ decoded-base64url has.bytes (read_bytes has.bytes _ has.reads) in
    let bytes : header ≡ has.bytes = cc same in
    ap tree_in bytes ∙ has.reads

one_object : (header : List ℕ) (a b : List Member) → tree_in header ≡ Some (Object a) → tree_in header ≡ Some (Object b) → a ≡ b
one_object header a b first second =
    let same = sym (as_object-Object a) ∙ ap (λ o. option_and_then as_object o) (sym first ∙ second) ∙ as_object-Object b in
    cc same

header_refused : (x header : List ℕ) (members : List Member) (name : List ℕ) (fault : FormFault) → decoded (part x 0) ≡ Some header → tree_in header ≡ Some (Object members)
    → ((ms : List Member) → HasTexts ms → IsTextWhere name ms) → text_of (find name members) ≡ Err fault → HasFault x fault
header_refused x header members name fault is reads texts e = subst (HasFault x) (text_fault (find name members) fault e)
    (λ ms has are. no_text name members fault e (subst (IsTextWhere name) (one_object header ms members (one_header x header ms is has) reads) (texts ms are)))

is_absent : (o : Option Json) → is_some o ≡ true → o ≢ None
is_absent None e = λ none. cc e
is_absent (Some value) e = λ none. cc none

not_ours : (o : Option Json) (name : Option (List ℕ)) → text_of o ≡ Ok name → known name ≡ None → (alg : Alg) → o ≢ Some (Text (algorithm alg))
not_ours o name is other alg = λ ours.
    let same = sym is ∙ ap text_of ours ∙ text_of-Text (Some (algorithm alg)) in
    let named : name ≡ Some (algorithm alg) = cc same in
    let clash = sym other ∙ ap known named ∙ algorithm_of-algorithm alg in
    cc clash

members_refused : (x header : List ℕ) (members : List Member) (fault : FormFault) → part x 0 ≡ base64url header → decoded (part x 0) ≡ Some header → tree_in header ≡ Some (Object members)
    → names_of members ≡ Err fault → HasFault x fault
unfolding names_of
members_refused x header members fault spelled is reads e =
    let has : HasHeader x members = record { bytes = header; part_is = spelled; reads = reads } in
    refused (HasFault x) (text_of (find (codes "typ") members)) (text_of (find (codes "kid") members)) (text_of (find (codes "alg") members)) (is_some (find (codes "crit") members)) fault
    (header_refused x header members (codes "typ") fault is reads (λ ms are. are.typ))
    (header_refused x header members (codes "kid") fault is reads (λ ms are. are.kid))
    (header_refused x header members (codes "alg") fault is reads (λ ms are. are.alg))
    (λ there. (members, has, is_absent _ there))
    (λ name alg other. (members, has, not_ours _ name alg other))
    e

object_refused : (x header : List ℕ) (o : Option (List Member)) (fault : FormFault) → part x 0 ≡ base64url header → decoded (part x 0) ≡ Some header
    → option_and_then as_object (tree_in header) ≡ o → (ok_or o Header >>= names_of) ≡ Err fault → HasFault x fault
object_refused x header None fault spelled is object e =
    let told : Header ≡ fault = cc e in
    subst (HasFault x) told (λ ms has are. let clash = sym object ∙ ap (λ r. option_and_then as_object r) (one_header x header ms is has) ∙ as_object-Object ms in cc clash)
object_refused x header (Some members) fault spelled is object e = members_refused x header members fault spelled is (was_read (tree_in header) members object) e

names_refused : (x header : List ℕ) (fault : FormFault) → part x 0 ≡ base64url header → decoded (part x 0) ≡ Some header → names_in header ≡ Err fault → HasFault x fault
unfolding names_in
names_refused x header fault spelled is e = object_refused x header (option_and_then as_object (tree_in header)) fault spelled is refl e

-- ---- the parts

-- the fault of three parts, by the first step that refuses
three_refused : (Fault : FormFault → Type 0) (first second third : Result (List ℕ) FormFault) (names : List ℕ → Result Names FormFault) (made : List ℕ → List ℕ → Names → Compact) (fault : FormFault)
    → (first ≡ Err fault → Fault fault) → (second ≡ Err fault → Fault fault) → (third ≡ Err fault → Fault fault)
    → ((header : List ℕ) → first ≡ Ok header → names header ≡ Err fault → Fault fault)
    → (first >>= (λ h. second >>= (λ p. third >>= (λ s. names h >>= (λ n. Ok (made p s n)))))) ≡ Err fault → Fault fault
three_refused Fault (Err f) second third names made fault at_first at_second at_third at_names e = at_first (cc e)
three_refused Fault (Ok h) (Err f) third names made fault at_first at_second at_third at_names e = at_second (cc e)
three_refused Fault (Ok h) (Ok p) (Err f) names made fault at_first at_second at_third at_names e = at_third (cc e)
three_refused Fault (Ok h) (Ok p) (Ok s) names made fault at_first at_second at_third at_names e = at_names h refl (last (names h) e)
  where
    last : (r : Result Names FormFault) → (r >>= (λ n. Ok (made p s n))) ≡ Err fault → r ≡ Err fault
    last (Ok n) is = cc is
    last (Err f) is = cc is

-- a part that isn't base64url
part_refused : (x s : List ℕ) (number : ℕ) (fault : FormFault) → part x number ≡ s → bytes_of number s ≡ Err fault → HasFault x fault
unfolding bytes_of
part_refused x s number fault is e = at (decoded s) refl e
  where
    at : (o : Option (List ℕ)) → decoded s ≡ o → ok_or o (Base64 number) ≡ Err fault → HasFault x fault
    at (Some b) decodes told = cc told
    at None decodes told = let same : Base64 number ≡ fault = cc told in
        subst (HasFault x) same (λ bytes are spelled. let clash = sym decodes ∙ ap decoded (sym is ∙ spelled) ∙ decoded-base64url bytes are in cc clash)

decoded_ok : (number : ℕ) (s b : List ℕ) → bytes_of number s ≡ Ok b → decoded s ≡ Some b
unfolding bytes_of
decoded_ok number s b e = ok_or_ok _ _ b e

parts_refused : (x : List ℕ) (p : List ℕ × List ℕ × List ℕ) (fault : FormFault) → IsBytes x → parts_of x ≡ p.0 ∷ p.1 ∷ p.2 ∷ [] → compact_of x p ≡ Err fault → HasFault x fault
unfolding compact_of
parts_refused x p fault bytes are e =
    let at = λ (n : ℕ). ap (λ ps. slice_index_or ps n []) are in
    let joined = joined_parts x p.0 p.1 p.2 are in
    let first = part_bytes p.0 p.1 p.2 (subst IsBytes joined bytes) in
    three_refused (HasFault x) (bytes_of 0 p.0) (bytes_of 1 p.1) (bytes_of 2 p.2) names_in
    (λ payload signature said. record { whole = x; alg = said.alg; typ = said.typ; kid = said.kid; payload = payload; signed = p.0 ++ stop ∷ p.1; signature = signature }) fault
    (part_refused x p.0 0 fault (at 0)) (part_refused x p.1 1 fault (at 1)) (part_refused x p.2 2 fault (at 2))
    (λ header ok told.
    let is = decoded_ok 0 p.0 header ok in
    names_refused x header fault (at 0 ∙ base64url-decoded p.0 header first.one is) (ap decoded (at 0) ∙ is) told)
    e

-- ---- the text

three_of_none : (ps : List (List ℕ)) → length ps ≡ 3 → three_of ps ≢ None
three_of_none [] three = absurd (omega arith)
three_of_none (a ∷ []) three = absurd (omega arith)
three_of_none (a ∷ b ∷ []) three = absurd (omega arith)
three_of_none (a ∷ b ∷ c ∷ []) three = λ none. cc none
three_of_none (a ∷ b ∷ c ∷ d ∷ rest) three = absurd (omega arith)

not_two : (x : List ℕ) → three_of (parts_of x) ≡ None → count_by is_stop x ≢ 2
unfolding parts_of
not_two x none = λ two. three_of_none (parts_of x) (length-slice_split is_stop x ∙ ap (λ n. n + 1) two) none

text_refused : (x : List ℕ) (fault : FormFault) (long : Bool) (o : Option (List ℕ × List ℕ × List ℕ)) → IsBytes x → nat_lt max_bytes (length x) ≡ long → three_of (parts_of x) ≡ o
    → cond long (Err TooLong) (ok_or o Parts >>= compact_of x) ≡ Err fault → HasFault x fault
text_refused x fault true o bytes long three e =
    let told : TooLong ≡ fault = cc e in
    let over : max_bytes < length x = grind (arith, nat_tests, long) in
    subst (HasFault x) told over
text_refused x fault false None bytes long three e = let told : Parts ≡ fault = cc e in subst (HasFault x) told (not_two x three)
text_refused x fault false (Some p) bytes long three e = parts_refused x p fault bytes (three_of_some (parts_of x) p three) e

pub refused_by : (r : Result Compact FormFault) (x : List ℕ) → IsBytes x → Gives r (splitting x) → IfErr r (HasFault x)
unfolding splitting
refused_by (Ok c) x bytes e = tt
refused_by (Err TooLong) x bytes e = text_refused x TooLong _ _ bytes refl refl e
refused_by (Err Parts) x bytes e = text_refused x Parts _ _ bytes refl refl e
refused_by (Err (Base64 number)) x bytes e = text_refused x (Base64 number) _ _ bytes refl refl e
refused_by (Err Header) x bytes e = text_refused x Header _ _ bytes refl refl e
refused_by (Err Crit) x bytes e = text_refused x Crit _ _ bytes refl refl e
refused_by (Err Algorithm) x bytes e = text_refused x Algorithm _ _ bytes refl refl e
refused_by (Err Memory) x bytes e = tt
