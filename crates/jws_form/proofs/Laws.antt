-- The parts that a text gives are those of which it is the compact text, and no others.
use Rattle.std.proofs.Common.{◌≡◌, ◌≤◌, ℕ, suc, Bool, true, false, List, [], ◌∷◌, ◌++◌, length, Option, Some, None, cond, nat_lt, ok_or, Result, Ok, Err, IfOk, refl, sym, ap, ap₂, ◌∙◌, subst, append_assoc, arith}
use Rattle.std.specs.List.{slice_split}
use Rattle.std.proofs.lemmas.Bool.{le-ltb}
use Rattle.std.proofs.lemmas.Bool.Decides.{nat_tests}
use Rattle.std.proofs.lemmas.List.Splits.{slice_split_none, slice_split_at}
use Rattle.base64.specs.GeneralPurpose.{IsBytes}
use Rattle.base64.proofs.EngineFacts.{front_bytes}
use Rattle.fed_base.specs.declared.algorithm.Alg.{Alg}
use Rattle.jws_form.specs.declared.compact.Compact.{Compact}
use Rattle.jws_form.specs.declared.header.Names.{Names}
use Rattle.fed_base.specs.Answers.{◌>>=◌}
use Rattle.jws_form.specs.declared.fault.FormFault.{FormFault}
use Rattle.jws_form.specs.declared.fault.FormFault.TheVariants.{TooLong, Parts, Base64}
use Rattle.base64url.specs.Base64url.{base64url}
use Rattle.fed_base.specs.declared.faults.Memory.{Memory}
use Rattle.jws_form.specs.Header.{IsHeaderText}
use Rattle.jws_form.specs.Compact.{IsCompact, IsSigningInput, max_bytes, stop, signing_input_of, joined}
use Rattle.jws_form.specs.Splitting.{Gives, HasForms, is_stop, parts_of, three_of, names_in, bytes_of, compact_of, splitting}
use Rattle.base64url.proofs.Canonical.{decoded-base64url, base64url-decoded}
use Rattle.jws_form.proofs.Alphabet.{no_stop}
use Rattle.jws_form.proofs.Bytes.{IsBytes-back}
use Rattle.jws_form.proofs.Headers.{names_in-IsHeaderText, names_in_ok, header_bytes}
use Rattle.jws_form.proofs.Stops.{joined_parts}

-- ---- every compact text is answered

pub parts_of-joined : (a b c : List ℕ) → parts_of (joined (signing_input_of a b) c) ≡ base64url a ∷ base64url b ∷ base64url c ∷ []
unfolding parts_of
parts_of-joined a b c =
    ap (slice_split is_stop) (append_assoc (base64url a) (stop ∷ base64url b) _)
    ∙ slice_split_at is_stop (base64url a) stop _ (no_stop a) refl
    ∙ ap (λ rest. base64url a ∷ rest) (slice_split_at is_stop (base64url b) stop _ (no_stop b) refl ∙ ap (λ rest. base64url b ∷ rest) (slice_split_none is_stop (base64url c) (no_stop c)))

bytes_of-base64url : (i : ℕ) (b : List ℕ) → IsBytes b → bytes_of i (base64url b) ≡ Ok b
unfolding bytes_of
bytes_of-base64url i b bytes = ap (λ o. ok_or o (Base64 i)) (decoded-base64url b bytes)

pub only : (x : List ℕ) (c : Compact) → IsCompact x c → splitting x ≡ Ok c
unfolding splitting compact_of
only x c is =
    let input = is.input in
    let spelled : x ≡ joined (signing_input_of input.header c.payload) c.signature = is.text_is ∙ ap (λ s. joined s c.signature) input.signed_is in
    let small : nat_lt max_bytes (length x) ≡ false = le-ltb max_bytes (length x) is.short in
    let parts = ap parts_of spelled ∙ parts_of-joined input.header c.payload c.signature in
    let whole = is.whole_is in
    let signed = input.signed_is in
    rw (small, parts, bytes_of-base64url 0 input.header (header_bytes input.header c.alg c.typ c.kid input.header_is), bytes_of-base64url 1 c.payload input.payload_bytes, bytes_of-base64url 2 c.signature is.signature_bytes, names_in-IsHeaderText input.header c.alg c.typ c.kid input.header_is)
    (ap₂ (λ w g. Ok (record { whole = w; alg = c.alg; typ = c.typ; kid = c.kid; payload = c.payload; signed = g; signature = c.signature })) (sym whole) (sym signed))

-- a text has its parts in one way
pub IsCompact-unique : (x : List ℕ) (c d : Compact) → IsCompact x c → IsCompact x d → c ≡ d
IsCompact-unique x c d is other = let same = sym (only x c is) ∙ only x d other in cc same

-- the parts are those of the text that they hold
pub IsCompact-whole : (x : List ℕ) (c : Compact) → IsCompact x c → IsCompact c.whole c
IsCompact-whole x c is = subst (λ text. IsCompact text c) (sym is.whole_is) is

-- ---- what is answered is a compact text

pub ok_or_ok : {X : Type 0} (fault : FormFault) (o : Option X) (x : X) → ok_or o fault ≡ Ok x → o ≡ Some x
ok_or_ok fault (Some y) x e = cc e
ok_or_ok fault None x e = cc e

bytes_of_ok : (i : ℕ) (s b : List ℕ) → IsBytes s → bytes_of i s ≡ Ok b → s ≡ base64url b
unfolding bytes_of
bytes_of_ok i s b bytes e = base64url-decoded s b bytes (ok_or_ok _ _ b e)

pub three_of_some : (ps : List (List ℕ)) (p : List ℕ × List ℕ × List ℕ) → three_of ps ≡ Some p → ps ≡ p.0 ∷ p.1 ∷ p.2 ∷ []
three_of_some [] p e = cc e
three_of_some (a ∷ []) p e = cc e
three_of_some (a ∷ b ∷ []) p e = cc e
three_of_some (a ∷ b ∷ c ∷ []) p e = let is : (a, b, c) ≡ p = cc e in ap (λ q. q.0 ∷ q.1 ∷ q.2 ∷ []) is
three_of_some (a ∷ b ∷ c ∷ d ∷ rest) p e = cc e

-- the parts of a text are bytes where the text is
pub record AreBytes (a b c : List ℕ) : Type 0 where
  pub one : IsBytes a
  pub two : IsBytes b
  pub three : IsBytes c

pub part_bytes : (a b c : List ℕ) → IsBytes ((a ++ stop ∷ b) ++ stop ∷ c) → AreBytes a b c
part_bytes a b c bytes =
    let front = front_bytes (a ++ stop ∷ b) (stop ∷ c) bytes in
    record {
      one = front_bytes a (stop ∷ b) front;
      two = λ i. IsBytes-back a (stop ∷ b) front (suc i);
      three = λ i. IsBytes-back (a ++ stop ∷ b) (stop ∷ c) bytes (suc i);
    }

-- what the reading of three parts let through
record PartsTaken (x signed : List ℕ) (first second third : Result (List ℕ) FormFault) (names : List ℕ → Result Names FormFault) (c : Compact) : Type 0 where
  header : List ℕ
  first_ok : first ≡ Ok header
  second_ok : second ≡ Ok c.payload
  third_ok : third ≡ Ok c.signature
  names_ok : names header ≡ Ok (record { alg = c.alg; typ = c.typ; kid = c.kid })
  whole_is : x ≡ c.whole
  signed_is : signed ≡ c.signed

named : (x signed h p s : List ℕ) (names : List ℕ → Result Names FormFault) (r : Result Names FormFault) (c : Compact) → names h ≡ r
    → (r >>= (λ n. Ok (record { whole = x; alg = n.alg; typ = n.typ; kid = n.kid; payload = p; signed = signed; signature = s }))) ≡ Ok c → PartsTaken x signed (Ok h) (Ok p) (Ok s) names c
named x signed h p s names (Ok n) c is e =
    let same : record { whole = x; alg = n.alg; typ = n.typ; kid = n.kid; payload = p; signed = signed; signature = s } ≡ c = cc e in
    record {
      header = h;
      first_ok = refl;
      second_ok = ap (λ d. Ok d.payload) same;
      third_ok = ap (λ d. Ok d.signature) same;
      names_ok = is ∙ ap (λ d. Ok (record { alg = d.alg; typ = d.typ; kid = d.kid })) same;
      whole_is = ap (λ d. d.whole) same;
      signed_is = ap (λ d. d.signed) same;
    }
named x signed h p s names (Err f) c is e = cc e

parts_taken : (x signed : List ℕ) (first second third : Result (List ℕ) FormFault) (names : List ℕ → Result Names FormFault) (c : Compact)
    → (first >>= (λ h. second >>= (λ p. third >>= (λ s. names h >>= (λ n. Ok (record { whole = x; alg = n.alg; typ = n.typ; kid = n.kid; payload = p; signed = signed; signature = s })))))) ≡ Ok c
    → PartsTaken x signed first second third names c
parts_taken x signed (Ok h) (Ok p) (Ok s) names c e = named x signed h p s names (names h) c refl e
parts_taken x signed (Ok h) (Ok p) (Err f) names c e = cc e
parts_taken x signed (Ok h) (Err f) third names c e = cc e
parts_taken x signed (Err f) second third names c e = cc e

compact_of_ok : (x : List ℕ) (p : List ℕ × List ℕ × List ℕ) (c : Compact) → x ≡ (p.0 ++ stop ∷ p.1) ++ stop ∷ p.2 → IsBytes x → length x ≤ max_bytes
    → HasForms c → compact_of x p ≡ Ok c → IsCompact x c
unfolding compact_of
compact_of_ok x p c is bytes short forms e =
    let are = part_bytes p.0 p.1 p.2 (subst IsBytes is bytes) in
    let got = parts_taken x (p.0 ++ stop ∷ p.1) (bytes_of 0 p.0) (bytes_of 1 p.1) (bytes_of 2 p.2) names_in c e in
    let first = bytes_of_ok 0 p.0 got.header are.one got.first_ok in
    let second = bytes_of_ok 1 p.1 c.payload are.two got.second_ok in
    let third = bytes_of_ok 2 p.2 c.signature are.three got.third_ok in
    record {
      short = short;
      whole_is = sym got.whole_is;
      input = record {
        header = got.header;
        header_is = names_in_ok got.header _ got.names_ok forms.typ_utf8 forms.kid_utf8;
        payload_bytes = forms.payload_bytes;
        signed_is = sym got.signed_is ∙ ap₂ (λ a b. a ++ stop ∷ b) first second;
      };
      signature_bytes = forms.signature_bytes;
      text_is = is ∙ ap₂ (λ a b. a ++ stop ∷ b) got.signed_is third;
    }

short_of_ok : (x : List ℕ) (long : Bool) (o : Option (List ℕ × List ℕ × List ℕ)) (c : Compact) → cond long (Err TooLong) (ok_or o Parts >>= compact_of x) ≡ Ok c
    → (long ≡ false) × ((p : List ℕ × List ℕ × List ℕ) × (o ≡ Some p) × (compact_of x p ≡ Ok c))
short_of_ok x true o c e = cc e
short_of_ok x false None c e = cc e
short_of_ok x false (Some p) c e = (refl, (p, refl, e))

pub found : (x : List ℕ) (c : Compact) → IsBytes x → HasForms c → splitting x ≡ Ok c → IsCompact x c
unfolding splitting
found x c bytes forms e =
    let got = short_of_ok x (nat_lt max_bytes (length x)) (three_of (parts_of x)) c e in
    let p = got.1.0 in
    let are = joined_parts x p.0 p.1 p.2 (three_of_some (parts_of x) p got.1.1) in
    let short : length x ≤ max_bytes = grind (arith, nat_tests, got.0) in
    compact_of_ok x p c are bytes short forms got.1.2

-- the same of an answer
pub found_by : (r : Result Compact FormFault) (x : List ℕ) → IsBytes x → IfOk r HasForms → Gives r (splitting x) → IfOk r (IsCompact x)
found_by (Ok c) x bytes forms e = found x c bytes forms e
found_by (Err fault) x bytes forms e = tt

-- ---- what is written reads

pub IsSigningInput-written : (r : Result (List ℕ) Memory) (header payload : List ℕ) (alg : Alg) (typ kid : Option (List ℕ)) → IfOk r (λ text. text ≡ signing_input_of header payload)
    → IsBytes payload → IsHeaderText header alg typ kid → IfOk r (λ text. IsSigningInput text payload alg typ kid)
IsSigningInput-written (Ok text) header payload alg typ kid is bytes reads = record { header = header; header_is = reads; payload_bytes = bytes; signed_is = is }
IsSigningInput-written (Err want) header payload alg typ kid is bytes reads = tt
