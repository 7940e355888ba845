-- What taking a text apart answers: its parts, or the first fault.
use Rattle.std.specs.Prelude.{◌≡◌, ℕ, ◌==◌, List, [], ◌∷◌, ◌++◌, length, codes, nat_lt, Bool, is_some, Option, Some, None, option_and_then, ok_or, IfSome, Result, Ok, Err, if◌then◌else◌}
use Rattle.std.specs.List.{slice_split}
use Rattle.std.specs.Str.{IsUtf8}
use Rattle.base64.specs.GeneralPurpose.{IsBytes}
use Rattle.fed_json.specs.declared.tree.Json.{Json}
use Rattle.fed_json.specs.declared.tree.Member.{Member}
use Rattle.fed_json.specs.Trees.{find, as_text, as_object, optional}
use Rattle.fed_json.specs.Reading.{tree_in}
use Rattle.fed_base.specs.Answers.{◌>>=◌}
use Rattle.jws_form.specs.declared.compact.Compact.{Compact}
use Rattle.jws_form.specs.declared.header.Names.{Names}
use Rattle.jws_form.specs.declared.fault.FormFault.{FormFault}
use Rattle.jws_form.specs.declared.fault.FormFault.TheVariants.{TooLong, Parts, Base64, Header, Crit, Algorithm, Memory}
use Rattle.base64url.specs.Base64url.{decoded}
use Rattle.jws_form.specs.Header.{algorithm_of}
use Rattle.jws_form.specs.Compact.{max_bytes, stop}

-- the answer is the one that is expected, unless memory was wanting
abbrev pub GivesBy : {X Y : Type 0} → (X → Y) → Result X FormFault → Result Y FormFault → Type 0
GivesBy view (Ok x) expected = expected ≡ Ok (view x)
GivesBy view (Err Memory) expected = Unit {0}
GivesBy view (Err fault) expected = expected ≡ Err fault

-- the same of an answer that is seen as it stands
abbrev pub Gives : {X : Type 0} → Result X FormFault → Result X FormFault → Type 0
Gives = GivesBy (λ x. x)

-- the byte ends a part (RFC 7515 section 7.1)
abbrev pub is_stop : ℕ → Bool
is_stop byte = byte == stop

-- the text of a member that may be absent (RFC 7515 section 4)
abbrev pub text_of : Option Json → Result (Option (List ℕ)) FormFault
text_of value = ok_or (optional as_text value) Header

-- the algorithm, the type and the key name that the members of a header give (RFC 7515 section 4.1)
unfoldable pub names_of : List Member → Result Names FormFault
names_of members = do
  typ ← text_of (find (codes "typ") members)
  kid ← text_of (find (codes "kid") members)
  alg ← text_of (find (codes "alg") members)
  if is_some (find (codes "crit") members) then Err Crit
      else do
        known ← ok_or (option_and_then algorithm_of alg) Algorithm
        Ok (record { alg = known; typ = typ; kid = kid })

-- the same of a JSON text (RFC 7515 section 5.2, steps 3 to 5)
unfoldable pub names_in : List ℕ → Result Names FormFault
names_in bytes = do
  members ← ok_or (option_and_then as_object (tree_in bytes)) Header
  names_of members

-- the bytes of a part, by its number (RFC 7515 section 2)
unfoldable pub bytes_of : ℕ → List ℕ → Result (List ℕ) FormFault
bytes_of number part = ok_or (decoded part) (Base64 number)

-- the parts of a text between its full stops (RFC 7515 section 7.1)
unfoldable pub parts_of : List ℕ → List (List ℕ)
parts_of x = slice_split is_stop x

-- the three parts, where there are three (RFC 7515 section 7.1)
abbrev pub three_of : List (List ℕ) → Option (List ℕ × List ℕ × List ℕ)
three_of [] = None
three_of (first ∷ []) = None
three_of (first ∷ second ∷ []) = None
three_of (first ∷ second ∷ third ∷ []) = Some (first, second, third)
three_of (first ∷ second ∷ third ∷ fourth ∷ rest) = None

-- what three parts of a text give (RFC 7515 section 5.2)
unfoldable pub compact_of : List ℕ → List ℕ × List ℕ × List ℕ → Result Compact FormFault
compact_of x parts = do
  header ← bytes_of 0 parts.0
  payload ← bytes_of 1 parts.1
  signature ← bytes_of 2 parts.2
  names ← names_in header
  Ok (record {
    whole = x;
    alg = names.alg;
    typ = names.typ;
    kid = names.kid;
    payload = payload;
    signed = parts.0 ++ stop ∷ parts.1;
    signature = signature;
  })

-- what a text gives: its parts, or the first of its faults in the order of the variants
unfoldable pub splitting : List ℕ → Result Compact FormFault
splitting x =
    if nat_lt max_bytes (length x) then Err TooLong
    else do
      parts ← ok_or (three_of (parts_of x)) Parts
      compact_of x parts

-- the same of a text of any length, as a resolver's reply is: no text is too long
unfoldable pub long_splitting : List ℕ → Result Compact FormFault
long_splitting x = do
  parts ← ok_or (three_of (parts_of x)) Parts
  compact_of x parts

-- what the types of the code say of an answer's parts
pub record HasForms (c : Compact) : Type 0 where
  pub payload_bytes : IsBytes c.payload
  pub signature_bytes : IsBytes c.signature
  pub typ_utf8 : IfSome c.typ IsUtf8
  pub kid_utf8 : IfSome c.kid IsUtf8
