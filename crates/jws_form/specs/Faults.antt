-- What each fault says of a text, apart from the order in which faults are told.
use Rattle.std.specs.Prelude.{◌≡◌, ◌≢◌, ◌<◌, ℕ, List, [], length, count_by, slice_index_or, codes, Option, Some, None, option_map}
use Rattle.base64.specs.GeneralPurpose.{IsBytes}
use Rattle.fed_base.specs.declared.algorithm.Alg.{Alg}
use Rattle.fed_json.specs.declared.tree.Json.{Text, Object}
use Rattle.fed_json.specs.declared.tree.Member.{Member}
use Rattle.fed_json.specs.Trees.{find}
use Rattle.fed_json.specs.Reading.{tree_in}
use Rattle.jws_form.specs.declared.fault.FormFault.{FormFault}
use Rattle.jws_form.specs.declared.fault.FormFault.TheVariants.{TooLong, Parts, Base64, Header, Crit, Algorithm, Memory}
use Rattle.base64url.specs.Base64url.{base64url}
use Rattle.jws_form.specs.Compact.{max_bytes}
use Rattle.jws_form.specs.Header.{algorithm}
use Rattle.jws_form.specs.Splitting.{is_stop, parts_of}

-- the part with this number, from 0 to 2 (RFC 7515 section 7.1)
abbrev pub part : List ℕ → ℕ → List ℕ
part x number = slice_index_or (parts_of x) number []

-- the text's header is an object of these members (RFC 7515 section 4)
pub record HasHeader (x : List ℕ) (members : List Member) : Type 0 where
  pub bytes : List ℕ
  pub part_is : part x 0 ≡ base64url bytes
  pub reads : tree_in bytes ≡ Some (Object members)

-- the member of that name is absent or a text (RFC 7515 section 4)
abbrev pub IsTextWhere : List ℕ → List Member → Type 0
IsTextWhere name members = (value : Option (List ℕ)) × (find name members ≡ option_map Text value)

-- the members that are looked at are texts where they are there (RFC 7515 sections 4.1.9, 4.1.4 and 4.1.1)
pub record HasTexts (members : List Member) : Type 0 where
  pub typ : IsTextWhere (codes "typ") members
  pub kid : IsTextWhere (codes "kid") members
  pub alg : IsTextWhere (codes "alg") members

-- what the fault says of the text (RFC 7515 section 5.2)
abbrev pub HasFault : List ℕ → FormFault → Type 0
HasFault x TooLong = max_bytes < length x
HasFault x Parts = count_by is_stop x ≢ 2
HasFault x (Base64 number) = (bytes : List ℕ) → IsBytes bytes → part x number ≢ base64url bytes
HasFault x Header = (members : List Member) → HasHeader x members → ¬ HasTexts members
HasFault x Crit = (members : List Member) × HasHeader x members × (find (codes "crit") members ≢ None)
HasFault x Algorithm = (members : List Member) × HasHeader x members × ((alg : Alg) → find (codes "alg") members ≢ Some (Text (algorithm alg)))
HasFault x Memory = Unit {0}
