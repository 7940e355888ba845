-- Members of one form (RFC 8259 section 4).
use Rattle.std.specs.Prelude.{ℕ, pos, List}
use Rattle.fed_json.specs.declared.tree.Json.{Int, Text}
use Rattle.fed_json.specs.declared.tree.Member.{Member}
use Rattle.fed_json.specs.Reading.{member_of}

-- a member of that name that is a text
abbrev pub text_member : List ℕ → List ℕ → Member
text_member name text = member_of name (Text text)

-- a member of that name that is a number (RFC 8259 section 6)
abbrev pub number_member : List ℕ → ℕ → Member
number_member name n = member_of name (Int (pos n))
