-- A place in a policy or in metadata: an entity type, and a parameter of it (OpenID Federation 1.0 section 6.1.2).
use Rattle.std.specs.Prelude.{◌≡◌, ◌⊎◌, IsTrue}
use Rattle.std.specs.Str.{is_utf8}
use Rattle.fed_json.specs.Forms.{is_before}
use Rattle.fed_json.specs.Tables.{Name}

-- the first place is at an earlier entity type, or at an earlier parameter of the same, in byte order
abbrev pub IsEarlier : Name → Name → Name → Name → Type 0
IsEarlier t p entity_type parameter = IsTrue (is_before t entity_type) ⊎ ((t ≡ entity_type) × IsTrue (is_before p parameter))

-- both names are UTF-8 (RFC 8259 section 8.1)
abbrev pub AreUtf8 : Name → Name → Type 0
AreUtf8 entity_type parameter = IsTrue (is_utf8 entity_type) × IsTrue (is_utf8 parameter)
