-- Which names match a host (OpenID Federation 1.0 section 6.2.2, RFC 5280 section 4.2.1.10).
use Rattle.std.specs.Prelude.{◌≡◌, ◌<◌, ◌-◌, ℕ, ◌&&◌, List, ◌++◌, length, drop, codes, nat_lt, nat_eq, Bool, MatchBool, if◌then◌else◌}
use Rattle.std.specs.List.{starts_with}
use Rattle.std.specs.Str.{str_to_ascii_lowercase, str_eq_ignore_ascii_case}

-- a full stop stands in front: the name is that of all hosts below a domain
abbrev pub names_subdomains : List ℕ → Bool
names_subdomains name = starts_with nat_eq name (codes ".")

-- the host matches the name
unfoldable pub matches : List ℕ → List ℕ → Bool
matches host name =
    if names_subdomains name
    then nat_lt (length name) (length host) && str_eq_ignore_ascii_case (drop (length host - length name) host) name
    else str_eq_ignore_ascii_case host name

-- the two are equal but for the case of ASCII letters
abbrev pub IsSame : List ℕ → List ℕ → Type 0
IsSame a b = str_to_ascii_lowercase a ≡ str_to_ascii_lowercase b

-- the host is one byte or more, and then the name
abbrev pub IsBelow : List ℕ → List ℕ → Type 0
IsBelow host name = (front : List ℕ) × (back : List ℕ) × (host ≡ front ++ back) × (0 < length front) × IsSame back name

-- `matches` in other words
abbrev pub IsMatch : List ℕ → List ℕ → Type 0
IsMatch host name = MatchBool (names_subdomains name) (IsBelow host name) (IsSame host name)
