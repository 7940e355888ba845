-- How many signatures the conditions on a trust mark reach whose header names a key.
use Rattle.std.specs.Prelude.{◌+◌, ℕ, is_some, if◌then◌else◌}
use Rattle.std.specs.Option.{option_map_or}
use Rattle.sealed.specs.Deciding.{is_sealed_by}
use Rattle.sealed.specs.Tests.{tests_under}
use Rattle.entity_statement.specs.Claims.{OwnerClaims}
use Rattle.trust_mark.specs.Conditions.{claims_reason, is_for}
use Rattle.trust_mark.specs.Marks.{Case, delegation_of, mark_of, owner_of}
use Rattle.trust_mark.specs.declared.mark.Mark.{Mark}

-- the test of a delegation, where nothing before its signature fails (section 7.2)
unfoldable pub delegation_tests : Mark → ℕ → OwnerClaims → ℕ
delegation_tests mark t owner =
    option_map_or (λ text. option_map_or (λ d. if is_for mark t owner d then tests_under owner.keys text else 0) (delegation_of text) 0)
    mark.delegation 0

-- the test of a mark and, where the mark is sealed and its type has an owner, that of its delegation (section 7.3)
unfoldable pub tests_from_signature : Case → Mark → ℕ
tests_from_signature case mark =
    tests_under case.keys case.entry.text
    + (if is_sealed_by case.entry.text case.keys then option_map_or (delegation_tests mark case.moment) (owner_of case.anchor mark.mark_type) 0 else 0)

-- none where a condition before the signature fails
unfoldable pub mark_tests : Case → ℕ
mark_tests case =
    option_map_or (λ mark. if is_some (claims_reason case mark) then 0 else tests_from_signature case mark) (mark_of case.entry.text) 0
