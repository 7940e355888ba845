-- What looking at one entry answers; no public clause cites it.
use Rattle.std.specs.Prelude.{◌≡◌, ◌⊎◌, ℕ, List, [], ◌∷◌, ◌++◌, IsTrue, bytes_eq, if◌then◌else◌, Option, Some, None, option_map, ◌↔◌}
use Rattle.std.specs.Option.{option_map_or}
use Rattle.std.specs.List.{list_any}
use Rattle.jwk_set.specs.declared.jwk.Jwk.{Jwk}
use Rattle.entity_statement.specs.Claims.{Identifier}
use Rattle.entity_statement.specs.declared.marks.MarkEntry.{MarkEntry}
use Rattle.trust_mark.specs.Counts.{mark_tests}
use Rattle.trust_mark.specs.Marks.{Case, IsGood}
use Rattle.trust_mark.specs.Verdicts.{IsVerdictOn, is_good}
use Rattle.trust_mark.specs.declared.verdict.MarkVerdict.{MarkVerdict}
use Rattle.trust_mark.specs.declared.verdict.MarkVerdict.TheVariants.{Good, Bad}
use Rattle.resolve_reply.specs.declared.issuers.Issuer.{Issuer}
use Rattle.resolve_reply.specs.declared.marks.GoodMarks.{GoodMarks}
use Rattle.resolve_reply.specs.Replies.{least_end}

-- the keys of an issuer, where there is one, and the text of its configuration
abbrev pub keys_in : Option Issuer → Option (List Jwk)
keys_in issuer = option_map (λ (i : Issuer). i.keys.keys) issuer

abbrev pub text_in : Option Issuer → Option (List ℕ)
text_in issuer = option_map (λ (i : Issuer). i.text) issuer

-- the entry was added, and its end counts
abbrev pub Takes : MarkEntry → Option ℕ → GoodMarks → GoodMarks → Type 0
Takes entry end old new = (new.entries ≡ old.entries ++ entry ∷ []) × (new.exp ≡ least_end old.exp end)

-- nothing was added, or an entry with the configuration of its mark's issuer
abbrev pub AddsConfig : MarkEntry → Option (List ℕ) → GoodMarks → GoodMarks → Type 0
AddsConfig entry text old new =
    ((new.entries ≡ old.entries) × (new.configs ≡ old.configs))
    ⊎ ((config : List ℕ) × (text ≡ Some config) × (new.entries ≡ old.entries ++ entry ∷ []) × (new.configs ≡ old.configs ++ config ∷ []))

-- an entry is taken where the verdict is good, else nothing changes
abbrev pub TakesBy : MarkEntry → MarkVerdict → GoodMarks → GoodMarks → Type 0
TakesBy entry (Good end) old new = Takes entry end old new
TakesBy entry (Bad reason) old new = new ≡ old

-- the verdict on a case, which is good exactly where some mark of it is
pub record Decides (case : Case) (verdict : MarkVerdict) : Type 0 where
  pub verdict_is : IsVerdictOn case verdict
  pub only : IsTrue (is_good verdict) ↔ IsGood case

-- an entry is looked at by the keys of its mark's issuer; without keys nothing changes
abbrev pub IsLookedAt : (List Jwk → Case) → Option (List Jwk) → GoodMarks → GoodMarks → Type 0
IsLookedAt case None old new = new ≡ old
IsLookedAt case (Some keys) old new = (verdict : MarkVerdict) × Decides (case keys) verdict × TakesBy (case keys).entry verdict old new

-- so many signatures are tested
abbrev pub tests_with : (List Jwk → Case) → Option (List Jwk) → ℕ
tests_with case keys = option_map_or (λ ks. mark_tests (case ks)) keys 0

-- an issuer is added where it isn't there yet
abbrev pub added_once : List Identifier → Option Identifier → List Identifier
added_once kept None = kept
added_once kept (Some id) = if list_any (bytes_eq id) kept then kept else kept ++ id ∷ []
