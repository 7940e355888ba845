-- How the chain of a path is judged by what a trace shows, and what it is judged to be (OpenID Federation 1.0 section 10.2).
use Rattle.std.specs.Prelude.{◌≡◌, ◌≤◌, ◌+◌, ℕ, List, [], ◌∷◌, ◌++◌, filter_map, find, bytes_eq, Bool, false, Option, Some, option_map, slice_get, slice_set}
use Rattle.std.specs.Option.{option_map_or}
use Rattle.sealed.specs.Seals.{Pair}
use Rattle.entity_statement.specs.declared.signed.SignedStatement.{SignedStatement}
use Rattle.chain_check.specs.Chains.{Texts, max_statements}
use Rattle.chain_check.specs.Judging.{AtSeal, IsKnownSeal, pair_of, texts_of}
use Rattle.chain_check.specs.Reading.{AreRead}
use Rattle.chain_check.specs.Validity.{Case, IsValid, ToSignatures, case_of, chain_of}
use Rattle.chain_check.specs.Verdicts.{CanBeWritten, IsVerdictOn}
use Rattle.chain_check.specs.declared.reason.Reason.{Reason}
use Rattle.chain_check.specs.declared.reason.Reason.TheVariants.{Conflict, Policy}
use Rattle.chain_check.specs.declared.verdict.Resolved.{Resolved}
use Rattle.chain_check.specs.declared.tried.Tried.{Tried}
use Rattle.chain_check.specs.declared.verdict.Verdict.{Verdict}
use Rattle.chain_check.specs.declared.verdict.Verdict.TheVariants as answer
use Rattle.chain_climb.specs.Elements.{Among}
use Rattle.fed_base.specs.Places.{HoldsBelow}
use Rattle.resolve_search.specs.declared.judging.Ruling.{Ruling}
use Rattle.resolve_search.specs.declared.judging.Ruling.TheVariants.{Valid, PolicyFails, Invalid}
use Rattle.resolve_search.specs.declared.judging.Turn.{Turn}
use Rattle.resolve_search.specs.declared.judging.Turn.TheVariants.{Ruled, More}
use Rattle.resolve_round.specs.declared.trace.Ask.{Ask}
use Rattle.resolve_round.specs.declared.trace.Trace.{Trace}
use Rattle.resolve_round.specs.Courses.{pages_of, text_got, url_of}
use Rattle.resolve_round.specs.Knowing.{IsKnownGood}
use Rattle.resolve_round.specs.Pages.{ToMerge}
use Rattle.resolve_round.specs.Told.{ShowsSeals}

-- a text of whose signature nothing is known
abbrev pub untried : List ℕ → Tried
untried text = record { text = text; seals = []; misses = [] }

-- the texts that the asks gave at these URLs
abbrev pub texts_at : List Ask → List (List ℕ) → Texts
texts_at asks urls = filter_map (pages_of asks) urls

-- the ask gave this text
abbrev pub gives_text : List ℕ → Ask → Bool
gives_text text ask = option_map_or (λ got. bytes_eq got text) (text_got ask.got) false

-- the URL of the first ask that did
unfoldable pub url_for : List Ask → List ℕ → Option (List ℕ)
url_for asks text = option_map url_of (find (gives_text text) asks)

-- the asks gave each text of the chain
abbrev pub AreGot : List Ask → Texts → Type 0
AreGot asks texts = (text : List ℕ) → Among text texts → (url : List ℕ) × (url_for asks text ≡ Some url)

-- what a chain is judged by, under the keys and at the moment of a trace
abbrev pub case_at : Trace → List ℕ → Texts → Case
case_at trace anchor texts = case_of texts anchor trace.keys.keys trace.moment

-- it passes the classes of failures before Signature, and these are its statements
pub record IsCandidate (case : Case) (entries : List SignedStatement) : Type 0 where
  pub passes : ToSignatures case
  pub read : AreRead case.texts entries

-- the text at the place has a seal more
pub record IsSealedMore (old : List Tried) (place : ℕ) (public : List ℕ) (new : List Tried) : Type 0 where
  pub tried : Tried
  pub there : slice_get old place ≡ Some tried
  pub is : new ≡ slice_set old place (record tried { seals = tried.seals ++ pair_of tried public ∷ [] })

-- each seal that is known of a text is of this text, and shown by the trace; no key is known to fail
pub record IsShown (trace : Trace) (tried : Tried) : Type 0 where
  pub each : (seal : Pair) → Among seal tried.seals → (seal.text ≡ tried.text) × IsKnownGood trace seal
  pub unmissed : tried.misses ≡ []

-- the chain of the case, whose seals below one are known
pub record IsTried (trace : Trace) (case : Case) (turn : ℕ) (chain : List Tried) : Type 0 where
  pub are : texts_of chain ≡ case.texts
  pub shown : (tried : Tried) → Among tried chain → IsShown trace tried
  pub known : HoldsBelow (AtSeal IsKnownSeal chain (chain_of case) case.keys) turn

-- a valid chain with what it resolves to, whose seals the trace shows
pub record IsFound (trace : Trace) (case : Case) (chain : List Tried) (resolved : Resolved) : Type 0 where
  pub verdict : IsVerdictOn case (answer.Valid resolved)
  pub written : CanBeWritten (answer.Valid resolved)
  pub are : texts_of chain ≡ case.texts
  pub shown : ShowsSeals trace case.texts

-- a chain is judged to be valid, to fail by its policies alone, or to fail before them
abbrev pub IsRuled : Trace → Case → Ruling → Type 0
IsRuled trace case (Valid chain resolved) = IsFound trace case chain resolved
IsRuled trace case PolicyFails = ToMerge case × ¬ IsValid case
IsRuled trace case Invalid = (¬ ToMerge case) × ¬ IsValid case

-- what a refusal is: a failure by the policies alone, or one before them
abbrev pub refused_as : Reason → Ruling
refused_as (Conflict t p f s) = PolicyFails
refused_as (Policy t p o) = PolicyFails
refused_as reason = Invalid

-- what a verdict on the chain is
abbrev pub IsRulingOf : List Tried → Verdict → Ruling → Type 0
IsRulingOf chain (answer.Valid resolved) ruling = ruling ≡ Valid chain resolved
IsRulingOf chain (answer.Refused place reason) ruling = ruling ≡ refused_as reason

-- a turn of a judgement tells what the chain is, or makes one seal more known of those that a chain can need
abbrev pub IsTurn : Trace → Case → ℕ → Turn → Type 0
IsTurn trace case turn (Ruled ruling) = IsRuled trace case ruling
IsTurn trace case turn (More chain) = (turn ≤ max_statements) × IsTried trace case (turn + 1) chain
