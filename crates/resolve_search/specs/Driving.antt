-- What holds between the session of a round, what the round has done, and what its trace tells.
use Rattle.std.specs.Prelude.{◌≡◌, ◌≤◌, ℕ, List, [], ◌++◌, map, filter_map, zip, bytes_eq, Bool, Some, if◌then◌else◌}
use Rattle.std.specs.List.{list_any}
use Rattle.chain_climb.specs.declared.answer.PageAnswer.{PageAnswer}
use Rattle.chain_climb.specs.declared.answer.Report.{Report}
use Rattle.chain_climb.specs.declared.answer.Verdict.{Verdict}
use Rattle.chain_climb.specs.declared.path.Path.{Path}
use Rattle.chain_climb.specs.Climbs.{Need, with_chain}
use Rattle.chain_climb.specs.Elements.{Among}
use Rattle.chain_climb.specs.Sessions.{IsPageAnswer, Search as Searched, answer_to, calls_in, finding_in, was_asked}
use Rattle.resolve_round.specs.declared.aim.Aim.{Aim}
use Rattle.resolve_round.specs.declared.trace.Ask.{Ask}
use Rattle.resolve_round.specs.declared.trace.Trace.{Trace}
use Rattle.resolve_round.specs.Answers.{IsRuling}
use Rattle.resolve_round.specs.Courses.{pages_of, url_of}
use Rattle.resolve_round.specs.Following.{Follows}
use Rattle.resolve_round.specs.Getting.{Point}
use Rattle.resolve_round.specs.Pages.{HasValidChain, PassesToMerge, Query, findings}
use Rattle.resolve_round.specs.Rounds.{need_url}
use Rattle.resolve_round.specs.Traces.{Kept, ShelfEvent, kept_of, look_for, looks_in, puts_in}

-- the Looks that the asks call for, in a round that looks into the cache
abbrev pub looks_for : Bool → ℕ → List Ask → List ShelfEvent
looks_for looks t asks = if looks then map (look_for t) asks else []

-- the Puts that they call for
abbrev pub puts_for : ℕ → ℕ → List Need → List Ask → List Kept
puts_for t age needs asks = filter_map (kept_of t age) (zip needs asks)

-- the answers to pages say what the round got of them
abbrev pub PagesTell : Query → Searched → List Ask → Type 0
PagesTell query s asks = (page : Need) (answer : Report) → answer_to s.pages page ≡ Some answer → IsPageAnswer answer → finding_in answer ≡ findings (pages_of asks) query.moment page

-- a verdict says what the chain is by the pages that the round got, all of which were asked for
pub record Rules (query : Query) (asks : List Ask) (v : Verdict) : Type 0 where
  pub ruling : (path : Path) → v.path ≡ with_chain path → IsRuling v.answer (PassesToMerge query (pages_of asks) path) (HasValidChain query (pages_of asks) path)
  pub asked : (url : List ℕ) → Among url (v.path).urls → Among url (map url_of asks)

-- the round has asked for what its session needed up to now, with these needs, since the trace was so
pub record Drives (aim : Aim) (query : Query) (start : Trace) (s : Searched) (needs : List Need) (p : Point) : Type 0 where
  pub moment : p.trace.moment ≡ query.moment
  pub follows : Follows s needs
  pub asks : map url_of p.search.asks ≡ map need_url needs
  pub pages : PagesTell query s p.search.asks
  pub answered : (a : PageAnswer) → Among a s.pages → IsPageAnswer a.answer
  pub verdicts : (v : Verdict) → Among v s.verdicts → Rules query p.search.asks v
  pub flags : (url : List ℕ) → was_asked s.pages url ≡ list_any (bytes_eq url) (map url_of p.search.asks)
  pub calls : calls_in s.pages ≡ p.search.calls
  pub few : p.search.calls ≤ aim.bounds.calls
  pub looks : looks_in p.trace.events ≡ looks_in start.events ++ looks_for aim.looks query.moment p.search.asks
  pub puts : puts_in p.trace.events ≡ puts_in start.events ++ puts_for query.moment aim.age needs p.search.asks
