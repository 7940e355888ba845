-- What the answers of a session have to do with the round that its driver makes.
use Rattle.std.specs.Prelude.{◌≡◌, ◌≤◌, List, length, map, Some}
use Rattle.chain_climb.specs.declared.path.Path.{Path}
use Rattle.chain_climb.specs.declared.answer.Answer.{Answer}
use Rattle.chain_climb.specs.declared.answer.Answer.TheVariants.{PolicyFails, Invalid}
use Rattle.chain_climb.specs.declared.answer.Report.{Report}
use Rattle.chain_climb.specs.declared.answer.Verdict.{Verdict}
use Rattle.chain_climb.specs.Climbs.{Need, Step, added, needed, with_chain}
use Rattle.chain_climb.specs.Sessions.{IsPageAnswer, Search, answer_to, finding_in}
use Rattle.chain_climb.specs.Elements.{Among}
use Rattle.resolve_round.specs.Courses.{Counts, Course, first_needs, is_budget, url_of}
use Rattle.resolve_round.specs.Pages.{HasValidChain, PassesToMerge, Query}
use Rattle.resolve_round.specs.Rounds.{StopsAt, good_in, need_url, pages_in}

-- the answer on a chain that isn't valid: it fails by its policies alone, or before them
abbrev pub IsRuling : Answer → Type 0 → Type 0 → Type 0
IsRuling PolicyFails Merges Valid = Merges × ¬ Valid
IsRuling Invalid Merges Valid = (¬ Merges) × ¬ Valid
IsRuling answer Merges Valid = ⊥

-- each answer says what the page that the round got says, and each path that was judged isn't valid, as its answer says
pub record AnswersTell (query : Query) (course : Course) (s : Search) : Type 0 where
  pub leaf : s.leaf ≡ query.entity
  pub anchor : s.anchor ≡ query.anchor
  pub bounds : s.bounds ≡ query.bounds
  pub pages : (page : Need) (answer : Report) → answer_to s.pages page ≡ Some answer → IsPageAnswer answer → finding_in answer ≡ good_in query course page
  pub verdicts : (v : Verdict) → Among v s.verdicts → (path : Path) → v.path ≡ with_chain path
      → IsRuling v.answer (PassesToMerge query (pages_in course) path) (HasValidChain query (pages_in course) path)

-- the round asked for what the steps that are done needed, and stops at what is left
pub record IsMadeBy (query : Query) (course : Course) (taken left : List Step) : Type 0 where
  pub leaf : course.search.leaf ≡ query.entity
  pub needs : course.needs ≡ first_needs (needed taken)
  pub asks : map url_of course.search.asks ≡ map need_url course.needs
  pub counts : Counts course.search
  pub paths : course.search.paths ≡ length (added taken)
  pub few_calls : course.search.calls ≤ query.bounds.calls
  pub ended : course.search.ended ≡ is_budget course.stop
  pub stops : StopsAt query (HasValidChain query (pages_in course)) course left course.stop
