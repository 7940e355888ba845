-- That a round asked for what its session wanted, in that order.
use Rattle.std.specs.Prelude.{◌≡◌, List, map, Some}
use Rattle.chain_climb.specs.declared.answer.Report.{Report}
use Rattle.chain_climb.specs.declared.answer.Verdict.{Verdict}
use Rattle.chain_climb.specs.declared.want.Want.{Want}
use Rattle.chain_climb.specs.Climbs.{Findings, Need, needed}
use Rattle.chain_climb.specs.Elements.{Among}
use Rattle.chain_climb.specs.Sessions.{Extends, IsNextBy, IsNoChain, Search, answer_to}
use Rattle.resolve_round.specs.Courses.{first_needs}
use Rattle.resolve_round.specs.Rounds.{need_url}

-- these are the first needs of the steps that are done, by the answers so far and by whatever is found later
pub record Follows (s : Search) (needs : List Need) : Type 0 where
  pub are : (found : Findings) (want : Want) → Extends found s.pages → (next : IsNextBy found s want) → first_needs (needed next.taken) ≡ needs
  -- each page that was answered has the URL of one of them
  pub asked : (page : Need) (answer : Report) → answer_to s.pages page ≡ Some answer → Among page.url (map need_url needs)
  -- no path that was judged is valid
  pub none : (v : Verdict) → Among v s.verdicts → IsNoChain v.answer
