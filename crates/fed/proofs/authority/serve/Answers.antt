use Rattle.std.proofs.Common.{refl}
use Rattle.fed.proofs.AuthorityLaws.{runs_input, runs_memory}
use Rattle.fed.proofs.authority.serve.Goals as goal
use Rattle.fed.proofs.authority.serve.Goals.{in-Own-5, in-Shared-5}

pub returns-in-Input-clause-runs : goal.returns-in-Input-clause-runs
returns-in-Input-clause-runs g c = runs_input _ _ _ _ _ _ c.in-Input.is c.serve_authority-end.ensures.ends c.write_line-in-Input.ensures c.serve_authority-end.ensures.exchanges

-- memory was wanting, whether the bytes of the line are shared or not
pub returns-clause-runs : goal.returns-clause-runs
returns-clause-runs g c =
    elim c.match-line-5.branch [
      | in-Own-5 w ↦ rw w.ports-is (runs_memory _ _ _ _ _ c.in-Memory.is c.serve_authority-end.ensures.ends refl refl c.serve_authority-end.ensures.exchanges)
      | in-Shared-5 w ↦ rw w.ports-is (runs_memory _ _ _ _ _ c.in-Memory.is c.serve_authority-end.ensures.ends refl refl c.serve_authority-end.ensures.exchanges)
    ]
