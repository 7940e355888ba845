use Rattle.fed_json.proofs.Among.{same_from_equal}
use Rattle.policy_merge.proofs.merging.agree.Goals as goal

pub returns-in-Some-Some : goal.returns-in-Some-Some
returns-in-Some-Some c = rw (c.in-Some-Some.is-0, c.in-Some-Some.is-1) (same_from_equal _ _ c.json_equal.result c.json_equal.ensures.equal)
