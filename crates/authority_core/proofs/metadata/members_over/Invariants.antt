use Rattle.std.proofs.Common.{◌≡◌, ◌+◌, ◌++◌, length, map, true}
use Rattle.fed_json.specs.Forms.{rising}
use Rattle.fed_json.specs.Trees.{member_name}
use Rattle.chain_check.specs.Metadata.{parameters_over}
use Rattle.authority_core.proofs.metadata.members_over.Given as goal

abbrev pub invariant-loop-side : goal.invariant-loop-side
invariant-loop-side l =
    (parameters_over l.fn.upper l.fn.own ≡ l.all ++ parameters_over l.sides.upper.now l.sides.lower.now)
    × (rising (map member_name l.sides.upper.now) ≡ true) × (rising (map member_name l.sides.lower.now) ≡ true)

abbrev pub decreases-loop-side : goal.decreases-loop-side
decreases-loop-side l = length l.sides.upper.now + length l.sides.lower.now
