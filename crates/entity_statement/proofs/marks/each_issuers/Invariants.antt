use Rattle.std.proofs.Common.{◌≡◌, ◌++◌, drop, option_map}
use Rattle.fed_json.specs.Trees.{each}
use Rattle.entity_statement.specs.Forms.{issuers_in}
use Rattle.entity_statement.proofs.marks.each_issuers.Given as goal

abbrev pub invariant-loop-member : goal.invariant-loop-member
invariant-loop-member l = each issuers_in l.members ≡ option_map (λ rest. l.issuers ++ rest) (each issuers_in (drop l.member-index l.members))
